use Rattle.yp_data_json.proofs.Wholes.{read_whole}
use Rattle.yp_data_json.proofs.holding.what_is_read_is_whole.Goals as goal

pub returns : goal.returns
returns c = read_whole
