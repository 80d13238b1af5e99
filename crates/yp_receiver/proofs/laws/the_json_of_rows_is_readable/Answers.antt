use Rattle.yp_receiver.proofs.Rows.{rows_readable}
use Rattle.yp_receiver.proofs.laws.the_json_of_rows_is_readable.Goals as goal

pub returns : goal.returns
returns c = λ nodes at rows schema writable keys texts. rows_readable nodes schema at rows writable keys texts
