use Rattle.yp_path.proofs.Parsing.{read_exactly}
use Rattle.yp_path.proofs.laws.rule_path_has_parts.Goals as goal

pub returns : goal.returns
returns c = read_exactly
