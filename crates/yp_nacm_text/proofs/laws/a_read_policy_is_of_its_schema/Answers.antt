use Rattle.yp_nacm_text.proofs.Paths.{read_is}
use Rattle.yp_nacm_text.proofs.laws.a_read_policy_is_of_its_schema.Goals as goal

pub returns : goal.returns
returns c = read_is c.a_read_rule_path_is_of_its_schema.ensures
