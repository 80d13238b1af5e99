use Rattle.yp_path.proofs.RuleReading.{path_of_text}
use Rattle.yp_path.proofs.laws.a_read_rule_path_is_of_its_schema.Goals as goal

pub returns : goal.returns
returns c = path_of_text c.read_text_fits.ensures
