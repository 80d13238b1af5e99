use Rattle.yp_path.proofs.RuleReading.{path_answered}
use Rattle.yp_path.proofs.rule.read_rule_path.Goals as goal

pub returns-in-Some-clause-path : goal.returns-in-Some-clause-path
returns-in-Some-clause-path c =
    path_answered c.read_text_fits.ensures c.args.schema.now c.in-Some.rest.now c.read_segments.result c.read_segments.ensures.read
