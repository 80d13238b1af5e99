use Rattle.yp_path.specs.TargetLaws.{path_answered}
use Rattle.yp_path.proofs.target.read_target.Goals as goal

pub returns-then-is_empty-clause-path : goal.returns-then-is_empty-clause-path
returns-then-is_empty-clause-path c =
    path_answered c.read_text_fits.ensures c.args.schema.now c.in-Some.rest.now c.read_segments.result c.read_segments.ensures
