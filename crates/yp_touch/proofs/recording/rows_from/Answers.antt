use Rattle.yp_touch.proofs.Windowed.{ends_path}
use Rattle.yp_touch.proofs.recording.rows_from.Goals as goal

pub select_at-requires-clause-path : goal.select_at-requires-clause-path
select_at-requires-clause-path g c = ends_path c.args.source.now.schema.now c.args.path.now c.requires.path

pub readable-requires : goal.readable-requires
readable-requires g c = ends_path c.args.source.now.schema.now c.args.path.now c.requires.path
