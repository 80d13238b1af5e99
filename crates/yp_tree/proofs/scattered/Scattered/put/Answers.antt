use Rattle.std.proofs.Common.{ap, ◌∙◌}
use Rattle.yp_base.specs.Rows.{put_row}
use Rattle.yp_tree.proofs.Merging.{put_pushed}
use Rattle.yp_tree.proofs.scattered.Scattered.put.Goals as goal

pub returns-clause-rows : goal.returns-clause-rows
returns-clause-rows c = put_pushed c.self.inside.rows.items c.push.new.self.items c.args.row c.in_ok-push.ensures.items ∙ ap (put_row c.args.row) c.self.view_is
