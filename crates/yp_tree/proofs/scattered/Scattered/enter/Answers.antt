use Rattle.std.proofs.Common.{sym, ap, ◌∙◌}
use Rattle.yp_base.specs.Rows.{put_row, value_at}
use Rattle.yp_tree.proofs.Merging.{absent, put_pushed}
use Rattle.yp_tree.proofs.scattered.Scattered.enter.Goals as goal

pub returns-clause-rows : goal.returns-clause-rows
returns-clause-rows c = put_pushed c.self.inside.rows.items c.push.new.self.items c.args.row c.in_ok-push.ensures.items ∙ ap (put_row c.args.row) c.self.view_is

pub returns-clause-absent : goal.returns-clause-absent
returns-clause-absent c =
    ap (value_at c.args.row.path) (sym c.self.view_is)
    ∙ absent c.self.inside.starts c.self.inside.rows.items c.args.row.path c.self.invariant (sym c.is_entry.ensures ∙ c.if-not-is_entry.false) (sym c.in_ok-note.ensures.before ∙ c.if-branch.false)
