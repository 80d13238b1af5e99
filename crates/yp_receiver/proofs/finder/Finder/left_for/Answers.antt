use Rattle.std.proofs.Common.{sym, subst, ◌∙◌, List}
use Rattle.std.specs.Prelude.{option_copied}
use Rattle.yp_base.specs.declared.row.Row.{Row}
use Rattle.yp_receiver.specs.Finding.{AreLeft}
use Rattle.yp_receiver.proofs.Finding.{later_left}
use Rattle.yp_receiver.proofs.finder.Finder.left_for.Goals as goal

pub returns-else-is_behind : goal.returns-else-is_behind
returns-else-is_behind c =
    subst (λ (rows : List Row). AreLeft c.args.path.now rows c.self.inside.left.now) c.self.view_is
    (later_left c.args.path.now (option_copied c.self.inside.last) c.self.inside.rows.now c.self.inside.left.now (sym c.is_behind.ensures ∙ c.if-is_behind.false) c.self.invariant)
