use Rattle.std.proofs.Common.{ap, ◌∙◌}
use Rattle.std.specs.Prelude.{is_some}
use Rattle.yp_base.specs.Rows.{value_at}
use Rattle.yp_edit.specs.Bases.{untouched}
use Rattle.yp_edit.specs.Drafts.{Drafted}
use Rattle.yp_edit.proofs.Drafts.{there_first, there_else}
use Rattle.yp_edit.proofs.draft.Draft.has.Goals as goal

pub returns-then-has : goal.returns-then-has
returns-then-has g c =
    there_first c.args.path.now c.self.inside.put (untouched c.self.inside.base) c.has.result c.len.ensures.order c.has.ensures c.if-has.true
    ∙ ap (λ (d : Drafted). is_some (value_at c.args.path.now d.after)) c.self.view_is

pub returns-else-has : goal.returns-else-has
returns-else-has g c =
    there_else c.args.path.now c.self.inside.put (untouched c.self.inside.base) c.has.result c.has-else-has.result c.len.ensures.order c.has.ensures c.if-has.false c.has-else-has.ensures
    ∙ ap (λ (d : Drafted). is_some (value_at c.args.path.now d.after)) c.self.view_is
