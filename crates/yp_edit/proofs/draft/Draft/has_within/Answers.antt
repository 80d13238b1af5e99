use Rattle.std.proofs.Common.{ap, sym, ◌∙◌}
use Rattle.yp_base.specs.Rows.{has_within}
use Rattle.yp_edit.specs.Bases.{untouched}
use Rattle.yp_edit.specs.Drafts.{Drafted}
use Rattle.yp_edit.proofs.Drafts.{within_first, within_else}
use Rattle.yp_edit.proofs.draft.Draft.has_within.Goals as goal

pub returns-then-found-clause-found : goal.returns-then-found-clause-found
returns-then-found-clause-found g c =
    within_first c.args.target.now c.self.inside.put (untouched c.self.inside.base) (sym c.in_ok-found.ensures.found ∙ c.if-found.true)
    ∙ ap (λ (d : Drafted). has_within c.args.target.now d.after) c.self.view_is

pub returns-clause-found : goal.returns-clause-found
returns-clause-found g c =
    within_else c.args.target.now c.self.inside.put (untouched c.self.inside.base) c.args.self.now.after c.has_within-2.result (sym c.in_ok-found.ensures.found ∙ c.if-found.false) (ap (λ (d : Drafted). d.after) c.self.view_is) c.has_within-2.ensures.found
