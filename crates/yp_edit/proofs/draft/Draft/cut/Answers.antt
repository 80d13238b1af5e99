use Rattle.std.proofs.Common.{ap, sym, subst, ◌∙◌}
use Rattle.yp_base.specs.Rows.{rows_without}
use Rattle.yp_edit.specs.Drafts.{Drafted, drafted, IsDraft}
use Rattle.yp_edit.proofs.Drafts.{more_touched, cut_draft, cut_drafted}
use Rattle.yp_edit.proofs.draft.Draft.cut.Goals as goal

pub invariant_of-self : goal.invariant_of-self
invariant_of-self g c = more_touched c.self.inside.base c.touch_within.new.self c.self.inside.put c.self.invariant c.touch_within.ensures.stay

pub invariant_of-self-2 : goal.invariant_of-self-2
invariant_of-self-2 g c =
    subst (IsDraft c.touch_within.new.self) (sym c.in_ok-cut.ensures.rest)
    (cut_draft c.args.target.now c.touch_within.new.self c.self.inside.put (more_touched c.self.inside.base c.touch_within.new.self c.self.inside.put c.self.invariant c.touch_within.ensures.stay))

pub returns : goal.returns
returns g c =
    let step : Drafted → Drafted = λ d. record { before = d.before; after = rows_without c.args.target.now d.after } in
    ap (drafted c.touch_within.new.self) c.in_ok-cut.ensures.rest
    ∙ cut_drafted c.args.target.now c.self.inside.base c.touch_within.new.self c.self.inside.put c.len-2.ensures.order c.in_ok-touch_within.ensures.touched
    ∙ ap step c.self.view_is
