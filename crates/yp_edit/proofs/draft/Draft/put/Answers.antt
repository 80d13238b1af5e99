use Rattle.std.proofs.Common.{ap, sym, subst, ◌∙◌}
use Rattle.yp_base.specs.Rows.{put_row}
use Rattle.yp_edit.specs.Bases.{Touched}
use Rattle.yp_edit.specs.Drafts.{Drafted, drafted, IsDraft}
use Rattle.yp_edit.proofs.Drafts.{lost_draft, put_draft, put_drafted}
use Rattle.yp_edit.proofs.draft.Draft.put.Goals as goal

pub invariant_of-self : goal.invariant_of-self
invariant_of-self g c = subst (λ (b : Touched). IsDraft b c.self.inside.put) (sym c.in_err-touch.ensures.unchanged) c.self.invariant

pub invariant_of-self-in_err-put : goal.invariant_of-self-in_err-put
invariant_of-self-in_err-put g c =
    subst (IsDraft c.touch.new.self) (sym c.in_err-put.ensures.unchanged)
    (lost_draft c.args.row.path c.self.inside.base c.touch.new.self c.self.inside.put c.len-2.ensures.order c.self.invariant c.in_ok-touch.ensures.lost)

pub invariant_of-self-2 : goal.invariant_of-self-2
invariant_of-self-2 g c =
    subst (IsDraft c.touch.new.self) (sym c.in_ok-put.ensures.rows)
    (put_draft c.args.row c.self.inside.base c.touch.new.self c.self.inside.put c.len-2.ensures.order c.self.invariant c.in_ok-touch.ensures.lost)

pub returns : goal.returns
returns g c =
    let step : Drafted → Drafted = λ d. record { before = d.before; after = put_row c.args.row d.after } in
    ap (drafted c.touch.new.self) c.in_ok-put.ensures.rows
    ∙ put_drafted c.args.row c.self.inside.base c.touch.new.self c.self.inside.put c.len.ensures.order c.len-2.ensures.order c.in_ok-touch.ensures.lost
    ∙ ap step c.self.view_is
