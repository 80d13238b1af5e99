use Rattle.std.proofs.Common.{◌≡◌, ℕ, ap, sym, ◌∙◌}
use Rattle.yp_attempt.specs.Moments.{Controls}
use Rattle.yp_feed.specs.declared.item.Control.TheVariants.{Modify}
use Rattle.yp_moment.specs.Entries.{goes_on_with}
use Rattle.yp_registry.specs.Registry.{live_at}
use Rattle.yp_slot.specs.LiveLaws.{found_id}
use Rattle.yp_slot.proofs.acts.amends.Goals as goal

pub returns-in-Some-clause-said : goal.returns-in-Some-clause-said
returns-in-Some-clause-said c =
    let found = rw c.in-Some.is at c.find.ensures in
    let terms = c.in-Some.terms.now in
    let same : terms.id ≡ c.args.id = found_id c.args.id c.args.live.now terms (sym found) in
    ap (λ (id : ℕ). Controls id (Modify terms.trigger c.args.told)) same ∙ ap (goes_on_with c.args.id c.args.told) found

pub returns-in-Some-clause-live : goal.returns-in-Some-clause-live
returns-in-Some-clause-live c =
    let found = rw c.in-Some.is at c.find.ensures in
    ap (λ (id : ℕ). live_at id c.args.live.now) (found_id c.args.id c.args.live.now c.in-Some.terms.now (sym found)) ∙ sym found
