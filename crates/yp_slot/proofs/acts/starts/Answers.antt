use Rattle.std.proofs.Common.{ℕ, ap, sym, ◌∙◌}
use Rattle.yp_registry.specs.Registry.{live_at}
use Rattle.yp_slot.specs.LiveLaws.{found_id}
use Rattle.yp_slot.proofs.acts.starts.Goals as goal

pub returns-in-Some-clause-live : goal.returns-in-Some-clause-live
returns-in-Some-clause-live c =
    let found = rw c.in-Some.is at c.find.ensures in
    ap (λ (id : ℕ). live_at id c.args.live.now) (found_id c.args.id c.args.live.now c.in-Some.terms.now (sym found)) ∙ sym found
