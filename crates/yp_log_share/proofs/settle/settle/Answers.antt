use Rattle.std.proofs.Common.{◌≡◌, ◌+◌, length, ap, sym, subst, ◌∙◌, arith, length-append}
use Rattle.std.specs.Vec.Iter.{into_iter_items}
use Rattle.yp_log_share.specs.Seats.{AreOfLanesFrom}
use Rattle.yp_log_share.proofs.Seats.{all_taken, all_whole}
use Rattle.yp_log_share.proofs.settle.settle.Goals as goal

pub push_reserved-requires : goal.push_reserved-requires
push_reserved-requires g c =
    let lanes = c.loop-seat.lanes in
    let left = c.loop-seat.seat-iterator in
    omega (arith, ap length c.loop-seat.invariant.calls, length-append lanes.items (into_iter_items left), ap length c.in-Some.ensures.steps.0, c.loop-seat.invariant.room, lanes.ok.0)

pub returns-clause-calls : goal.returns-clause-calls
returns-clause-calls g c =
    let left = c.loop-seat.seat-iterator in
    all_taken c.loop-seat.lanes.items (into_iter_items left) c.args.seats.items c.loop-seat.invariant.calls (sym left.rest.ok.0 ∙ c.in-None.ensures.steps.0)

pub returns-clause-count : goal.returns-clause-count
returns-clause-count g c =
    let all : c.loop-seat.share.parts ≡ g.J.Ledger.parts = c.loop-seat.invariant.parts ∙ (ap length (returns-clause-calls g c) ∙ c.requires.every) in
    sym c.loop-seat.invariant.amount ∙ (c.audit.ensures.whole all ∙ c.requires.total)

pub returns-clause-whole : goal.returns-clause-whole
returns-clause-whole g c =
    all_whole 1 (g.J.Naming.opening.position + 1) c.args.front.now.entries c.loop-seat.lanes.items (subst (AreOfLanesFrom 1) (sym (returns-clause-calls g c)) c.requires.order) c.loop-seat.invariant.stand (returns-clause-count g c)
