use Rattle.std.proofs.Common.{◌≡◌, List, [], ◌∷◌, slice_index_or, slice_set, ap, ◌∙◌}
use Rattle.yp_log_share.specs.Seats.{AreOfLanesFrom, Seat}
use Rattle.journal_tests.proofs.followers.write.Goals as goal

-- the first seat is still of its lane
first_kept : (seats : List Seat) (old new : Seat) → AreOfLanesFrom 1 seats → old ≡ slice_index_or seats 0 old → new.lane ≡ old.lane → AreOfLanesFrom 1 (slice_set seats 0 new)
first_kept [] old new order is same = tt
first_kept (seat ∷ seats) old new order is same = (same ∙ (ap (λ (s : Seat). s.lane) is ∙ order.0), order.1)

pub finish-requires-clause-order : goal.finish-requires-clause-order
finish-requires-clause-order g c = first_kept c.args.seats.items c.index_mut.result.now c.submit_both.new.seat c.requires.order c.index_mut.ensures.value c.submit_both.ensures
