use Rattle.yp_log_share.proofs.Seats.{lane_kept}
use Rattle.journal_tests.proofs.shared.life.Goals as goal

pub finish-finished-requires-clause-order : goal.finish-finished-requires-clause-order
finish-finished-requires-clause-order g c = lane_kept 1 0 c.in_ok-desk.field-0.seats.items c.index_mut.result.now c.goes_on-told.new.seat c.in_ok-desk.ensures.seats.1 c.index_mut.ensures.value c.goes_on-told.ensures
