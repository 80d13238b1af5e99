use Rattle.std.proofs.Common.{◌≡◌, ◌*◌, ℕ, List}
use Rattle.yp_journal.specs.declared.entry.Entry.{Entry}
use Rattle.yp_journal.specs.declared.receiver.ReceiverInfo.{ReceiverInfo}
use Rattle.yp_serial.specs.Serial.{Served}
use Rattle.yp_live.specs.Runs.{GoesOn, IsOnItsWay, IsOnSomeWay}
use Rattle.yp_live.proofs.run.answer_all.Given as goal

-- fifteen offers were answered in each turn
abbrev pub invariant-loop-feed : goal.invariant-loop-feed
invariant-loop-feed l = record {
  way : IsOnSomeWay l.schema l.run.worker l.run.desks.items;
  goes : (start : ℕ) (receivers : List ReceiverInfo) (entries : List Entry) (served : Served)
      → IsOnItsWay l.schema start receivers entries served l.fn.run.worker l.fn.run.desks.items → GoesOn l.schema start receivers entries served (15 * l._feed) l.run.worker l.run.desks.items;
  replies : l.run.replies ≡ l.fn.run.replies;
}
