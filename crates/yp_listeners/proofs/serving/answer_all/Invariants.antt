use Rattle.std.proofs.Common.{◌≡◌, ◌*◌, ℕ, List}
use Rattle.yp_journal.specs.declared.entry.Entry.{Entry}
use Rattle.yp_journal.specs.declared.receiver.ReceiverInfo.{ReceiverInfo}
use Rattle.yp_attempt.specs.Runs.{Run}
use Rattle.yp_listeners.specs.Listeners.{GoesOn, HasServed, IsServing, numbers_in}
use Rattle.yp_listeners.proofs.serving.answer_all.Given as goal

-- fifteen offers were taken in each turn
abbrev pub invariant-loop-feed : goal.invariant-loop-feed
invariant-loop-feed l = record {
  serving : IsServing l.schema l.worker l.listeners.items;
  goes : (start : ℕ) (receivers : List ReceiverInfo) (mine : List ℕ) (entries : List Entry) (run : Run)
      → HasServed l.schema start receivers mine entries run l.fn.worker l.fn.listeners.items → GoesOn l.schema start receivers mine entries run (15 * l._feed) l.worker l.listeners.items;
  numbers : numbers_in l.listeners.items ≡ numbers_in l.fn.listeners.items;
}
