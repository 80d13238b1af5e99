use Rattle.std.proofs.Common.{ℕ, List}
use Rattle.yp_journal.specs.declared.entry.Entry.{Entry}
use Rattle.yp_journal.specs.declared.receiver.ReceiverInfo.{ReceiverInfo}
use Rattle.yp_attempt.specs.Runs.{Run}
use Rattle.yp_crews.specs.Crews.{AreCrews}
use Rattle.yp_crews.proofs.Following.{HaveFollowed}
use Rattle.yp_crews.proofs.crews.follow_entry.Given as goal

-- the workers before this one have followed the entry, and the others not yet
abbrev pub invariant-loop-crew : goal.invariant-loop-crew
invariant-loop-crew l = (start : ℕ) (receivers : List ReceiverInfo) (workers worker : ℕ) (entries : List Entry) (runs : List Run)
    → AreCrews l.schema start receivers workers worker entries runs l.fn.crews.items → HaveFollowed l.schema l.entry start receivers workers entries worker l.crew-index runs l.crew-items
