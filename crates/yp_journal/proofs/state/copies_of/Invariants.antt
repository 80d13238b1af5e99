use Rattle.std.proofs.Common.{◌≡◌, take}
use Rattle.yp_journal.proofs.state.copies_of.Given as goal

-- the copies so far are the receivers so far
abbrev pub invariant-loop-receiver : goal.invariant-loop-receiver
invariant-loop-receiver l = l.copies.items ≡ take l.receiver-index l.receivers
