use Rattle.std.proofs.Common.{◌≡◌, ◌-◌, ◌++◌, length, drop}
use Rattle.yp_command.proofs.receivers.Receivers.list.Given as goal

-- those so far, and those that are left, are all
abbrev pub invariant-loop-receiver : goal.invariant-loop-receiver
invariant-loop-receiver l = l.list.items ++ drop (length l.list.items) l.self ≡ l.self

abbrev pub decreases-loop-receiver : goal.decreases-loop-receiver
decreases-loop-receiver l = length l.self - length l.list.items
