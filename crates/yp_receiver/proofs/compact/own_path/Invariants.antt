use Rattle.std.proofs.Common.{◌≡◌, take}
use Rattle.yp_receiver.proofs.compact.own_path.Given as goal

abbrev pub invariant-loop-segment : goal.invariant-loop-segment
invariant-loop-segment l = l.own.items ≡ take l.segment-index l.path
