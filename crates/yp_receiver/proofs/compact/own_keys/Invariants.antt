use Rattle.std.proofs.Common.{◌≡◌, take}
use Rattle.yp_receiver.proofs.compact.own_keys.Given as goal

abbrev pub invariant-loop-key : goal.invariant-loop-key
invariant-loop-key l = l.own.items ≡ take l.key-index l.keys
