use Rattle.std.proofs.Common.{◌≡◌, drop}
use Rattle.yp_script.specs.Values.{are_name_bytes}
use Rattle.yp_script.proofs.receiver.is_name.Given as goal

abbrev pub invariant-loop-byte : goal.invariant-loop-byte
invariant-loop-byte l = are_name_bytes (drop l.byte-index l.text) ≡ are_name_bytes l.fn.text
