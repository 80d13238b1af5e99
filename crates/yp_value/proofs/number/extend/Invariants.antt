use Rattle.std.proofs.Common.{◌≡◌, ◌<◌, ◌^◌, drop}
use Rattle.yp_value.specs.Texts.{value_from}
use Rattle.yp_value.proofs.number.extend.Given as goal

abbrev pub invariant-loop-digit : goal.invariant-loop-digit
invariant-loop-digit l = (l.value < 2 ^ 64) × (value_from l.value (drop l.digit-index l.digits) ≡ value_from l.fn.value l.digits)
