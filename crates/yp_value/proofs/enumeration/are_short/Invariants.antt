use Rattle.std.proofs.Common.{◌≡◌, drop}
use Rattle.yp_base.specs.Types.{are_short}
use Rattle.yp_value.proofs.enumeration.are_short.Given as goal

abbrev pub invariant-loop-text : goal.invariant-loop-text
invariant-loop-text l = are_short (drop l.text-index l.texts) ≡ are_short l.texts
