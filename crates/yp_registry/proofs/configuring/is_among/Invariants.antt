use Rattle.std.proofs.Common.{◌≡◌, drop}
use Rattle.yp_base.specs.Types.{is_among}
use Rattle.yp_registry.proofs.configuring.is_among.Given as goal

abbrev pub invariant-loop-other : goal.invariant-loop-other
invariant-loop-other l = is_among l.text (drop l.other-index l.others) ≡ is_among l.text l.others
