use Rattle.std.proofs.Common.{◌≡◌, drop}
use Rattle.yp_base.specs.Types.{is_among}
use Rattle.yp_nacm.proofs.compile.has_text.Given as goal

abbrev pub invariant-loop-other : goal.invariant-loop-other
invariant-loop-other l = is_among l.text (drop l.other-index l.texts) ≡ is_among l.text l.texts
