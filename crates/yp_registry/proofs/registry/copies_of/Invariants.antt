use Rattle.std.proofs.Common.{◌≡◌, take}
use Rattle.yp_registry.proofs.registry.copies_of.Given as goal

abbrev pub invariant-loop-terms : goal.invariant-loop-terms
invariant-loop-terms l = l.copies.items ≡ take l.terms-index l.live
