use Rattle.std.proofs.Common.{◌≡◌, ◌++◌, length}
use Rattle.std.specs.Iterator.Adapters.{zip_first, zip_second}
use Rattle.std.specs.Slice.Iter.{iter_rest}
use Rattle.yp_touch.specs.Absorbed.{flagged}
use Rattle.yp_touch.specs.Looked.{uncovered}
use Rattle.yp_touch.proofs.placing.uncovered.Given as goal

-- the roots so far, and those of what is left, are all
abbrev pub invariant-loop-root : goal.invariant-loop-root
invariant-loop-root l = record {
  same : length (iter_rest (zip_first l.root-iterator)) ≡ length (iter_rest (zip_second l.root-iterator));
  found : l.found.items ++ uncovered l.fn.roots (flagged (iter_rest (zip_first l.root-iterator)) (iter_rest (zip_second l.root-iterator))) ≡ uncovered l.fn.roots (flagged l.fn.paths l.fn.flags);
}
