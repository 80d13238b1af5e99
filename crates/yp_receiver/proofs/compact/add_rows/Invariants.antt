use Rattle.std.proofs.Common.{◌≡◌, ◌∷◌, ◌++◌, map, take}
use Rattle.yp_receiver.specs.Compact.{leaf_row, value_of}
use Rattle.yp_receiver.proofs.compact.add_rows.Given as goal

abbrev pub invariant-loop-leaf : goal.invariant-loop-leaf
invariant-loop-leaf l =
    l.rows.items ≡ l.fn.rows.items ++ record { path = l.entry.path; value = value_of l.entry.value } ∷ map (leaf_row l.entry.path) (take l.leaf-index l.entry.leaves.items)
