use Rattle.std.proofs.Common.{◌≡◌, length, map, take}
use Rattle.yp_receiver.specs.Compact.{leaf_row}
use Rattle.yp_receiver.proofs.compact.leaves_below.Given as goal

abbrev pub invariant-loop-row : goal.invariant-loop-row
invariant-loop-row l = record {
  rows : map (leaf_row l.path) l.leaves.items ≡ take l.row-index l.rows;
  count : length l.leaves.items ≡ l.row-index;
}
