use Rattle.std.proofs.Common.{◌≡◌, drop, length, take}
use Rattle.yp_tree.specs.Scattered.{rows_at}
use Rattle.yp_tree.proofs.scattered.taken_at.Given as goal

abbrev pub invariant-loop-place : goal.invariant-loop-place
invariant-loop-place l = record {
  count : length l.rows.items ≡ length l.fn.rows.items;
  so_far : l.taken.items ≡ rows_at l.fn.rows.items (take l.place-index l.places);
  left : rows_at l.rows.items (drop l.place-index l.places) ≡ rows_at l.fn.rows.items (drop l.place-index l.places);
}
