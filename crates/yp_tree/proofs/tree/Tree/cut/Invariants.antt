use Rattle.std.proofs.Common.{◌≡◌, ◌+◌, ◌≤◌, ◌++◌, map, length, vec_len}
use Rattle.std.specs.Vec.{vec_capacity}
use Rattle.std.specs.Vec.Iter.{into_iter_items}
use Rattle.yp_base.specs.Rows.{path_of, rows_within, rows_without}
use Rattle.yp_tree.proofs.tree.Tree.cut.Given as goal

abbrev pub invariant-loop-each : goal.invariant-loop-each
invariant-loop-each l = record {
  paths : map path_of (rows_within l.path l.self) ≡ into_iter_items l.each-iterator;
  rows : l.rows.items ++ rows_within l.path l.self ≡ rows_within l.path l.fn.self;
  others : rows_without l.path l.self ≡ rows_without l.path l.fn.self;
  room : vec_len l.rows + length (into_iter_items l.each-iterator) ≤ vec_capacity l.rows;
}
