use Rattle.std.proofs.Common.{◌≡◌, drop}
use Rattle.std.specs.List.{filter_map}
use Rattle.std.specs.Vec.Iter.{into_iter_items}
use Rattle.yp_changes.specs.Commits.{given_row, given_value, set_rows}
use Rattle.yp_changes.proofs.commit.give.Given as goal

abbrev pub invariant-loop-change : goal.invariant-loop-change
invariant-loop-change l = record {
  values : into_iter_items l.rest ≡ filter_map given_value (drop l.change-index l.changed);
  rows : set_rows (filter_map given_row (drop l.change-index l.changed)) l.tree ≡ set_rows (filter_map given_row l.changed) l.fn.tree;
}
