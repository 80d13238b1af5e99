use Rattle.std.proofs.Common.{◌≡◌, ◌++◌, ◌+◌, ◌*◌, ◌≤◌, length, map}
use Rattle.std.specs.List.{AllByRecursion}
use Rattle.std.specs.Vec.Iter.{into_iter_items}
use Rattle.yp_base.specs.Rows.{path_of, row_of}
use Rattle.yp_schema.specs.Datastore.{IsRowOf}
use Rattle.yp_filter.specs.Filters.{filter_size}
use Rattle.yp_filter.specs.View.{filter_view}
use Rattle.yp_kept.specs.Selection.{selection}
use Rattle.yp_touch.specs.Looked.{roots_found, look_visits}
use Rattle.yp_touch.proofs.looking.look_at_rows.Given as goal

-- the roots so far, and those that the rows that are left give, are all; and the visits likewise
abbrev pub invariant-loop-row : goal.invariant-loop-row
invariant-loop-row g l = record {
  of_schema : AllByRecursion (IsRowOf l.sides.schema.now) (map (λ each. row_of (each.0.now, each.1.now)) (into_iter_items l.row-iterator));
  roots : l.found.items ++ roots_found l.sides.roots.now (selection l.sides.schema.now (filter_view l.sides.filter.now) (g.R.Readable.may l.sides.readable.now l.sides.schema.now) l.sides.before.now) (selection l.sides.schema.now (filter_view l.sides.filter.now) (g.R.Readable.may l.sides.readable.now l.sides.schema.now) l.sides.after.now) (map path_of (map (λ each. row_of (each.0.now, each.1.now)) (into_iter_items l.row-iterator)))
      ≡ l.fn.found.items ++ roots_found l.sides.roots.now (selection l.sides.schema.now (filter_view l.sides.filter.now) (g.R.Readable.may l.sides.readable.now l.sides.schema.now) l.sides.before.now) (selection l.sides.schema.now (filter_view l.sides.filter.now) (g.R.Readable.may l.sides.readable.now l.sides.schema.now) l.sides.after.now) (map path_of (map (λ each. row_of (each.0.now, each.1.now)) l.fn.rows.items));
  visits : l.steps + length (into_iter_items l.row-iterator) * look_visits (filter_size (filter_view l.sides.filter.now)) ≤ l.fn.steps + length l.fn.rows.items * look_visits (filter_size (filter_view l.sides.filter.now));
}
