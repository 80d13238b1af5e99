use Rattle.std.proofs.Common.{◌≡◌, ◌≤◌, ◌+◌, ◌*◌, ◌++◌, length}
use Rattle.std.specs.List.{AllByRecursion}
use Rattle.std.specs.Vec.Iter.{into_iter_items}
use Rattle.yp_base.specs.RowLaws.{picked}
use Rattle.yp_schema.specs.Datastore.{IsRowOf}
use Rattle.yp_filter.specs.Filters.{of_set, set_size}
use Rattle.yp_filter.specs.View.{set_view}
use Rattle.yp_nacm.specs.Decision.{visible_rows}
use Rattle.yp_kept.specs.Selection.{kept}
use Rattle.yp_kept.specs.Standing.{IsWay}
use Rattle.yp_select.proofs.select.keep_kept.Given as goal

-- the rows kept so far and those of the rows that are left are all, what is left takes the visits that are left, and the way has what stands on it
abbrev pub invariant-loop-row : goal.invariant-loop-row
invariant-loop-row g l = record {
  of_schema : AllByRecursion (IsRowOf l.visible.schema.now) (into_iter_items l.row-iterator);
  way : IsWay l.visible.schema.now (visible_rows (g.R.Readable.may l.visible.readable.now l.visible.schema.now) l.visible.tree.now) (set_view l.set) l.way;
  seen : l.seen.items ++ picked (kept l.visible.schema.now (of_set (set_view l.set)) (visible_rows (g.R.Readable.may l.visible.readable.now l.visible.schema.now) l.visible.tree.now)) (into_iter_items l.row-iterator)
      ≡ picked (kept l.visible.schema.now (of_set (set_view l.set)) (visible_rows (g.R.Readable.may l.visible.readable.now l.visible.schema.now) l.visible.tree.now)) l.fn.rows;
  visits : l.steps + length (into_iter_items l.row-iterator) * set_size (set_view l.set) ≤ l.fn.steps + length l.fn.rows * set_size (set_view l.set);
}
