use Rattle.std.proofs.Common.{◌≡◌, ◌++◌, ◌+◌, ◌≤◌, true, map, drop, sum}
use Rattle.std.specs.List.{AllByRecursion}
use Rattle.yp_schema.specs.Datastore.{is_path_of}
use Rattle.yp_filter.specs.View.{filter_view}
use Rattle.yp_kept.specs.Selection.{selection}
use Rattle.yp_touch.specs.Looked.{IsBetween, roots_found, looks_of, looks_visits}
use Rattle.yp_touch.proofs.looking.find_roots.Given as goal

-- the roots so far, and those that the rows that are left give, are all; and the visits likewise
abbrev pub invariant-loop-row : goal.invariant-loop-row
invariant-loop-row g l = record {
  between : AllByRecursion (IsBetween l.sides.before.now l.sides.after.now) (drop l.row-index l.changed);
  paths : AllByRecursion (λ row. is_path_of l.sides.schema.now row.path ≡ true) (drop l.row-index l.changed);
  roots : l.found.items ++ roots_found l.sides.roots.now (selection l.sides.schema.now (filter_view l.sides.filter.now) (g.R.Readable.may l.sides.readable.now l.sides.schema.now) l.sides.before.now) (selection l.sides.schema.now (filter_view l.sides.filter.now) (g.R.Readable.may l.sides.readable.now l.sides.schema.now) l.sides.after.now)
      (looks_of l.sides.schema.now (filter_view l.sides.filter.now) l.sides.before.now l.sides.after.now (map (λ row. row.path) (drop l.row-index l.changed)))
      ≡ roots_found l.sides.roots.now (selection l.sides.schema.now (filter_view l.sides.filter.now) (g.R.Readable.may l.sides.readable.now l.sides.schema.now) l.sides.before.now) (selection l.sides.schema.now (filter_view l.sides.filter.now) (g.R.Readable.may l.sides.readable.now l.sides.schema.now) l.sides.after.now)
      (looks_of l.sides.schema.now (filter_view l.sides.filter.now) l.sides.before.now l.sides.after.now (map (λ row. row.path) l.changed));
  visits : l.steps + sum (map (λ row. looks_visits l.sides.schema.now (filter_view l.sides.filter.now) l.sides.before.now l.sides.after.now row.path) (drop l.row-index l.changed))
      ≤ l.fn.steps + sum (map (λ row. looks_visits l.sides.schema.now (filter_view l.sides.filter.now) l.sides.before.now l.sides.after.now row.path) l.changed);
}
