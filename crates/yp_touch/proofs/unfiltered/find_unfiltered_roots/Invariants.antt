use Rattle.std.proofs.Common.{◌≡◌, ◌++◌, List, map, true, drop}
use Rattle.std.specs.List.{AllByRecursion}
use Rattle.yp_base.specs.declared.row.Row.{Row}
use Rattle.yp_schema.specs.Datastore.{is_path_of}
use Rattle.yp_filter.specs.Filters.{all_rows}
use Rattle.yp_kept.specs.Selection.{selection}
use Rattle.yp_touch.specs.Looked.{IsBetween, roots_found}
use Rattle.yp_touch.proofs.unfiltered.find_unfiltered_roots.Given as goal

-- the roots so far, and those that the rows that are left give, are all
abbrev pub invariant-loop-row : goal.invariant-loop-row
invariant-loop-row g l = record {
  paths : AllByRecursion (λ row. is_path_of l.schema row.path ≡ true) (drop l.row-index l.changed);
  roots : (before after : List Row) → AllByRecursion (IsBetween before after) l.changed
      → l.found.items ++ roots_found l.roots (selection l.schema all_rows (g.R.Readable.may l.readable l.schema) before) (selection l.schema all_rows (g.R.Readable.may l.readable l.schema) after) (map (λ row. row.path) (drop l.row-index l.changed))
      ≡ roots_found l.roots (selection l.schema all_rows (g.R.Readable.may l.readable l.schema) before) (selection l.schema all_rows (g.R.Readable.may l.readable l.schema) after) (map (λ row. row.path) l.changed);
}
