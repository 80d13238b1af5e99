-- Rows that are appended while they rise.
use Rattle.std.specs.Prelude.{List, [], ◌∷◌, Bool, true}
use Rattle.std.specs.Ordering.{is_lt}
use Rattle.yp_base.specs.declared.path.Seg.{Seg}
use Rattle.yp_base.specs.declared.row.Row.{Row}
use Rattle.yp_base.specs.Order.{path_cmp}
use Rattle.yp_tree.specs.declared.rising.Kept.{Kept}
use Rattle.yp_tree.specs.declared.rising.Kept.TheVariants.{Appended, Sorted}

-- the rows that are kept
abbrev pub kept_rows : Kept → List Row
kept_rows (Appended rows) = rows.items
kept_rows (Sorted tree) = tree

-- whether a path comes past the last row's
abbrev pub is_past : List Seg → List Row → Bool
is_past path [] = true
is_past path (row ∷ []) = is_lt (path_cmp row.path path)
is_past path (row ∷ next ∷ rows) = is_past path (next ∷ rows)

-- whether the first of some rows comes past the last of others
abbrev pub starts_past : List Row → List Row → Bool
starts_past [] rows = true
starts_past (new ∷ news) rows = is_past new.path rows
