-- Rows whose entries come in no order.
use Rattle.std.specs.Prelude.{◌≡◌, ◌<◌, ℕ, List, [], ◌∷◌, map, length, get_or, Bool, true, false, not, is_some}
use Rattle.std.specs.Bool.{◌==◌}
use Rattle.std.specs.BTreeMap.{BTreeMap, get}
use Rattle.std.specs.List.{AllByRecursion}
use Rattle.yp_base.specs.declared.path.Seg.{Seg}
use Rattle.yp_base.specs.declared.row.Row.{Row}
use Rattle.yp_base.specs.declared.row.Value.TheVariants.{Empty}
use Rattle.yp_base.specs.Order.{path_cmp}
use Rattle.yp_base.specs.Rows.{AreInOrder}

-- whether a path is that of an entry: its last segment has keys
abbrev pub is_entry : List Seg → Bool
is_entry [] = false
is_entry (segment ∷ []) = not (length segment.keys == 0)
is_entry (segment ∷ next ∷ segments) = is_entry (next ∷ segments)

-- whether a path has a place
abbrev pub is_noted : BTreeMap (List Seg) ℕ → List Seg → Bool
is_noted starts path = is_some (get path_cmp starts path)

-- the path of each entry among the rows has one
abbrev pub AreNoted : BTreeMap (List Seg) ℕ → List Row → Type 0
AreNoted starts rows = AllByRecursion (λ row. is_entry row.path ≡ true → is_noted starts row.path ≡ true) rows

-- a row without a path
abbrev pub no_row : Row
no_row = record { path = []; value = Empty }

-- the rows at places
abbrev pub rows_at : List Row → List ℕ → List Row
rows_at rows places = map (λ place. get_or rows place no_row) places

-- there are rows at all these places, and there they are in the order of their paths
pub record AreOrdered (rows : List Row) (places : List ℕ) : Type 0 where
  pub there : AllByRecursion (λ place. place < length rows) places
  pub order : AreInOrder (rows_at rows places)
