-- The tree that a patch is applied to, with the paths that its edits touch.
use Rattle.std.specs.Prelude.{◌≡◌, ℕ, List, length, map, Bool, true, false, not, ◌||◌, ◌&&◌, filter, Option, Some, None, is_some}
use Rattle.std.specs.Ordering.{is_eq, is_le}
use Rattle.yp_base.specs.declared.path.Seg.{Seg}
use Rattle.yp_base.specs.declared.row.Row.{Row}
use Rattle.yp_base.specs.Order.{path_cmp}
use Rattle.yp_base.specs.Rows.{path_of, value_at, has_within, rows_without, AreInOrder}
use Rattle.yp_changes.specs.Among.{is_listed}
use Rattle.yp_edit.specs.declared.base.Gap.{Gap}
use Rattle.yp_tree.specs.Gaps.{is_before, IsGap}
use Rattle.yp_tree.specs.Listed.{without_row}

-- the rows of a tree, and the paths that are touched
pub record Touched : Type 0 where
  pub rows : List Row
  pub paths : List (List Seg)

-- the rows of other paths than these
abbrev pub left : List (List Seg) → List Row → List Row
left paths rows = filter (λ row. not (is_listed row.path paths)) rows

-- the rows that aren't touched
abbrev pub untouched : Touched → List Row
untouched base = left base.paths base.rows

-- what is so of a base: its rows are in order, those that aren't touched are counted, and none of them is at or below a bare path
pub record IsBase (rows : List Row) (paths bare : List (List Seg)) (count : ℕ) : Type 0 where
  pub in_order : AreInOrder rows
  pub counted : count ≡ length (left paths rows)
  pub none_below : (path : List Seg) → is_listed path bare ≡ true → has_within path (left paths rows) ≡ false

-- of some rows none is at or below a path, where there is one
abbrev pub IsSwept : Option (List Seg) → List Row → Type 0
IsSwept None rows = Unit {0}
IsSwept (Some path) rows = has_within path rows ≡ false

-- whether a path lies in a gap, where there is one
abbrev pub is_in_gap : Option Gap → List Seg → Bool
is_in_gap None path = false
is_in_gap (Some gap) path = is_le (path_cmp gap.from path) && is_before path gap.end

-- no row has a path in a gap, where there is one
abbrev pub LeaveGap : Option Gap → List Row → Type 0
LeaveGap None rows = Unit {0}
LeaveGap (Some gap) rows = IsGap gap.from gap.end rows

-- rows that are among others: each has the value that its path has there
abbrev pub KeepsValues : List Row → List Row → Type 0
KeepsValues rows kept = (path : List Seg) → is_some (value_at path kept) ≡ true → value_at path kept ≡ value_at path rows

-- one more path is touched
pub record Touches (path : List Seg) (old new : Touched) : Type 0 where
  pub rows : new.rows ≡ old.rows
  pub paths : (other : List Seg) → is_listed other new.paths ≡ (is_eq (path_cmp path other) || is_listed other old.paths)

-- the row of a path is touched, where there is one, and no other row is
pub record Loses (path : List Seg) (old new : Touched) : Type 0 where
  pub rows : new.rows ≡ old.rows
  pub others : untouched new ≡ without_row path (untouched old)

-- no row comes back
abbrev pub StaysGone : Touched → Touched → Type 0
StaysGone old new = (path : List Seg) → value_at path (untouched old) ≡ None → value_at path (untouched new) ≡ None

-- the rows at or below a target are touched, and no other row is
pub record TouchesWithin (target : List Seg) (old new : Touched) : Type 0 where
  pub rows : new.rows ≡ old.rows
  pub others : untouched new ≡ rows_without target (untouched old)

-- the rows that are touched, in order
pub record AreTouched (base : Touched) (kept : List Row) : Type 0 where
  pub paths : map path_of kept ≡ base.paths
  pub values : KeepsValues base.rows kept
  pub in_order : AreInOrder kept
