-- Rows under change: those of a tree that aren't touched, with others put over them, and as may be without those at or below a path.
use Rattle.std.specs.Prelude.{◌≡◌, List, Bool, true, Option, Some, None, is_some}
use Rattle.yp_base.specs.declared.path.Seg.{Seg}
use Rattle.yp_base.specs.declared.row.Row.{Row}
use Rattle.yp_base.specs.Order.{is_within}
use Rattle.yp_base.specs.Rows.{value_at, put_rows, rows_without}
use Rattle.yp_edit.specs.Bases.{Touched, untouched}

-- the rows that there are, and those that there are to be
pub record Drafted : Type 0 where
  pub before : List Row
  pub after : List Row

abbrev pub drafted : Touched → List Row → Drafted
drafted base put = record { before = base.rows; after = put_rows put (untouched base) }

-- what is so of a draft: no row that is put has the path of one that isn't touched
pub record IsDraft (base : Touched) (put : List Row) : Type 0 where
  pub apart : (path : List Seg) → is_some (value_at path put) ≡ true → value_at path (untouched base) ≡ None

-- whether a path is at or above another, where there is one
abbrev pub covers : List Seg → Option (List Seg) → Bool
covers path None = true
covers path (Some below) = is_within path below

-- the rows without those at or below a path, where there is one
abbrev pub remaining : Option (List Seg) → List Row → List Row
remaining None rows = rows
remaining (Some path) rows = rows_without path rows

-- a draft without those rows
abbrev pub remains : Option (List Seg) → Drafted → Drafted
remains gone draft = record { before = draft.before; after = remaining gone draft.after }
