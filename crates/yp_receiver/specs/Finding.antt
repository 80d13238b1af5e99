-- Rows in order of which only later ones are looked at.
use Rattle.std.specs.Prelude.{◌≡◌, List, Bool, false, Option, Some, None}
use Rattle.std.specs.Ordering.{is_lt}
use Rattle.yp_base.specs.declared.path.Seg.{Seg}
use Rattle.yp_base.specs.declared.row.Row.{Row}
use Rattle.yp_base.specs.Order.{path_cmp}
use Rattle.yp_base.specs.Rows.{AreInOrder, value_at}

-- whether a path comes before another, where there is one
abbrev pub is_behind : List Seg → Option (List Seg) → Bool
is_behind path None = false
is_behind path (Some last) = is_lt (path_cmp path last)

-- some of the rows are in order, and have the same value at each path that doesn't come before another
abbrev pub AreLeftAfter : Option (List Seg) → List Row → List Row → Type 0
AreLeftAfter last rows left = AreInOrder rows × AreInOrder left × ((path : List Seg) → is_behind path last ≡ false → value_at path left ≡ value_at path rows)

-- the same of one that is there
abbrev pub AreLeft : List Seg → List Row → List Row → Type 0
AreLeft last rows left = AreLeftAfter (Some last) rows left
