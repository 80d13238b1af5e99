-- Where rows have a gap: paths from one on that no row has, up to the next row.
use Rattle.std.specs.Prelude.{◌≡◌, List, filter, Bool, true, Option, Some, None}
use Rattle.std.specs.Ordering.{is_le, is_lt}
use Rattle.yp_base.specs.declared.path.Seg.{Seg}
use Rattle.yp_base.specs.declared.row.Row.{Row}
use Rattle.yp_base.specs.Order.{path_cmp}
use Rattle.yp_base.specs.Rows.{value_at}

-- the rows at a path or past it
abbrev pub rows_from : List Seg → List Row → List Row
rows_from path rows = filter (λ row. is_le (path_cmp path row.path)) rows

-- whether a path comes before another, where there is one
abbrev pub is_before : List Seg → Option (List Seg) → Bool
is_before path None = true
is_before path (Some end) = is_lt (path_cmp path end)

-- no row has a path from one on that comes before another, where there is one
abbrev pub IsGap : List Seg → Option (List Seg) → List Row → Type 0
IsGap from end rows = (path : List Seg) → is_le (path_cmp from path) ≡ true → is_before path end ≡ true → value_at path rows ≡ None
