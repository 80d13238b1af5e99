-- Rows that the edits of a change update take away.
use Rattle.std.specs.Prelude.{◌≡◌, List, [], ◌∷◌, map, filter, Bool, ◌&&◌, not, is_some}
use Rattle.std.specs.Borrow.{Bor}
use Rattle.std.specs.BTreeMap.{is_at}
use Rattle.std.specs.List.{list_any}
use Rattle.yp_base.specs.declared.notice.Change.{Change}
use Rattle.yp_base.specs.declared.path.Seg.{Seg}
use Rattle.yp_base.specs.declared.row.Row.{Row}
use Rattle.yp_base.specs.Order.{path_cmp, is_within}
use Rattle.yp_base.specs.Rows.{path_of, value_at}
use Rattle.yp_tree.specs.Listed.{without_row}

-- whether a path is at or below the target of one of these edits
abbrev pub is_targeted : List Change → List Seg → Bool
is_targeted changes path = list_any (λ change. is_within change.target path) changes

-- whether a path is at or below one of these
abbrev pub is_below_one : List (Bor (List Seg)) → List Seg → Bool
is_below_one targets path = list_any (λ target. is_within target.now path) targets

-- whether a path has a row, and no new one
abbrev pub is_lost : List Row → List Row → List Seg → Bool
is_lost news rows path = is_some (value_at path rows) && not (is_some (value_at path news))

-- the paths of the rows that have no new one
abbrev pub lost_paths : List Row → List Row → List (List Seg)
lost_paths news rows = map path_of (filter (λ row. not (is_some (value_at row.path news))) rows)

-- these are the paths of the rows that edits take away: those at or below a target that have no new row
abbrev pub AreGone : List Change → List Row → List Row → List (List Seg) → Type 0
AreGone changes news rows gone = (path : List Seg) → list_any (is_at (path_cmp path)) gone ≡ (is_targeted changes path && is_lost news rows path)

-- the rows without those of these paths
abbrev pub without_paths : List (List Seg) → List Row → List Row
without_paths [] rows = rows
without_paths (path ∷ paths) rows = without_paths paths (without_row path rows)
