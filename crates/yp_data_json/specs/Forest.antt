-- Rows as a forest, by the common beginnings of their paths: the shape that a data tree has in JSON (RFC 7951 section 5).
use Rattle.std.specs.Prelude.{ℕ, List, [], ◌∷◌, drop, Option, Some, None, if◌then◌else◌}
use Rattle.std.specs.Ordering.{eq_by_cmp}
use Rattle.yp_base.specs.declared.path.Seg.{Seg}
use Rattle.yp_base.specs.declared.row.Value.{Value}
use Rattle.yp_base.specs.declared.row.Row.{Row}
use Rattle.yp_base.specs.Order.{segment_cmp}

-- a branch has a segment, the value of its own row if there is one, the forest below it, and the forest after it
pub data Forest : Type 0 where
  bare : Forest
  branch : Seg → Option Value → Forest → Forest → Forest

-- the value of a branch's own row: a row of which no segment is left is that row
abbrev pub own_of : List Seg → Value → Option Value → Option Value
own_of [] v own = Some v
own_of (seg ∷ rest) v own = own

-- a row laid in front of a forest: into the first branch where that has its segment, else as a new first branch
abbrev pub in_front : Seg → List Seg → Value → (Forest → Forest) → Forest → Forest
in_front seg rest v inner bare = branch seg (own_of rest v None) (inner bare) bare
in_front seg rest v inner (branch first own kids next) =
    if eq_by_cmp segment_cmp seg first then branch first (own_of rest v own) (inner kids) next
    else branch seg (own_of rest v None) (inner bare) (branch first own kids next)

abbrev pub laid : List Seg → Value → Forest → Forest
laid [] v f = f
laid (seg ∷ rest) v f = in_front seg rest v (laid rest v) f

-- rows laid in front of a forest, by what follows so many segments in their paths
abbrev pub laid_all : ℕ → List Row → Forest → Forest
laid_all depth [] f = f
laid_all depth (row ∷ rows) f = laid (drop depth row.path) row.value (laid_all depth rows f)

-- the forest of rows
abbrev pub forest_at : ℕ → List Row → Forest
forest_at depth rows = laid_all depth rows bare
