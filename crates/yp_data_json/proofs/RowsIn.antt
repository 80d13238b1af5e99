-- The rows of a forest, in order.
use Rattle.std.proofs.Common.{◌≡◌, List, [], ◌∷◌, ◌++◌, map, Option, Some, None, Less}
use Rattle.std.specs.List.{AllByRecursion}
use Rattle.std.specs.List.Sorted.{IsStrictlySortedBy}
use Rattle.yp_base.specs.declared.path.Seg.{Seg}
use Rattle.yp_base.specs.declared.row.Value.{Value}
use Rattle.yp_base.specs.declared.row.Row.{Row}
use Rattle.yp_base.specs.Order.{path_cmp}
use Rattle.yp_base.specs.Rows.{path_of, AreInOrder}
use Rattle.yp_data_json.specs.Reading.{row_at}
use Rattle.yp_data_json.specs.Forest.{Forest, bare, branch}

-- the row of a branch
abbrev pub own_rows : List Seg → Option Value → List Row
own_rows path None = []
own_rows path (Some v) = row_at path v ∷ []

-- each branch's own row, those below it, and those after it
abbrev pub rows_in : List Seg → Forest → List Row
rows_in path bare = []
rows_in path (branch seg own kids next) = own_rows (path ++ seg ∷ []) own ++ rows_in (path ++ seg ∷ []) kids ++ rows_in path next

all_front : (x : Row) (xs ys : List Row) → AllByRecursion (λ p. path_cmp x.path p ≡ Less) (map path_of (xs ++ ys)) → AllByRecursion (λ p. path_cmp x.path p ≡ Less) (map path_of xs)
all_front x [] ys h = tt
all_front x (y ∷ xs) ys h = (h.0, all_front x xs ys h.1)

pub front_cmp : (xs ys : List Row) → AreInOrder (xs ++ ys) → AreInOrder xs
unfolding IsStrictlySortedBy
front_cmp [] ys h = tt
front_cmp (x ∷ xs) ys h = (all_front x xs ys h.0, front_cmp xs ys h.1)
