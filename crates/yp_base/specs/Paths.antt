-- Paths and their parts (RFC 8040 section 3.5.3).
use Rattle.std.specs.Prelude.{ℕ, List, [], ◌∷◌, filter, Bool, true, false, not, ◌&&◌, Option, Some, None, nat_eq}
use Rattle.std.specs.List.{list_any}
use Rattle.yp_base.specs.declared.path.Seg.{Seg}
use Rattle.yp_base.specs.Order.{is_within}

-- the last segment of a path that begins with this one
abbrev pub last_segment : Seg → List Seg → Seg
last_segment seg [] = seg
last_segment seg (next ∷ rest) = last_segment next rest

-- the segments above the last of a path that begins with this one
abbrev pub above_last : Seg → List Seg → List Seg
above_last seg [] = []
above_last seg (next ∷ rest) = seg ∷ above_last next rest

-- the node of the last segment; the empty path has none
abbrev pub last_node : List Seg → Option ℕ
last_node [] = None
last_node (seg ∷ []) = Some seg.node
last_node (seg ∷ next ∷ segs) = last_node (next ∷ segs)

-- whether a path stands above another
abbrev pub is_above : List Seg → List Seg → Bool
is_above above path = is_within above path && not (is_within path above)

-- the topmost of some paths: those that none of them stands above
abbrev pub topmost : List (List Seg) → List (List Seg)
topmost paths = filter (λ path. not (list_any (λ above. is_above above path) paths)) paths

-- whether two nodes, or none, are one
abbrev pub same_number : Option ℕ → Option ℕ → Bool
same_number None None = true
same_number None (Some y) = false
same_number (Some x) None = false
same_number (Some x) (Some y) = nat_eq x y

-- whether a path is at or below another, where there is one
abbrev pub is_covered : Option (List Seg) → List Seg → Bool
is_covered None path = false
is_covered (Some above) path = is_within above path
