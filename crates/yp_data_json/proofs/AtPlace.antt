-- Rows at or below a place.
use Rattle.std.proofs.Common.{◌≡◌, ℕ, List, [], ◌∷◌, ◌++◌, length, drop, map, true, true≢false, Option, Some, None, Result, Ok, Err, refl, sym, ap, subst, ◌∙◌, append-nil, cond, Less}
use Rattle.std.specs.Ordering.{is_eq, ordering_then}
use Rattle.std.specs.List.{AllByRecursion}
use Rattle.std.specs.List.Sorted.{IsStrictlySortedBy}
use Rattle.std.proofs.Math.Seq.{drop-append_seam}
use Rattle.std.proofs.lemmas.Cmp.{tied_itself}
use Rattle.std.proofs.lemmas.Bool.{and_parts}
use Rattle.yp_base.specs.declared.path.Seg.{Seg}
use Rattle.yp_base.specs.declared.row.Value.{Value}
use Rattle.yp_base.specs.declared.row.Row.{Row}
use Rattle.yp_base.specs.Order.{path_cmp, is_within}
use Rattle.yp_base.specs.OrderLaws.{segments_total, paths_total}
use Rattle.yp_base.specs.Rows.{path_of, AreInOrder, value_at}
use Rattle.yp_schema.specs.declared.schema.SchemaNode.{SchemaNode}
use Rattle.yp_schema.specs.declared.schema.Kind.TheVariants.{Leaf}
use Rattle.yp_schema.specs.Nodes.{node_at, may_hold}
use Rattle.yp_schema.specs.WellFormed.{IsSchema}
use Rattle.yp_schema.specs.Datastore.{goes_down, is_segment, is_place, value_of_kind, typed_fits, IsRowOf, is_leaf_kind, last_kind_is, ends_in_leaf, has_row, AreWritable, goes_to_row}
use Rattle.yp_schema.specs.SchemaLaws.{row_goes_down, row_ends, end_kind, leaf_ends, last_node_append, node_after_append, goes_on, node_after, last_is_segment}
use Rattle.yp_data_json.specs.Forest.{forest_at}
use Rattle.yp_base.specs.Paths.{last_segment}
use Rattle.yp_data_json.specs.Writing.{leaf_data, members_in, place_data, place_json, named_member, rows_json}
use Rattle.std.specs.Prelude.{IfOk}
use Rattle.serde_json.specs.Data.{Data, object}
use Rattle.serde_json.specs.View.{view}
use Rattle.serde_json.specs.declared.value.Value.{Value as Json}
use Rattle.yp_base.specs.declared.memory.NoMemory.{NoMemory}
use Rattle.yp_data_json.specs.Runs.{GoesOn, IsRest, rest_at, AreBelow}
use Rattle.yp_base.specs.PathLaws.{within_rest}

row_goes_on : (nodes : List SchemaNode) (parent : Option ℕ) (at rest : List Seg) (v : Value) → goes_to_row nodes parent (at ++ rest) v ≡ true → GoesOn nodes (node_after parent at) rest v
row_goes_on nodes parent at [] v h = tt
row_goes_on nodes parent [] (seg ∷ rest) v h = h
row_goes_on nodes parent (s ∷ []) (seg ∷ rest) v h = (and_parts _ _ h).1
row_goes_on nodes parent (s ∷ t ∷ at) (seg ∷ rest) v h = row_goes_on nodes (Some s.node) (t ∷ at) (seg ∷ rest) v (and_parts _ _ h).1

pub left_over : (at path rest : List Seg) → path ≡ at ++ rest → drop (length at) path ≡ rest
left_over at path rest is = ap (drop (length at)) is ∙ drop-append_seam at rest

is_rest : (nodes : List SchemaNode) (at : List Seg) (row : Row) → is_within at row.path ≡ true → IsRowOf nodes row → IsRest nodes (node_after None at) (length at) row
is_rest nodes at row within of_schema =
    let found = within_rest at row.path within in
    let goes = row_goes_on nodes None at found.0 row.value (subst (λ path. goes_to_row nodes None path row.value ≡ true) found.1 of_schema.goes) in
    subst (λ path. GoesOn nodes (node_after None at) path row.value) (sym (left_over at row.path found.0 found.1)) goes

all_rest : (nodes : List SchemaNode) (at : List Seg) (rows : List Row) → AllByRecursion (λ row. is_within at row.path ≡ true) rows → AllByRecursion (IsRowOf nodes) rows → AllByRecursion (IsRest nodes (node_after None at) (length at)) rows
all_rest nodes at [] within of_schema = tt
all_rest nodes at (row ∷ rows) within of_schema = (is_rest nodes at row within.0 of_schema.0, all_rest nodes at rows within.1 of_schema.1)

pub same_front : (at xs ys : List Seg) → path_cmp (at ++ xs) (at ++ ys) ≡ path_cmp xs ys
same_front [] xs ys = refl
same_front (s ∷ at) xs ys = ap (λ o. ordering_then o (path_cmp (at ++ xs) (at ++ ys))) (tied_itself segments_total s) ∙ same_front at xs ys

rest_less : (at : List Seg) (one other : Row) → is_within at one.path ≡ true → is_within at other.path ≡ true → path_cmp one.path other.path ≡ Less → path_cmp (rest_at (length at) one) (rest_at (length at) other) ≡ Less
rest_less at one other h k less =
    let a = within_rest at one.path h in
    let b = within_rest at other.path k in
    ap (λ p. path_cmp p (rest_at (length at) other)) (left_over at one.path a.0 a.1) ∙ ap (path_cmp a.0) (left_over at other.path b.0 b.1) ∙ sym (same_front at a.0 b.0)
    ∙ sym (ap (λ p. path_cmp p (at ++ b.0)) a.1) ∙ sym (ap (path_cmp one.path) b.1) ∙ less

all_less : (at : List Seg) (row : Row) (rows : List Row) → is_within at row.path ≡ true → AllByRecursion (λ x. is_within at x.path ≡ true) rows → AllByRecursion (λ p. path_cmp row.path p ≡ Less) (map path_of rows)
    → AllByRecursion (λ p. path_cmp (rest_at (length at) row) p ≡ Less) (map (rest_at (length at)) rows)
all_less at row [] h k less = tt
all_less at row (next ∷ rows) h k less = (rest_less at row next h k.0 less.0, all_less at row rows h k.1 less.1)

rest_order : (at : List Seg) (rows : List Row) → AllByRecursion (λ x. is_within at x.path ≡ true) rows → AreInOrder rows → IsStrictlySortedBy path_cmp (map (rest_at (length at)) rows)
unfolding IsStrictlySortedBy
rest_order at [] within order = tt
rest_order at (row ∷ rows) within order = (all_less at row rows within.0 within.1 order.0, rest_order at rows within.1 order.1)

-- rows at or below a place go on below its last node
pub writable_below : (nodes : List SchemaNode) (at : List Seg) (rows : List Row) → AreWritable nodes at rows → AreBelow nodes (node_after None at) (length at) rows
writable_below nodes at rows h = record { each = all_rest nodes at rows h.within h.of_schema; in_order = rest_order at rows h.within h.in_order }

place_down : (nodes : List SchemaNode) (path : List Seg) → is_place nodes path ≡ true → goes_down nodes None path ≡ true
place_down nodes [] h = refl
place_down nodes (seg ∷ path) h = (and_parts _ _ h).0

pub place_segment : (nodes : List SchemaNode) (at above : List Seg) (seg : Seg) → at ≡ above ++ seg ∷ [] → is_place nodes at ≡ true → is_segment nodes seg ≡ true
place_segment nodes at above seg is h = last_is_segment nodes None above seg (subst (λ path. goes_down nodes None path ≡ true) is (place_down nodes at h))

-- ---- leaves

pub place_leaf : (nodes : List SchemaNode) (at above : List Seg) (seg : Seg) → at ≡ above ++ seg ∷ [] → (node_at seg.node nodes).kind ≡ Leaf → ends_in_leaf nodes at ≡ true
place_leaf nodes at above seg is kind = ap (ends_in_leaf nodes) is ∙ ap (last_kind_is is_leaf_kind nodes) (last_node_append above seg) ∙ ap is_leaf_kind kind

-- a row at or below a leaf is the leaf's
leaf_path : (nodes : List SchemaNode) → IsSchema nodes → (at above : List Seg) (seg : Seg) (row : Row) → at ≡ above ++ seg ∷ [] → (node_at seg.node nodes).kind ≡ Leaf → is_within at row.path ≡ true → IsRowOf nodes row → row.path ≡ at
leaf_path nodes schema at above seg row is kind within of_schema =
    let found = within_rest at row.path within in
    let down = goes_on nodes None at found.0 (subst (λ path. goes_down nodes None path ≡ true) found.1 (row_goes_down nodes None row.path row.value of_schema.goes)) in
    let parent : node_after None at ≡ Some seg.node = ap (node_after None) is ∙ node_after_append None above seg in
    let none = leaf_ends nodes schema seg.node found.0 (ap may_hold kind) (subst (λ n. goes_down nodes n found.0 ≡ true) parent down) in
    found.1 ∙ ap (λ xs. at ++ xs) none ∙ append-nil at

pub place_first : (nodes : List SchemaNode) → IsSchema nodes → (at above : List Seg) (seg : Seg) (rows : List Row) (row : Row) (more : List Row) → at ≡ above ++ seg ∷ [] → (node_at seg.node nodes).kind ≡ Leaf → rows ≡ row ∷ more → AreWritable nodes at rows
    → value_at at rows ≡ Some row.value
place_first nodes schema at above seg rows row more is kind first h =
    let within = (subst (λ xs. AllByRecursion (λ (x : Row). is_within at x.path ≡ true) xs) first h.within).0 in
    let of_schema = (subst (λ xs. AllByRecursion (IsRowOf nodes) xs) first h.of_schema).0 in
    let here = leaf_path nodes schema at above seg row is kind within of_schema in
    ap (value_at at) first ∙ ap (λ b. cond b (Some row.value) (value_at at more)) (ap (λ p. is_eq (path_cmp at p)) here ∙ ap is_eq (tied_itself paths_total at))

pub place_some : (nodes : List SchemaNode) (at above : List Seg) (seg : Seg) (rows : List Row) → at ≡ above ++ seg ∷ [] → (node_at seg.node nodes).kind ≡ Leaf → AreWritable nodes at rows → rows ≡ [] → ⊥
place_some nodes at above seg rows is kind h none = true≢false (sym (h.leaf (place_leaf nodes at above seg is kind)) ∙ ap (has_row at) none)

-- the JSON of a leaf's row is that of the leaf
pub place_written : (nodes : List SchemaNode) → IsSchema nodes → (at above : List Seg) (seg : Seg) (rows : List Row) (row : Row) (more : List Row) → at ≡ above ++ seg ∷ [] → (node_at seg.node nodes).kind ≡ Leaf → rows ≡ row ∷ more → AreWritable nodes at rows
    → leaf_data (node_at seg.node nodes).ty (Some row.value) ≡ place_json nodes seg at rows
place_written nodes schema at above seg rows row more is kind first h =
    ap (leaf_data (node_at seg.node nodes).ty) (sym (place_first nodes schema at above seg rows row more is kind first h))
    ∙ sym (ap (λ k. place_data nodes k (node_at seg.node nodes) seg (value_at at rows) (members_in nodes (forest_at (length at) rows))) kind)

-- ---- the whole

last_is : (s : Seg) (above : List Seg) (seg : Seg) → last_segment s (above ++ seg ∷ []) ≡ seg
last_is s [] seg = refl
last_is s (t ∷ above) seg = last_is t above seg

json_split : (nodes : List SchemaNode) (above : List Seg) (seg : Seg) (rows : List Row) → rows_json nodes (above ++ seg ∷ []) rows ≡ named_member nodes seg (place_json nodes seg (above ++ seg ∷ []) rows)
json_split nodes [] seg rows = refl
json_split nodes (s ∷ above) seg rows = ap (λ (x : Seg). named_member nodes x (place_json nodes x (s ∷ above ++ seg ∷ []) rows)) (last_is s above seg)

-- the JSON of rows at a path, by its last segment
pub json_at : (nodes : List SchemaNode) (at above : List Seg) (seg : Seg) (rows : List Row) → at ≡ above ++ seg ∷ [] → rows_json nodes at rows ≡ named_member nodes seg (place_json nodes seg at rows)
json_at nodes at above seg rows is = subst (λ path. rows_json nodes path rows ≡ named_member nodes seg (place_json nodes seg path rows)) (sym is) (json_split nodes above seg rows)

pub json_top : (nodes : List SchemaNode) (at : List Seg) (rows : List Row) → at ≡ [] → rows_json nodes at rows ≡ object (members_in nodes (forest_at 0 rows))
json_top nodes at rows none = ap (λ path. rows_json nodes path rows) none

pub top_below : (nodes : List SchemaNode) (at : List Seg) (rows : List Row) → at ≡ [] → AreWritable nodes at rows → AreBelow nodes None 0 rows
top_below nodes at rows none h = subst (λ path. AreBelow nodes (node_after None path) (length path) rows) none (writable_below nodes at rows h)
