-- Rows below one node.
use Rattle.std.proofs.Common.{◌≡◌, ◌≢◌, ℕ, ◌+◌, ◌-◌, ◌<◌, ◌≤◌, List, [], ◌∷◌, ◌++◌, length, drop, map, true, false, true≢false, Option, Some, None, refl, sym, ap, subst, ◌∙◌, arith, Ordering, Less, Equal, Greater, nat_cmp}
use Rattle.std.specs.Cmp.Lexicographic.{slice_cmp}
use Rattle.std.specs.Ordering.{ordering_then}
use Rattle.std.specs.List.{AllByRecursion}
use Rattle.std.specs.List.Sorted.{IsStrictlySortedBy}
use Rattle.std.proofs.lemmas.Cmp.{tied_itself}
use Rattle.std.proofs.lemmas.List.{drop-drop, length-drop}
use Rattle.std.proofs.lemmas.Bool.{and_parts, eqb-true, eq-eqb}
use Rattle.std.specs.Cmp.{ranked}
use Rattle.yp_base.specs.declared.path.Seg.{Seg}
use Rattle.yp_base.specs.declared.row.Value.{Value}
use Rattle.yp_base.specs.declared.row.Row.{Row}
use Rattle.yp_base.specs.Order.{atom_cmp, path_cmp}
use Rattle.yp_base.specs.OrderLaws.{segments_total}
use Rattle.yp_schema.specs.declared.schema.SchemaNode.{SchemaNode}
use Rattle.yp_base.specs.Paths.{same_number}
use Rattle.yp_schema.specs.Nodes.{node_at}
use Rattle.yp_schema.specs.WellFormed.{IsSchema}
use Rattle.yp_schema.specs.Datastore.{goes_down}
use Rattle.serde_json.specs.Data.{Data, Members, member}
use Rattle.yp_schema.specs.SchemaLaws.{segment_within, row_goes_down, first_parent, first_segment}
use Rattle.yp_data_json.specs.Runs.{GoesOn, IsRest, rest_at, AreBelow, begins_with, goes_through, HasSegment}
use Rattle.yp_data_json.proofs.Parts.{all_front, all_back, sorted_front, sorted_back, less_middle}

-- ---- parts of rows

pub front_below : (nodes : List SchemaNode) (parent : Option ℕ) (depth : ℕ) (xs ys : List Row) → AreBelow nodes parent depth (xs ++ ys) → AreBelow nodes parent depth xs
front_below nodes parent depth xs ys h = record { each = all_front (IsRest nodes parent depth) xs ys h.each; in_order = sorted_front path_cmp (rest_at depth) xs ys h.in_order }

pub back_below : (nodes : List SchemaNode) (parent : Option ℕ) (depth : ℕ) (xs ys : List Row) → AreBelow nodes parent depth (xs ++ ys) → AreBelow nodes parent depth ys
back_below nodes parent depth xs ys h = record { each = all_back (IsRest nodes parent depth) xs ys h.each; in_order = sorted_back path_cmp (rest_at depth) xs ys h.in_order }

-- ---- one segment further down

on_down : (nodes : List SchemaNode) (parent : Option ℕ) (path : List Seg) (v : Value) → GoesOn nodes parent path v → goes_down nodes parent path ≡ true
on_down nodes parent [] v h = refl
on_down nodes parent (seg ∷ path) v h = row_goes_down nodes parent (seg ∷ path) v h

-- what is left of a path goes down
pub rest_down : (nodes : List SchemaNode) (parent : Option ℕ) (depth : ℕ) (row : Row) → IsRest nodes parent depth row → goes_down nodes parent (drop depth row.path) ≡ true
rest_down nodes parent depth row h = on_down nodes parent (drop depth row.path) row.value h

rest_further : (nodes : List SchemaNode) (parent : Option ℕ) (seg : Seg) (rest : List Seg) (v : Value) → GoesOn nodes parent (seg ∷ rest) v → GoesOn nodes (Some seg.node) rest v
rest_further nodes parent seg [] v h = tt
rest_further nodes parent seg (next ∷ rest) v h = (and_parts _ _ h).1

is_further : (nodes : List SchemaNode) (parent : Option ℕ) (depth : ℕ) (seg : Seg) (row : Row) → HasSegment depth seg row → IsRest nodes parent depth row → IsRest nodes (Some seg.node) (depth + 1) row
is_further nodes parent depth seg row here h = rest_further nodes parent seg (drop (depth + 1) row.path) row.value (subst (λ path. GoesOn nodes parent path row.value) here h)

all_further : (nodes : List SchemaNode) (parent : Option ℕ) (depth : ℕ) (seg : Seg) (rows : List Row) → AllByRecursion (HasSegment depth seg) rows → AllByRecursion (IsRest nodes parent depth) rows
    → AllByRecursion (IsRest nodes (Some seg.node) (depth + 1)) rows
all_further nodes parent depth seg [] here h = tt
all_further nodes parent depth seg (row ∷ rows) here h = (is_further nodes parent depth seg row here.0 h.0, all_further nodes parent depth seg rows here.1 h.1)

same_start : (seg : Seg) (xs ys : List Seg) → path_cmp (seg ∷ xs) (seg ∷ ys) ≡ path_cmp xs ys
same_start seg xs ys = ap (λ o. ordering_then o (path_cmp xs ys)) (tied_itself segments_total seg)

less_further : (depth : ℕ) (seg : Seg) (row : Row) (rows : List Row) → HasSegment depth seg row → AllByRecursion (HasSegment depth seg) rows
    → AllByRecursion (λ path. path_cmp (rest_at depth row) path ≡ Less) (map (rest_at depth) rows)
    → AllByRecursion (λ path. path_cmp (rest_at (depth + 1) row) path ≡ Less) (map (rest_at (depth + 1)) rows)
less_further depth seg row [] here all h = tt
less_further depth seg row (next ∷ rows) here all h = (
  sym (same_start seg (drop (depth + 1) row.path) (drop (depth + 1) next.path)) ∙ sym (ap (λ p. path_cmp p (seg ∷ drop (depth + 1) next.path)) here) ∙ sym (ap (λ p. path_cmp (drop depth row.path) p) all.0) ∙ h.0,
  less_further depth seg row rows here all.1 h.1,
)

sorted_further : (depth : ℕ) (seg : Seg) (rows : List Row) → AllByRecursion (HasSegment depth seg) rows → IsStrictlySortedBy path_cmp (map (rest_at depth) rows) → IsStrictlySortedBy path_cmp (map (rest_at (depth + 1)) rows)
unfolding IsStrictlySortedBy
sorted_further depth seg [] here h = tt
sorted_further depth seg (row ∷ rows) here h = (less_further depth seg row rows here.0 here.1 h.0, sorted_further depth seg rows here.1 h.1)

-- rows with one segment are below its node
pub further : (nodes : List SchemaNode) (parent : Option ℕ) (depth : ℕ) (seg : Seg) (rows : List Row) → AllByRecursion (HasSegment depth seg) rows → AreBelow nodes parent depth rows
    → AreBelow nodes (Some seg.node) (depth + 1) rows
further nodes parent depth seg rows here h = record { each = all_further nodes parent depth seg rows here h.each; in_order = sorted_further depth seg rows here h.in_order }

-- ---- nodes in order

node_order : (o : Ordering) (s t : Seg) (keys rest : Ordering) → o ≡ nat_cmp s.node t.node → ordering_then (ordering_then o keys) rest ≡ Less → s.node ≤ t.node
node_order Less s t keys rest is h = let lt : s.node < t.node = ranked s.node t.node Less is in omega arith
node_order Equal s t keys rest is h = let same : s.node ≡ t.node = ranked s.node t.node Equal is in omega arith
node_order Greater s t keys rest is h = cc

pub nodes_rise : (s t : Seg) (xs ys : List Seg) → path_cmp (s ∷ xs) (t ∷ ys) ≡ Less → s.node ≤ t.node
nodes_rise s t xs ys h = node_order (nat_cmp s.node t.node) s t (slice_cmp atom_cmp s.keys t.keys) (path_cmp xs ys) refl h

pub less_next : (depth : ℕ) (row : Row) (rows : List Row) (next : Row) (more : List Row) → IsStrictlySortedBy path_cmp (map (rest_at depth) (row ∷ (rows ++ next ∷ more))) → path_cmp (rest_at depth row) (rest_at depth next) ≡ Less
unfolding IsStrictlySortedBy
less_next depth row rows next more h = less_middle path_cmp (rest_at depth) row rows next more h.0

pub same_parent : (a b p : Option ℕ) → same_number a p ≡ true → same_number b p ≡ true → same_number a b ≡ true
same_parent None None p h k = refl
same_parent None (Some b) None h k = k
same_parent None (Some b) (Some p) h k = absurd (true≢false (sym h))
same_parent (Some a) None None h k = h
same_parent (Some a) None (Some p) h k = absurd (true≢false (sym k))
same_parent (Some a) (Some b) None h k = absurd (true≢false (sym h))
same_parent (Some a) (Some b) (Some p) h k = eq-eqb a b (eqb-true a p h ∙ sym (eqb-true b p k))

-- a node that a row goes through, as a child of the parent
pub through_parent : (nodes : List SchemaNode) (parent : Option ℕ) (n : ℕ) (path : List Seg) → goes_down nodes parent path ≡ true → begins_with n path ≡ true
    → (same_number (node_at n nodes).parent parent ≡ true) × (n < length nodes)
through_parent nodes parent n [] down is = absurd (true≢false (sym is))
through_parent nodes parent n (seg ∷ rest) down is =
    let same = eqb-true seg.node n is in
    subst (λ k. (same_number (node_at k nodes).parent parent ≡ true) × (k < length nodes)) same (first_parent nodes parent seg rest down, segment_within nodes seg (first_segment nodes parent seg rest down))

-- ---- segments

pub drop_next : (i : ℕ) (xs : List Seg) (x : Seg) (rest : List Seg) → drop i xs ≡ x ∷ rest → drop (i + 1) xs ≡ rest
drop_next i xs x rest h = sym (drop-drop 1 i xs) ∙ ap (drop 1) h

pub segment_at : (depth n : ℕ) (row : Row) (path : List Seg) → drop depth row.path ≡ path → begins_with n path ≡ true → (seg : Seg) × (HasSegment depth seg row × (seg.node ≡ n))
segment_at depth n row [] here is = absurd (true≢false (sym is))
segment_at depth n row (seg ∷ rest) here is = (seg, (here ∙ ap (λ xs. seg ∷ xs) (sym (drop_next depth row.path seg rest here)), eqb-true seg.node n is))

-- the segment of a row that goes through a node
pub segment_of : (depth n : ℕ) (row : Row) → goes_through depth n row ≡ true → (seg : Seg) × (HasSegment depth seg row × (seg.node ≡ n))
segment_of depth n row is = segment_at depth n row (drop depth row.path) refl is

pub deep_enough : (depth : ℕ) (seg : Seg) (row : Row) → HasSegment depth seg row → depth < length row.path
deep_enough depth seg row here = let e : length row.path - depth ≡ length (seg ∷ drop (depth + 1) row.path) = sym (length-drop depth row.path) ∙ ap length here in omega arith
