-- What a filter keeps at a path depends on few rows: those of its match nodes, and of the entries on the way.
use Rattle.std.proofs.Common.{◌≡◌, ℕ, List, [], ◌∷◌, ◌++◌, refl, sym, ap, ◌∙◌, cond, Bool, true, false, true≢false, ◌&&◌, ◌||◌, Option, None, append_assoc, arith}
use Rattle.std.specs.Prelude.{is_some, nat_eq}
use Rattle.std.specs.Ordering.{is_eq}
use Rattle.std.proofs.lemmas.Bool.{and_from}
use Rattle.std.proofs.lemmas.Cmp.{tied_itself}
use Rattle.std.proofs.lemmas.Map.Views.{tells_apart}
use Rattle.yp_base.specs.declared.atom.Atom.{Atom}
use Rattle.yp_base.specs.declared.path.Seg.{Seg}
use Rattle.yp_base.specs.declared.row.Value.{Value}
use Rattle.yp_base.specs.declared.row.Row.{Row}
use Rattle.yp_base.specs.Exact.{paths_exact}
use Rattle.yp_base.specs.Order.{path_cmp, is_within}
use Rattle.yp_base.specs.OrderLaws.{segments_total}
use Rattle.yp_base.specs.Paths.{last_node, above_last}
use Rattle.yp_base.specs.PathLaws.{within_itself, within_longer}
use Rattle.yp_base.specs.Rows.{value_at}
use Rattle.yp_schema.specs.declared.schema.SchemaNode.{SchemaNode}
use Rattle.yp_schema.specs.declared.schema.Kind.{Kind}
use Rattle.yp_schema.specs.declared.schema.Kind.TheVariants.{Container, Presence, List as Listing, Leaf, LeafList}
use Rattle.yp_schema.specs.Nodes.{node_at}
use Rattle.yp_schema.specs.Datastore.{is_leaf_kind}
use Rattle.yp_schema.specs.SchemaLaws.{last_node_append}
use Rattle.yp_filter.specs.Filters.{Node, Nodes, select, compare, within, unknown, unknown_compare, none, more, Asked, all_rows, of_set, node_compares, set_compares, compares}
use Rattle.yp_nacm.specs.Decision.{visible_rows}
use Rattle.yp_kept.specs.Matches.{match_segment, key_at, holds_by, node_holds, all_hold}
use Rattle.yp_kept.specs.Selection.{enters_by, keeps_by, node_leads, set_leads, keeps, kept, selection}
use Rattle.yp_select.specs.Reaches.{is_one_of}
use Rattle.yp_select.specs.Places.{path_above, is_compared, moved_place, is_moved, DifferAt}
use Rattle.yp_kept.specs.SelectionLaws.{value_selected}
use Rattle.yp_kept.specs.KeptLaws.{Then, value_kept}

above_append : (path : List Seg) (seg : Seg) → path_above (path ++ seg ∷ []) ≡ path
above_append [] seg = refl
above_append (first ∷ path) seg = after first path
  where
    after : (first : Seg) (path : List Seg) → above_last first (path ++ seg ∷ []) ≡ first ∷ path
    after first [] = refl
    after first (next ∷ path) = ap (λ (rest : List Seg). first ∷ rest) (after next path)

left_then : (a b : Bool) → Then a (a || b)
left_then true b h = refl
left_then false b h = absurd (true≢false (sym h))

right_then : (a b : Bool) → Then b (a || b)
right_then true b h = refl
right_then false b h = h

self_same : (n : ℕ) → nat_eq n n ≡ true
self_same n = grind arith

module _ (nodes : List SchemaNode) (asked : Asked) (rows other : List Row) (whole : List Seg) (same : (path : List Seg) → is_within (moved_place nodes asked path) whole ≡ true → value_at path rows ≡ value_at path other) where
  -- the row that a match node asks for
  match_row : (at rest : List Seg) (n : ℕ) (value : Value) → at ++ rest ≡ whole → is_leaf_kind (node_at n nodes).kind ≡ true → compares n asked ≡ true
      → value_at (at ++ match_segment nodes n value ∷ []) rows ≡ value_at (at ++ match_segment nodes n value ∷ []) other
  match_row at rest n value is leaf compared =
      let seg = match_segment nodes n value in
      let matched : is_compared nodes asked (last_node (at ++ seg ∷ [])) ≡ true = ap (is_compared nodes asked) (last_node_append at seg) ∙ and_from _ _ leaf compared in
      let place : moved_place nodes asked (at ++ seg ∷ []) ≡ at = ap (λ b. cond b (path_above (at ++ seg ∷ [])) (at ++ seg ∷ [])) matched ∙ above_append at seg in
      same (at ++ seg ∷ []) (ap (λ p. is_within p whole) place ∙ ap (is_within at) (sym is) ∙ within_longer at at rest (within_itself at))

  holds_alike : (kind : Kind) (key : Option Atom) (value : Value) (one two : Option Value) → (is_leaf_kind kind ≡ true → one ≡ two) → holds_by kind key value one ≡ holds_by kind key value two
  holds_alike Container key value one two is = refl
  holds_alike Presence key value one two is = refl
  holds_alike Listing key value one two is = refl
  holds_alike Leaf key value one two is = ap (holds_by Leaf key value) (is refl)
  holds_alike LeafList key value one two is = ap (holds_by LeafList key value) (is refl)

  node_alike : (node : Node) (at rest : List Seg) → at ++ rest ≡ whole → ((n : ℕ) → Then (node_compares n node) (compares n asked)) → node_holds nodes rows at node ≡ node_holds nodes other at node
  node_alike (select n) at rest is of = refl
  node_alike (compare n value) at rest is of =
      holds_alike (node_at n nodes).kind (key_at nodes at n) value _ _ (λ leaf. match_row at rest n value is leaf (of n (self_same n)))
  node_alike (within n set) at rest is of = refl
  node_alike unknown at rest is of = refl
  node_alike unknown_compare at rest is of = refl

  hold_alike : (set : Nodes) (at rest : List Seg) → at ++ rest ≡ whole → ((n : ℕ) → Then (set_compares n set) (compares n asked)) → all_hold nodes rows at set ≡ all_hold nodes other at set
  hold_alike none at rest is of = refl
  hold_alike (more node set) at rest is of =
      (λ i. node_alike node at rest is (λ n h. of n (left_then (node_compares n node) (set_compares n set) h)) i
      && hold_alike set at rest is (λ n h. of n (right_then (node_compares n node) (set_compares n set) h)) i)

  -- the row of an instance on the way
  instance_row : (at : List Seg) (seg : Seg) (rest : List Seg) → (at ++ seg ∷ []) ++ rest ≡ whole → value_at (at ++ seg ∷ []) rows ≡ value_at (at ++ seg ∷ []) other
  instance_row at seg rest is =
      let inside : (b : Bool) → is_within (cond b (path_above (at ++ seg ∷ [])) (at ++ seg ∷ [])) whole ≡ true = λ b. elim b as (λ b. is_within (cond b (path_above (at ++ seg ∷ [])) (at ++ seg ∷ [])) whole ≡ true) [
        | true ↦ ap (λ p. is_within p whole) (above_append at seg) ∙ ap (is_within at) (sym (sym (append_assoc at (seg ∷ []) rest) ∙ is)) ∙ within_longer at at (seg ∷ rest) (within_itself at)
        | false ↦ ap (is_within (at ++ seg ∷ [])) (sym is) ∙ within_longer (at ++ seg ∷ []) (at ++ seg ∷ []) rest (within_itself (at ++ seg ∷ []))
      ] in
      same (at ++ seg ∷ []) (inside (is_compared nodes asked (last_node (at ++ seg ∷ []))))

  by_alike : (set : Nodes) (at rest : List Seg) (one two : Bool) → at ++ rest ≡ whole → ((n : ℕ) → Then (set_compares n set) (compares n asked)) → one ≡ two
      → keeps_by nodes rows set at rest one ≡ keeps_by nodes other set at rest two
  by_alike set at [] one two is of leads = hold_alike set at [] is of
  by_alike set at (seg ∷ segs) one two is of leads =
      ap (keeps_by nodes rows set at (seg ∷ segs)) leads
      ∙ swapped (all_hold nodes rows at set) (all_hold nodes other at set) _ (hold_alike set at (seg ∷ segs) is of)
    where
      swapped : (a b c : Bool) → a ≡ b → (a && c) ≡ (b && c)
      swapped a b c e = ap (λ x. x && c) e

  mutual
    leads_alike : (node : Node) (at rest : List Seg) → at ++ rest ≡ whole → ((n : ℕ) → Then (node_compares n node) (compares n asked)) → node_leads nodes rows node at rest ≡ node_leads nodes other node at rest
    leads_alike (select n) at rest is of = refl
    leads_alike (compare n value) at rest is of = refl
    leads_alike (within n set) at [] is of = refl
    leads_alike (within n set) at (seg ∷ segs) is of =
        let deeper : (at ++ seg ∷ []) ++ segs ≡ whole = append_assoc at (seg ∷ []) segs ∙ is in
        (λ i. nat_eq seg.node n && enters_by (node_at n nodes).kind (is_some (instance_row at seg segs deeper i))
        && by_alike set (at ++ seg ∷ []) segs _ _ deeper of (all_alike set (at ++ seg ∷ []) segs deeper of) i)
    leads_alike unknown at rest is of = refl
    leads_alike unknown_compare at rest is of = refl

    all_alike : (set : Nodes) (at rest : List Seg) → at ++ rest ≡ whole → ((n : ℕ) → Then (set_compares n set) (compares n asked)) → set_leads nodes rows set at rest ≡ set_leads nodes other set at rest
    all_alike none at rest is of = refl
    all_alike (more node set) at rest is of =
        (λ i. leads_alike node at rest is (λ n h. of n (left_then (node_compares n node) (set_compares n set) h)) i
        || all_alike set at rest is (λ n h. of n (right_then (node_compares n node) (set_compares n set) h)) i)

  set_alike : (set : Nodes) → asked ≡ of_set set → keeps nodes rows set [] whole ≡ keeps nodes other set [] whole
  set_alike set is =
      let of : (n : ℕ) → Then (set_compares n set) (compares n asked) = λ n h. ap (compares n) is ∙ h in
      by_alike set [] whole _ _ refl of (all_alike set [] whole refl of)

-- what is kept at a path is one in two lists of rows that have the same where the path is at or below what they can move
pub kept_alike : (nodes : List SchemaNode) (asked : Asked) (rows other : List Row) (path : List Seg)
    → ((one : List Seg) → is_within (moved_place nodes asked one) path ≡ true → value_at one rows ≡ value_at one other) → kept nodes asked rows path ≡ kept nodes asked other path
kept_alike nodes all_rows rows other path same = refl
kept_alike nodes (of_set set) rows other path same = set_alike nodes (of_set set) rows other path same set refl

-- a path at or below what a row can move, and below none that changed rows can, is of no changed row
unmoved_at : (nodes : List SchemaNode) (asked : Asked) (changed : List (List Seg)) (path one : List Seg) → is_moved nodes asked changed path ≡ false → is_within (moved_place nodes asked one) path ≡ true → is_one_of changed one ≡ false
unmoved_at nodes asked [] path one still inside = refl
unmoved_at nodes asked (first ∷ changed) path one still inside =
    elim (is_eq (path_cmp one first)) as (λ b. is_eq (path_cmp one first) ≡ b → (is_within (moved_place nodes asked first) path || is_moved nodes asked changed path) ≡ false → (b || is_one_of changed one) ≡ false) [
      | true ↦ λ e k. absurd (true≢false (sym (ap (λ p. is_within (moved_place nodes asked p) path || is_moved nodes asked changed path) (sym (tells_apart paths_exact one first e)) ∙ ap (λ b. b || is_moved nodes asked changed path) inside) ∙ k))
      | false ↦ λ e k. unmoved_at nodes asked changed path one (right_false (is_within (moved_place nodes asked first) path) (is_moved nodes asked changed path) k) inside
    ] refl still
  where
    right_false : (a b : Bool) → (a || b) ≡ false → b ≡ false
    right_false true b h = absurd (true≢false h)
    right_false false b h = h

-- what is kept can differ only at or below what changed rows can move
pub kept_local : (nodes : List SchemaNode) (asked : Asked) (readable : List Seg → Bool) (before after : List Row) (changed : List (List Seg)) → DifferAt changed before after
    → (path : List Seg) → is_moved nodes asked changed path ≡ false → kept nodes asked (visible_rows readable before) path ≡ kept nodes asked (visible_rows readable after) path
kept_local nodes asked readable before after changed differ path still =
    kept_alike nodes asked (visible_rows readable before) (visible_rows readable after) path (λ one inside.
    value_selected readable one before
    ∙ ap (λ (v : Option Value). cond (readable one) v None) (differ one (unmoved_at nodes asked changed path one still inside))
    ∙ sym (value_selected readable one after))

pub above_within : (path : List Seg) → is_within (path_above path) path ≡ true
above_within [] = refl
above_within (seg ∷ path) = up seg path
  where
    up : (seg : Seg) (path : List Seg) → is_within (above_last seg path) (seg ∷ path) ≡ true
    up seg [] = refl
    up seg (next ∷ path) = and_from _ _ (ap is_eq (tied_itself segments_total seg)) (up next path)

-- a path is at or below what its own row can move
pub own_place : (nodes : List SchemaNode) (asked : Asked) (path : List Seg) → is_within (moved_place nodes asked path) path ≡ true
own_place nodes asked path =
    elim (is_compared nodes asked (last_node path)) as (λ b. is_within (cond b (path_above path) path) path ≡ true) [
      | true ↦ above_within path
      | false ↦ within_itself path
    ]

-- and so can what a selection has at a path
pub selection_local : (nodes : List SchemaNode) (asked : Asked) (readable : List Seg → Bool) (before after : List Row) (changed : List (List Seg)) → DifferAt changed before after
    → (path : List Seg) → is_moved nodes asked changed path ≡ false → value_at path (selection nodes asked readable before) ≡ value_at path (selection nodes asked readable after)
selection_local nodes asked readable before after changed differ path still =
    value_kept nodes asked readable path before
    ∙ (λ i. cond (readable path && kept_local nodes asked readable before after changed differ path still i) (differ path (unmoved_at nodes asked changed path path still (own_place nodes asked path)) i) None)
    ∙ sym (value_kept nodes asked readable path after)
