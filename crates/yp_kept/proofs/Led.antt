-- The sets that are led to: how many visits they leave, and that they fit.
use Rattle.std.proofs.Common.{◌≡◌, ◌<◌, ◌≤◌, ◌+◌, ℕ, List, [], ◌∷◌, ◌++◌, length, drop, get_or, drop-cons, map, refl, sym, ap, subst, ◌∙◌, cond, Bool, true, false, ◌&&◌, Option, Some, None, append_assoc, arith}
use Rattle.std.specs.Prelude.{nat_eq}
use Rattle.std.specs.Borrow.{Bor}
use Rattle.std.specs.List.{AllByRecursion}
use Rattle.std.proofs.lemmas.Bool.{and_parts}
use Rattle.yp_base.specs.declared.path.Seg.{Seg}
use Rattle.yp_base.specs.declared.row.Row.{Row}
use Rattle.yp_schema.specs.declared.schema.SchemaNode.{SchemaNode}
use Rattle.yp_schema.specs.SchemaLaws.{node_after, node_after_append}
use Rattle.yp_filter.specs.Filters.{Node, Nodes, select, compare, within, unknown, unknown_compare, none, more, set_size}
use Rattle.yp_filter.specs.declared.filter.FilterNode.{FilterNode}
use Rattle.yp_filter.specs.declared.filter.FilterSet.{FilterSet}
use Rattle.yp_filter.specs.Fits.{is_child_of, node_fits, set_fits}
use Rattle.yp_filter.specs.View.{node_view, set_view, nodes_of}
use Rattle.yp_filter.specs.ViewLaws.{set_nodes}
use Rattle.yp_kept.specs.Matches.{all_hold}
use Rattle.yp_kept.specs.Selection.{enters}
use Rattle.yp_kept.specs.Standing.{Stands, everything, these, views, node_led, set_led, sets_led, select_child, stands_below, stands_at_top, child_at, SetsFit, StandsFit, sets_visits, stands_visits}
use Rattle.yp_kept.specs.Visits.{match_visits, inner_count, inner_visits}
use Rattle.yp_kept.proofs.Leading.{drop_less, parts_size}
use Rattle.yp_kept.proofs.Ways.{one_more}

-- the child that a path goes on to
pub child_is : (path : List Seg) (d : ℕ) (seg : Seg) → d < length path → seg ≡ get_or path d seg → child_at d path ≡ seg.node
child_is path d seg less is = ap first_node (drop_less path d seg less is)
  where
    first_node : List Seg → ℕ
    first_node [] = 0
    first_node (s ∷ segs) = s.node

-- what a set of the program says, by its nodes
pub set_items : (set : FilterSet) (items : List FilterNode) → items ≡ set.nodes.items → nodes_of (map node_view items) ≡ set_view set
set_items set items is = ap (λ (xs : List FilterNode). nodes_of (map node_view xs)) is ∙ sym (set_nodes set)

-- ---- the program's steps

-- the visits of a containment node and of its set's match nodes leave those of the nodes in it
pub entered_visits : (held entered old n : ℕ) (node : Node) (set : FilterSet) (items : List FilterNode) → node ≡ within n (set_view set) → items ≡ set.nodes.items → entered ≤ old + 1 → held ≤ entered + match_visits (nodes_of (map node_view items))
    → held + inner_visits (set_view set) ≤ old + inner_count node
entered_visits held entered old n node set items is are first then =
    let most : held ≤ entered + match_visits (set_view set) = subst (λ ns. held ≤ entered + match_visits ns) (set_items set items are) then in
    subst (λ (one : Node). held + inner_visits (set_view set) ≤ old + inner_count one) (sym is) (omega (arith, first, most, parts_size (set_view set)))

-- the visits of the top's match nodes leave those of the nodes in its set
pub top_visits : (held old : ℕ) (set : Bor FilterSet) (items : List FilterNode) (sets : List (Bor FilterSet)) → items ≡ set.now.nodes.items → held ≤ old + match_visits (nodes_of (map node_view items)) → sets ≡ set ∷ []
    → held + sets_visits (views sets) ≤ old + set_size (set_view set.now)
top_visits held old set items sets are then is =
    let most : held ≤ old + match_visits (set_view set.now) = subst (λ ns. held ≤ old + match_visits ns) (set_items set.now items are) then in
    omega (arith, most, parts_size (set_view set.now), ap (λ xs. sets_visits (views xs)) is)

pub no_visits : (held old : ℕ) (set : FilterSet) (items : List FilterNode) (sets : List (Bor FilterSet)) → items ≡ set.nodes.items → held ≤ old + match_visits (nodes_of (map node_view items)) → sets ≡ []
    → held + sets_visits (views sets) ≤ old + set_size (set_view set)
no_visits held old set items sets are then is =
    let most : held ≤ old + match_visits (set_view set) = subst (λ ns. held ≤ old + match_visits ns) (set_items set items are) then in
    omega (arith, most, parts_size (set_view set), ap (λ xs. sets_visits (views xs)) is)

-- where a containment node leads on, it leads to its set
pub led_one : (nodes : List SchemaNode) (rows : List Row) (at : List Seg) (child n : ℕ) (node : Node) (set : Nodes) → node ≡ within n set → nat_eq child n ≡ true → enters nodes rows at n ≡ true → all_hold nodes rows at set ≡ true
    → set ∷ [] ≡ node_led nodes rows at child node
led_one nodes rows at child n node set is same entered held =
    sym (ap (node_led nodes rows at child) is ∙ (λ i. cond ((same i && entered i) && held i) (set ∷ []) []))

visits_append : (sets others : List Nodes) → sets_visits (sets ++ others) ≡ sets_visits sets + sets_visits others
visits_append [] others = omega arith
visits_append (set ∷ sets) others = omega (arith, visits_append sets others)

pub views_append : (sets others : List (Bor FilterSet)) → views (sets ++ others) ≡ views sets ++ views others
views_append [] others = refl
views_append (set ∷ sets) others = ap (λ (xs : List Nodes). set_view set.now ∷ xs) (views_append sets others)

nodes_left : (items : List FilterNode) (k : ℕ) (item : FilterNode) → k < length items → item ≡ get_or items k item
    → nodes_of (map node_view (drop k items)) ≡ more (node_view item) (nodes_of (map node_view (drop (k + 1) items)))
nodes_left items k item less is =
    ap (λ (xs : List FilterNode). nodes_of (map node_view xs)) (drop-cons items k item less ∙ (λ i. sym is i ∷ drop (sym (one_more k) i) items))

-- the sets that one node more leads to
pub led_more : (nodes : List SchemaNode) (rows : List Row) (at : List Seg) (child : ℕ) (items : List FilterNode) (k : ℕ) (item : FilterNode) (led new one all : List Nodes) → k < length items → item ≡ get_or items k item
    → new ≡ led ++ one → one ≡ node_led nodes rows at child (node_view item) → led ++ set_led nodes rows at child (nodes_of (map node_view (drop k items))) ≡ all
    → new ++ set_led nodes rows at child (nodes_of (map node_view (drop (k + 1) items))) ≡ all
led_more nodes rows at child items k item led new one all less is grown told before =
    let later = set_led nodes rows at child (nodes_of (map node_view (drop (k + 1) items))) in
    ap (λ (xs : List Nodes). xs ++ later) grown ∙ append_assoc led one later ∙ ap (λ (xs : List Nodes). led ++ (xs ++ later)) told
    ∙ ap (λ (ns : Nodes). led ++ set_led nodes rows at child ns) (sym (nodes_left items k item less is)) ∙ before

-- the visits of one node more
pub visits_more : (items : List FilterNode) (k : ℕ) (item : FilterNode) (led new one : List Nodes) (later now most : ℕ) → k < length items → item ≡ get_or items k item
    → new ≡ led ++ one → later + sets_visits one ≤ now + inner_count (node_view item) → now + sets_visits led + inner_visits (nodes_of (map node_view (drop k items))) ≤ most
    → later + sets_visits new + inner_visits (nodes_of (map node_view (drop (k + 1) items))) ≤ most
visits_more items k item led new one later now most less is grown step before =
    omega (arith, step, before, ap sets_visits grown ∙ visits_append led one, ap inner_visits (nodes_left items k item less is))

pub fits_more : (nodes : List SchemaNode) (parent : Option ℕ) (items : List FilterNode) (k : ℕ) (item : FilterNode) → k < length items → item ≡ get_or items k item
    → set_fits nodes parent (nodes_of (map node_view (drop k items))) ≡ true → set_fits nodes parent (nodes_of (map node_view (drop (k + 1) items))) ≡ true
fits_more nodes parent items k item less is fits =
    (and_parts (node_fits nodes parent (node_view item)) (set_fits nodes parent (nodes_of (map node_view (drop (k + 1) items)))) (ap (set_fits nodes parent) (sym (nodes_left items k item less is)) ∙ fits)).1

-- ---- one instance down

-- what holds of the sets of two lists holds of those of both
pub all_append : (P : Nodes → Type 0) (sets others : List Nodes) → AllByRecursion P sets → AllByRecursion P others → AllByRecursion P (sets ++ others)
all_append P [] others first then = then
all_append P (set ∷ sets) others first then = (first.0, all_append P sets others first.1 then)

module _ (nodes : List SchemaNode) (rows : List Row) where
  node_led_fits : (at : List Seg) (child : ℕ) (parent : Option ℕ) (node : Node) → node_fits nodes parent node ≡ true → SetsFit nodes (Some child) (node_led nodes rows at child node)
  node_led_fits at child parent (select m) fits = tt
  node_led_fits at child parent (compare m value) fits = tt
  node_led_fits at child parent (within m set) fits =
      elim ((nat_eq child m && enters nodes rows at m) && all_hold nodes rows at set) as (λ b. ((nat_eq child m && enters nodes rows at m) && all_hold nodes rows at set) ≡ b → SetsFit nodes (Some child) (cond b (set ∷ []) [])) [
        | true ↦ λ gate.
            let same : nat_eq child m ≡ true = (and_parts (nat_eq child m) (enters nodes rows at m) (and_parts (nat_eq child m && enters nodes rows at m) (all_hold nodes rows at set) gate).0).0 in
            let one : child ≡ m = grind (arith, same) in
            (ap (λ k. set_fits nodes (Some k) set) one ∙ (and_parts (is_child_of nodes parent m) (set_fits nodes (Some m) set) fits).1, tt)
        | false ↦ λ gate. tt
      ] refl
  node_led_fits at child parent unknown fits = tt
  node_led_fits at child parent unknown_compare fits = tt

  set_led_fits : (at : List Seg) (child : ℕ) (parent : Option ℕ) (set : Nodes) → set_fits nodes parent set ≡ true → SetsFit nodes (Some child) (set_led nodes rows at child set)
  set_led_fits at child parent none fits = tt
  set_led_fits at child parent (more node set) fits =
      let parts = and_parts (node_fits nodes parent node) (set_fits nodes parent set) fits in
      all_append (λ one. set_fits nodes (Some child) one ≡ true) (node_led nodes rows at child node) (set_led nodes rows at child set) (node_led_fits at child parent node parts.0) (set_led_fits at child parent set parts.1)

  sets_led_fit : (at : List Seg) (child : ℕ) (parent : Option ℕ) (sets : List Nodes) → SetsFit nodes parent sets → SetsFit nodes (Some child) (sets_led nodes rows at child sets)
  sets_led_fit at child parent [] fits = tt
  sets_led_fit at child parent (set ∷ sets) fits =
      all_append (λ one. set_fits nodes (Some child) one ≡ true) (set_led nodes rows at child set) (sets_led nodes rows at child sets) (set_led_fits at child parent set fits.0) (sets_led_fit at child parent sets fits.1)

  -- what stands at an instance fits there
  pub below_fits : (at : List Seg) (seg : Seg) (stands : Stands) → StandsFit nodes (node_after None at) stands → StandsFit nodes (node_after None (at ++ seg ∷ [])) (stands_below nodes rows (at ++ seg ∷ []) seg.node stands)
  below_fits at seg everything fits = tt
  below_fits at seg (these sets) fits = by (select_child seg.node sets)
    where
      by : (b : Bool) → StandsFit nodes (node_after None (at ++ seg ∷ [])) (cond b everything (these (sets_led nodes rows (at ++ seg ∷ []) seg.node sets)))
      by true = tt
      by false = subst (λ parent. SetsFit nodes parent (sets_led nodes rows (at ++ seg ∷ []) seg.node sets)) (sym (node_after_append None at seg)) (sets_led_fit (at ++ seg ∷ []) seg.node (node_after None at) sets fits)

  pub top_fits : (set : Nodes) → set_fits nodes None set ≡ true → StandsFit nodes None (stands_at_top nodes rows set)
  top_fits set fits = by (all_hold nodes rows [] set)
    where
      by : (b : Bool) → SetsFit nodes None (cond b (set ∷ []) [])
      by true = (fits, tt)
      by false = tt

  node_led_few : (at : List Seg) (child : ℕ) (node : Node) → sets_visits (node_led nodes rows at child node) ≤ inner_count node
  node_led_few at child (select m) = omega arith
  node_led_few at child (compare m value) = omega arith
  node_led_few at child (within m set) = by ((nat_eq child m && enters nodes rows at m) && all_hold nodes rows at set)
    where
      by : (b : Bool) → sets_visits (cond b (set ∷ []) []) ≤ 1 + set_size set
      by true = omega (arith, parts_size set)
      by false = omega arith
  node_led_few at child unknown = omega arith
  node_led_few at child unknown_compare = omega arith

  set_led_few : (at : List Seg) (child : ℕ) (set : Nodes) → sets_visits (set_led nodes rows at child set) ≤ inner_visits set
  set_led_few at child none = omega arith
  set_led_few at child (more node set) = omega (arith, visits_append (node_led nodes rows at child node) (set_led nodes rows at child set), node_led_few at child node, set_led_few at child set)

  sets_led_few : (at : List Seg) (child : ℕ) (sets : List Nodes) → sets_visits (sets_led nodes rows at child sets) ≤ sets_visits sets
  sets_led_few at child [] = omega arith
  sets_led_few at child (set ∷ sets) = omega (arith, visits_append (set_led nodes rows at child set) (sets_led nodes rows at child sets), set_led_few at child set, sets_led_few at child sets)

  -- what stands further down leaves no more visits
  pub below_few : (at : List Seg) (child most : ℕ) (stands : Stands) → stands_visits stands ≤ most → stands_visits (stands_below nodes rows at child stands) ≤ most
  below_few at child most everything few = few
  below_few at child most (these sets) few = by (select_child child sets)
    where
      by : (b : Bool) → stands_visits (cond b everything (these (sets_led nodes rows at child sets))) ≤ most
      by true = omega arith
      by false = omega (arith, few, sets_led_few at child sets)

  pub top_few : (set : Nodes) → stands_visits (stands_at_top nodes rows set) ≤ set_size set
  top_few set = by (all_hold nodes rows [] set)
    where
      by : (b : Bool) → sets_visits (cond b (set ∷ []) []) ≤ set_size set
      by true = omega (arith, parts_size set)
      by false = omega arith
