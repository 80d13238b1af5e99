-- A set, and a containment node, at the instance at the first segments of a path.
use Rattle.std.proofs.Common.{◌≡◌, ◌<◌, ◌+◌, ℕ, List, [], ◌∷◌, ◌++◌, length, take, drop, get_or, drop-cons, map, refl, sym, ap, subst, ◌∙◌, Bool, true, false, ◌&&◌, Option, Some, None, arith}
use Rattle.std.specs.Prelude.{nat_eq, ◌≤◌, ◌||◌, slice_get, Result, Ok, Err, OnOk}
use Rattle.std.proofs.Math.Seq.{take-suc}
use Rattle.std.proofs.lemmas.Bool.{and_parts}
use Rattle.yp_base.specs.declared.path.Seg.{Seg}
use Rattle.yp_base.specs.declared.row.Row.{Row}
use Rattle.yp_schema.specs.declared.schema.SchemaNode.{SchemaNode}
use Rattle.yp_schema.specs.SchemaLaws.{node_after, node_after_append}
use Rattle.yp_filter.specs.Filters.{Node, Nodes, select, compare, within, unknown, unknown_compare, none, more, set_size}
use Rattle.yp_filter.specs.declared.filter.FilterNode.{FilterNode}
use Rattle.yp_filter.specs.declared.filter.FilterSet.{FilterSet}
use Rattle.yp_filter.specs.View.{node_view, set_view, nodes_of}
use Rattle.yp_filter.specs.ViewLaws.{set_nodes}
use Rattle.yp_filter.specs.Fits.{is_child_of, node_fits, set_fits}
use Rattle.yp_kept.specs.Matches.{all_hold}
use Rattle.yp_kept.specs.Selection.{only_matches, set_names, set_selects, enters, node_leads, set_leads, keeps}
use Rattle.yp_kept.specs.Visits.{match_visits, inner_visits}
use Rattle.yp_kept.proofs.Ways.{one_more}

pub take_more : (path : List Seg) (d : ℕ) (seg : Seg) → d < length path → seg ≡ get_or path d seg → take (d + 1) path ≡ take d path ++ seg ∷ []
take_more path d seg less is = ap (λ k. take k path) (one_more d) ∙ take-suc path d seg less ∙ ap (λ (s : Seg). take d path ++ s ∷ []) (sym is)

pub drop_less : (path : List Seg) (d : ℕ) (seg : Seg) → d < length path → seg ≡ get_or path d seg → drop d path ≡ seg ∷ drop (d + 1) path
drop_less path d seg less is = drop-cons path d seg less ∙ (λ i. sym is i ∷ drop (sym (one_more d) i) path)

pub fits_within : (nodes : List SchemaNode) (node : Node) (path : List Seg) (d n : ℕ) (seg : Seg) (set : Nodes) → node ≡ within n set → d < length path → seg ≡ get_or path d seg → seg.node ≡ n
    → node_fits nodes (node_after None (take d path)) node ≡ true → set_fits nodes (node_after None (take (d + 1) path)) set ≡ true
fits_within nodes node path d n seg set seen less is same fits =
    let parts = and_parts (is_child_of nodes (node_after None (take d path)) n) (set_fits nodes (Some n) set) (ap (node_fits nodes (node_after None (take d path))) (sym seen) ∙ fits) in
    let end : node_after None (take (d + 1) path) ≡ Some n = ap (node_after None) (take_more path d seg less is) ∙ node_after_append None (take d path) seg ∙ ap (λ (k : ℕ). Some k) same in
    ap (λ (parent : Option ℕ). set_fits nodes parent set) end ∙ parts.1

pub leads_within : (nodes : List SchemaNode) (rows : List Row) (node : Node) (path : List Seg) (d n : ℕ) (seg : Seg) (set : Nodes) → node ≡ within n set → d < length path → seg ≡ get_or path d seg
    → node_leads nodes rows node (take d path) (drop d path) ≡ ((nat_eq seg.node n && enters nodes rows (take (d + 1) path) n) && keeps nodes rows set (take (d + 1) path) (drop (d + 1) path))
leads_within nodes rows node path d n seg set seen less is =
    ap (λ (one : Node). node_leads nodes rows one (take d path) (drop d path)) seen
    ∙ ap (node_leads nodes rows (within n set) (take d path)) (drop_less path d seg less is)
    ∙ ap (λ (deeper : List Seg). (nat_eq seg.node n && enters nodes rows deeper n) && keeps nodes rows set deeper (drop (d + 1) path)) (sym (take_more path d seg less is))

pub self_same : (n m : ℕ) → n ≡ m → nat_eq n m ≡ true
self_same n m same = grind (arith, same)

pub leads_none : (nodes : List SchemaNode) (rows : List Row) (node : Node) (path : List Seg) (d n : ℕ) (seg : Seg) (set : Nodes) (entered : Bool) → node ≡ within n set → d < length path → seg ≡ get_or path d seg
    → entered ≡ enters nodes rows (take (d + 1) path) n → entered ≡ false → false ≡ node_leads nodes rows node (take d path) (drop d path)
leads_none nodes rows node path d n seg set entered seen less is told out =
    sym (leads_within nodes rows node path d n seg set seen less is ∙ ap (λ b. (nat_eq seg.node n && b) && keeps nodes rows set (take (d + 1) path) (drop (d + 1) path)) (sym told ∙ out) ∙ gone (nat_eq seg.node n) (keeps nodes rows set (take (d + 1) path) (drop (d + 1) path)))
  where
    gone : (a b : Bool) → ((a && false) && b) ≡ false
    gone true b = refl
    gone false b = refl

pub leads_inner : (nodes : List SchemaNode) (rows : List Row) (node : Node) (path : List Seg) (d n : ℕ) (seg : Seg) (set : Nodes) (entered : Bool) → node ≡ within n set → d < length path → seg ≡ get_or path d seg → seg.node ≡ n
    → entered ≡ enters nodes rows (take (d + 1) path) n → entered ≡ true → keeps nodes rows set (take (d + 1) path) (drop (d + 1) path) ≡ node_leads nodes rows node (take d path) (drop d path)
leads_inner nodes rows node path d n seg set entered seen less is same told out =
    sym (leads_within nodes rows node path d n seg set seen less is ∙ (λ i. (self_same seg.node n same i && (sym told ∙ out) i) && keeps nodes rows set (take (d + 1) path) (drop (d + 1) path)))

-- match nodes, and containment nodes with what is in them, are no more than all nodes
pub parts_size : (set : Nodes) → match_visits set + inner_visits set ≤ set_size set
parts_size none = omega arith
parts_size (more (select n) set) = omega (arith, parts_size set)
parts_size (more (compare n value) set) = omega (arith, parts_size set)
parts_size (more (within n inner) set) = omega (arith, parts_size set)
parts_size (more unknown set) = omega (arith, parts_size set)
parts_size (more unknown_compare set) = omega (arith, parts_size set)

-- what a set keeps below its instance
pub keeps_some : (nodes : List SchemaNode) (rows : List Row) (set : Nodes) (at rest : List Seg) (seg : Seg) → slice_get rest 0 ≡ Some seg
    → keeps nodes rows set at rest ≡ (all_hold nodes rows at set && (((nat_eq (length rest) 1 && set_names nodes seg set) || only_matches set || set_selects seg.node set) || set_leads nodes rows set at rest))
keeps_some nodes rows set at [] seg first = let no : None ≡ Some seg = first in cc
keeps_some nodes rows set at (s ∷ []) seg first = let one : s ≡ seg = cc in ap (λ (x : Seg). all_hold nodes rows at set && (((true && set_names nodes x set) || only_matches set || set_selects x.node set) || set_leads nodes rows set at (s ∷ []))) one
keeps_some nodes rows set at (s ∷ t ∷ rest) seg first =
    let one : s ≡ seg = cc in
    let two : nat_eq (length (s ∷ t ∷ rest)) 1 ≡ false = grind arith in
    ap (λ (x : Seg). all_hold nodes rows at set && (((false && set_names nodes x set) || only_matches set || set_selects x.node set) || set_leads nodes rows set at (s ∷ t ∷ rest))) one
    ∙ ap (λ b. all_hold nodes rows at set && (((b && set_names nodes seg set) || only_matches set || set_selects seg.node set) || set_leads nodes rows set at (s ∷ t ∷ rest))) (sym two)

-- the visits of match nodes, and of these and the others
pub held_size : (new old : ℕ) (set : FilterSet) (items : List FilterNode) → items ≡ set.nodes.items → new ≤ old + match_visits (nodes_of (map node_view items)) → new ≤ old + set_size (set_view set)
held_size new old set items is held =
    let seen : nodes_of (map node_view items) ≡ set_view set = ap (λ (xs : List FilterNode). nodes_of (map node_view xs)) is ∙ sym (set_nodes set) in
    let most : new ≤ old + match_visits (set_view set) = subst (λ ns. new ≤ old + match_visits ns) seen held in
    omega (arith, most, parts_size (set_view set))

pub led_size : {E : Type 0} (r : Result Bool E) (new middle old : ℕ) (set : FilterSet) (items : List FilterNode) → items ≡ set.nodes.items → middle ≤ old + match_visits (nodes_of (map node_view items)) → OnOk r (new ≤ middle + inner_visits (set_view set)) → OnOk r (new ≤ old + set_size (set_view set))
led_size (Ok b) new middle old set items is held led =
    let seen : nodes_of (map node_view items) ≡ set_view set = ap (λ (xs : List FilterNode). nodes_of (map node_view xs)) is ∙ sym (set_nodes set) in
    let most : middle ≤ old + match_visits (set_view set) = subst (λ ns. middle ≤ old + match_visits ns) seen held in
    omega (arith, most, led, parts_size (set_view set))
led_size (Err e) new middle old set items is held led = tt
