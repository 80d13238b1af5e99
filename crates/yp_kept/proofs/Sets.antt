-- Sets of match nodes, and the rows that they ask for.
use Rattle.std.proofs.Common.{◌≡◌, ℕ, List, [], ◌∷◌, refl, Bool, true, false, true≢false, sym, ap, ◌∙◌, arith}
use Rattle.std.specs.Prelude.{not, nat_eq, ◌&&◌, ◌||◌}
use Rattle.std.specs.Cmp.Lexicographic.{slice_cmp}
use Rattle.std.specs.Ordering.{is_eq, nat_cmp, ordering_then}
use Rattle.std.specs.declared.cmp.Ordering.{Ordering}
use Rattle.std.specs.declared.cmp.Ordering.TheVariants.{Less, Equal, Greater}
use Rattle.yp_base.specs.declared.path.Seg.{Seg}
use Rattle.yp_base.specs.Order.{atom_cmp}
use Rattle.yp_schema.specs.WellFormed.{is_empty}
use Rattle.yp_base.specs.declared.row.Value.{Value}
use Rattle.yp_schema.specs.declared.schema.SchemaNode.{SchemaNode}
use Rattle.yp_schema.specs.Nodes.{node_at}
use Rattle.yp_filter.specs.Filters.{Node, compare}
use Rattle.yp_filter.specs.View.{nodes_of}
use Rattle.yp_kept.specs.Matches.{keys_asked}
use Rattle.yp_kept.specs.Selection.{is_match, has_match, all_match, node_names}

-- where all nodes of a set are match nodes, it has one unless it is empty
pub all_then : (set : List Node) → all_match (nodes_of set) ≡ true → has_match (nodes_of set) ≡ not (is_empty set)
all_then [] all = refl
all_then (node ∷ set) all = first (is_match node) (all_match (nodes_of set)) (has_match (nodes_of set)) all
  where
    first : (one all has : Bool) → (one && all) ≡ true → (one || has) ≡ true
    first true all has h = refl
    first false all has h = absurd (true≢false (sym h))

then_parts : (one two : Ordering) → is_eq (ordering_then one two) ≡ (is_eq one && is_eq two)
then_parts Less two = refl
then_parts Equal two = refl
then_parts Greater two = refl

number_told : (n m : ℕ) → is_eq (nat_cmp n m) ≡ nat_eq n m
number_told n m = grind arith

-- a match node asks for the row of a segment by its node and its keys
pub named : (nodes : List SchemaNode) (seg : Seg) (n : ℕ) (value : Value)
    → node_names nodes seg (compare n value) ≡ (nat_eq n seg.node && is_eq (slice_cmp atom_cmp (keys_asked (node_at n nodes).kind value) seg.keys))
named nodes seg n value =
    then_parts (nat_cmp n seg.node) (slice_cmp atom_cmp (keys_asked (node_at n nodes).kind value) seg.keys)
    ∙ ap (λ b. b && is_eq (slice_cmp atom_cmp (keys_asked (node_at n nodes).kind value) seg.keys)) (number_told n seg.node)
