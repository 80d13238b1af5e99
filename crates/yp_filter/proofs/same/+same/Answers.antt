use Rattle.std.proofs.Common.{◌≡◌, ◌==◌, ℕ, suc, false, List, [], ◌∷◌, length, map, refl, sym, ◌∙◌, arith}
use Rattle.std.proofs.lemmas.List.{at_drop_all}
use Rattle.yp_filter.specs.Filters.{none}
use Rattle.yp_filter.specs.Same.{same_set}
use Rattle.yp_filter.specs.View.{node_view, nodes_of}
use Rattle.yp_filter.specs.declared.filter.FilterNode.{FilterNode}
use Rattle.yp_filter.proofs.same.+same.Goals as goal

-- no nodes are the same as those that are left exactly where none is left
none_left : (left : List FilterNode) → (length left == 0) ≡ same_set none (nodes_of (map node_view left))
none_left [] = refl
none_left (node ∷ left) = some (length left)
  where
    some : (n : ℕ) → (suc n == 0) ≡ false
    some n = grind arith

pub same_set-returns : goal.same_set-returns
same_set-returns t c =
    let items = c.items-node-items.result.now in
    let left = c.loop-node.rest.now in
    c.is_empty.ensures
    ∙ none_left left
    ∙ sym (at_drop_all (λ (nodes : List FilterNode). same_set (nodes_of (map node_view nodes)) (nodes_of (map node_view left))) items c.loop-node.node-index (omega arith))
    ∙ c.loop-node.invariant
