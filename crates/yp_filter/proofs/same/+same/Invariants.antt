use Rattle.std.proofs.Common.{◌≡◌, map, drop}
use Rattle.yp_filter.specs.Same.{same_set}
use Rattle.yp_filter.specs.View.{node_view, set_view, nodes_of}
use Rattle.yp_filter.proofs.same.+same.Given as goal

-- the nodes that are left tell it of all
abbrev pub invariant-same_set-loop-node : goal.invariant-same_set-loop-node
invariant-same_set-loop-node l =
    same_set (nodes_of (map node_view (drop l.node-index l.node-items))) (nodes_of (map node_view l.rest)) ≡ same_set (set_view l.one) (set_view l.other)
