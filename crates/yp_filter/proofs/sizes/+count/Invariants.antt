use Rattle.std.proofs.Common.{◌≡◌, ◌+◌, map, drop}
use Rattle.yp_filter.specs.Filters.{set_size}
use Rattle.yp_filter.specs.View.{node_view, set_view, nodes_of}
use Rattle.yp_filter.proofs.sizes.+count.Given as goal

-- what is counted and what is left are all
abbrev pub invariant-count_set-loop-node : goal.invariant-count_set-loop-node
invariant-count_set-loop-node l = l.size + set_size (nodes_of (map node_view (drop l.node-index l.node-items))) ≡ set_size (set_view l.set)
