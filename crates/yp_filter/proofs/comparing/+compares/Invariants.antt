use Rattle.std.proofs.Common.{◌≡◌, map, drop}
use Rattle.yp_filter.specs.Filters.{set_compares}
use Rattle.yp_filter.specs.View.{node_view, set_view, nodes_of}
use Rattle.yp_filter.proofs.comparing.+compares.Given as goal

-- the nodes that are left tell it of all
abbrev pub invariant-set_compares-loop-each : goal.invariant-set_compares-loop-each
invariant-set_compares-loop-each l = set_compares l.node (nodes_of (map node_view (drop l.each-index l.each-items))) ≡ set_compares l.node (set_view l.set)
