use Rattle.std.proofs.Common.{◌≡◌, map, drop, true}
use Rattle.yp_filter.specs.View.{node_view, nodes_of}
use Rattle.yp_select.specs.Reaches.{are_narrow, set_stands}
use Rattle.yp_select.proofs.reaches.are_narrow.Given as goal

-- the nodes that are left tell it of all, and are the schema's
abbrev pub invariant-loop-node : goal.invariant-loop-node
invariant-loop-node l =
    (are_narrow l.schema (nodes_of (map node_view (drop l.node-index l.set))) ≡ are_narrow l.schema (nodes_of (map node_view l.set)))
    × (set_stands l.schema (nodes_of (map node_view (drop l.node-index l.set))) ≡ true)
