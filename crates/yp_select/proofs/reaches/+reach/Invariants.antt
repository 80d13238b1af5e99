use Rattle.std.proofs.Common.{◌≡◌, ◌++◌, map, drop, true}
use Rattle.yp_filter.specs.View.{node_view, set_view, nodes_of}
use Rattle.yp_select.specs.Reaches.{own_of_nodes, below_of_nodes, set_stands}
use Rattle.yp_select.proofs.reaches.+reach.Given as goal

-- what is added so far and that of the nodes that are left is all
abbrev pub invariant-add_set-loop-node : goal.invariant-add_set-loop-node
invariant-add_set-loop-node l = record {
  stands : set_stands l.schema (nodes_of (map node_view (drop l.node-index l.node-items))) ≡ true;
  own : l.reaches.own.items ++ own_of_nodes l.schema (nodes_of (map node_view (drop l.node-index l.node-items))) l.fn.at ≡ l.initial.reaches.own.items ++ own_of_nodes l.schema (set_view l.set) l.fn.at;
  below : l.reaches.below.items ++ below_of_nodes l.schema (nodes_of (map node_view (drop l.node-index l.node-items))) l.fn.at ≡ l.initial.reaches.below.items ++ below_of_nodes l.schema (set_view l.set) l.fn.at;
}
