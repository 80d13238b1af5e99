use Rattle.std.proofs.Common.{◌≡◌, map, drop}
use Rattle.yp_filter.specs.View.{node_view, nodes_of}
use Rattle.yp_select.specs.Reaches.{key_asked}
use Rattle.yp_select.proofs.reaches.key_asked.Given as goal

-- the nodes that are left tell it of all
abbrev pub invariant-loop-node : goal.invariant-loop-node
invariant-loop-node l = key_asked l.key (nodes_of (map node_view (drop l.node-index l.set))) ≡ key_asked l.key (nodes_of (map node_view l.set))
