use Rattle.std.proofs.Common.{◌≡◌, map, drop}
use Rattle.yp_filter.specs.View.{node_view, nodes_of}
use Rattle.yp_kept.specs.Selection.{all_match}
use Rattle.yp_kept.proofs.keeping.only_matches.Given as goal

-- the nodes that are left tell it of all
abbrev pub invariant-loop-node : goal.invariant-loop-node
invariant-loop-node l = all_match (nodes_of (map node_view (drop l.node-index l.set))) ≡ all_match (nodes_of (map node_view l.set))
