use Rattle.std.proofs.Common.{◌≡◌, map, drop}
use Rattle.yp_filter.specs.View.{node_view, nodes_of}
use Rattle.yp_kept.specs.Selection.{set_selects}
use Rattle.yp_kept.proofs.keeping.set_selects.Given as goal

-- the nodes that are left tell it of all
abbrev pub invariant-loop-each : goal.invariant-loop-each
invariant-loop-each l = set_selects l.node (nodes_of (map node_view (drop l.each-index l.set))) ≡ set_selects l.node (nodes_of (map node_view l.set))
