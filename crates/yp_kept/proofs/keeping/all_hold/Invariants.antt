use Rattle.std.proofs.Common.{◌≡◌, ◌+◌, ◌≤◌, map, drop, true, None}
use Rattle.yp_schema.specs.SchemaLaws.{node_after}
use Rattle.yp_filter.specs.View.{node_view, nodes_of}
use Rattle.yp_filter.specs.Fits.{set_fits}
use Rattle.yp_nacm.specs.Decision.{visible_rows}
use Rattle.yp_kept.specs.Matches.{all_hold}
use Rattle.yp_kept.specs.Visits.{match_visits}
use Rattle.yp_kept.proofs.keeping.all_hold.Given as goal

-- the nodes that are left tell it of all, fit, and take the visits that are left
abbrev pub invariant-loop-node : goal.invariant-loop-node
invariant-loop-node g l =
    (all_hold l.visible.schema.now (visible_rows (g.R.Readable.may l.visible.readable.now l.visible.schema.now) l.visible.tree.now) l.at (nodes_of (map node_view (drop l.node-index l.set)))
    ≡ all_hold l.visible.schema.now (visible_rows (g.R.Readable.may l.visible.readable.now l.visible.schema.now) l.visible.tree.now) l.at (nodes_of (map node_view l.set)))
    × (set_fits l.visible.schema.now (node_after None l.at) (nodes_of (map node_view (drop l.node-index l.set))) ≡ true)
    × (l.steps + match_visits (nodes_of (map node_view (drop l.node-index l.set))) ≤ l.fn.steps + match_visits (nodes_of (map node_view l.set)))
