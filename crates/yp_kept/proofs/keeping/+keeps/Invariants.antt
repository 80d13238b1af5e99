use Rattle.std.proofs.Common.{◌≡◌, ◌+◌, ◌-◌, ◌*◌, ◌≤◌, length, map, take, drop, true, None}
use Rattle.yp_schema.specs.SchemaLaws.{node_after}
use Rattle.yp_filter.specs.View.{node_view, set_view, nodes_of}
use Rattle.yp_filter.specs.Fits.{set_fits}
use Rattle.yp_nacm.specs.Decision.{visible_rows}
use Rattle.yp_kept.specs.Selection.{set_leads}
use Rattle.yp_kept.specs.Visits.{inner_visits}
use Rattle.yp_kept.proofs.keeping.+keeps.Given as goal

-- the nodes that are left tell it of all, fit, and take the visits that are left
abbrev pub invariant-set_leads-loop-node : goal.invariant-set_leads-loop-node
invariant-set_leads-loop-node g l =
    (set_leads l.visible.schema.now (visible_rows (g.R.Readable.may l.visible.readable.now l.visible.schema.now) l.visible.tree.now) (nodes_of (map node_view (drop l.node-index l.node-items))) (take l.depth l.path) (drop l.depth l.path)
    ≡ set_leads l.visible.schema.now (visible_rows (g.R.Readable.may l.visible.readable.now l.visible.schema.now) l.visible.tree.now) (set_view l.set) (take l.depth l.path) (drop l.depth l.path))
    × (set_fits l.visible.schema.now (node_after None (take l.depth l.path)) (nodes_of (map node_view (drop l.node-index l.node-items))) ≡ true)
    × (l.steps + inner_visits (nodes_of (map node_view (drop l.node-index l.node-items))) ≤ l.initial.steps + inner_visits (set_view l.set))

-- what is left of the path grows shorter
abbrev pub decreases-keeps : goal.decreases-keeps
decreases-keeps g l = 3 * (length l.path.now - l.depth) + 2

abbrev pub decreases-set_leads : goal.decreases-set_leads
decreases-set_leads g l = 3 * (length l.path.now - l.depth) + 1

abbrev pub decreases-node_leads : goal.decreases-node_leads
decreases-node_leads g l = 3 * (length l.path.now - l.depth)
