use Rattle.std.proofs.Common.{◌≡◌, ◌+◌, ◌≤◌, ◌++◌, map, take, drop, true, None}
use Rattle.yp_schema.specs.SchemaLaws.{node_after}
use Rattle.yp_filter.specs.View.{node_view, set_view, nodes_of}
use Rattle.yp_filter.specs.Fits.{set_fits}
use Rattle.yp_nacm.specs.Decision.{visible_rows}
use Rattle.yp_kept.specs.Standing.{views, set_led, child_at, sets_visits}
use Rattle.yp_kept.specs.Visits.{inner_visits}
use Rattle.yp_kept.proofs.standing.add_led.Given as goal

-- the sets so far and those that the nodes that are left lead to are all; these nodes fit, and take the visits that are left
abbrev pub invariant-loop-node : goal.invariant-loop-node
invariant-loop-node g l = record {
  led : views l.led.items ++ set_led l.visible.schema.now (visible_rows (g.R.Readable.may l.visible.readable.now l.visible.schema.now) l.visible.tree.now) (take (l.depth + 1) l.path) (child_at l.depth l.path) (nodes_of (map node_view (drop l.node-index l.node-items)))
      ≡ views l.fn.led.items ++ set_led l.visible.schema.now (visible_rows (g.R.Readable.may l.visible.readable.now l.visible.schema.now) l.visible.tree.now) (take (l.depth + 1) l.path) (child_at l.depth l.path) (set_view l.set);
  fits : set_fits l.visible.schema.now (node_after None (take l.depth l.path)) (nodes_of (map node_view (drop l.node-index l.node-items))) ≡ true;
  visits : l.steps + sets_visits (views l.led.items) + inner_visits (nodes_of (map node_view (drop l.node-index l.node-items))) ≤ l.fn.steps + sets_visits (views l.fn.led.items) + inner_visits (set_view l.set);
}
