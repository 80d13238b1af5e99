use Rattle.std.proofs.Common.{◌≡◌, ◌+◌, ◌≤◌, ◌++◌, take, drop, None}
use Rattle.yp_schema.specs.SchemaLaws.{node_after}
use Rattle.yp_nacm.specs.Decision.{visible_rows}
use Rattle.yp_kept.specs.Standing.{views, sets_led, child_at, SetsFit, sets_visits}
use Rattle.yp_kept.proofs.standing.sets_led.Given as goal

-- the sets so far and those that the sets that are left lead to are all; these fit, and take the visits that are left
abbrev pub invariant-loop-set : goal.invariant-loop-set
invariant-loop-set g l = record {
  led : views l.led.items ++ sets_led l.visible.schema.now (visible_rows (g.R.Readable.may l.visible.readable.now l.visible.schema.now) l.visible.tree.now) (take (l.depth + 1) l.path) (child_at l.depth l.path) (views (drop l.set-index l.sets))
      ≡ sets_led l.visible.schema.now (visible_rows (g.R.Readable.may l.visible.readable.now l.visible.schema.now) l.visible.tree.now) (take (l.depth + 1) l.path) (child_at l.depth l.path) (views l.sets);
  fits : SetsFit l.visible.schema.now (node_after None (take l.depth l.path)) (views (drop l.set-index l.sets));
  visits : l.steps + sets_visits (views l.led.items) + sets_visits (views (drop l.set-index l.sets)) ≤ l.fn.steps + sets_visits (views l.sets);
}
