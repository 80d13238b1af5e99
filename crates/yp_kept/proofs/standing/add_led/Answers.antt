use Rattle.std.proofs.Common.{◌≡◌, ◌+◌, ◌∷◌, ◌++◌, [], ◌∙◌, sym, ap, take, map, None, option_copied, option_to_list, append-nil}
use Rattle.yp_schema.specs.SchemaLaws.{node_after}
use Rattle.yp_filter.specs.View.{set_view}
use Rattle.yp_nacm.specs.Decision.{visible_rows}
use Rattle.yp_kept.specs.Standing.{views, child_at}
use Rattle.yp_kept.proofs.Led.{views_append, led_more, visits_more, fits_more}
use Rattle.yp_kept.proofs.standing.add_led.Goals.{in-Some+in_ok-push, in_default}
use Rattle.yp_kept.proofs.standing.add_led.Goals as goal

pub loop-node-preserved : goal.loop-node-preserved
loop-node-preserved g c =
    let nodes = c.args.visible.now.schema.now in
    let rows = visible_rows (g.R.Readable.may c.args.visible.now.readable.now nodes) c.args.visible.now.tree.now in
    let items = c.items-node-items.result.now in
    let k = c.loop-node.node-index in
    let item = c.node-item.result in
    let one = map set_view (option_to_list (option_copied c.in_ok-inner.field-0)) in
    let grown : views c.match-branch-2.led.items ≡ views c.loop-node.led.items ++ one = elim c.match-branch-2.branch [
      | in-Some+in_ok-push w ↦
          ap (λ led. views led.items) w.led-is ∙ ap views w.in_ok-push.ensures.items ∙ views_append c.loop-node.led.items (w.in-Some.inner ∷ [])
          ∙ ap (λ found. views c.loop-node.led.items ++ map set_view (option_to_list (option_copied found))) (sym w.in-Some.is)
      | in_default w ↦
          ap (λ led. views led.items) w.led-is ∙ sym (append-nil (views c.loop-node.led.items))
          ∙ ap (λ found. views c.loop-node.led.items ++ map set_view (option_to_list (option_copied found))) (sym w.in_default.is)
    ] in
    record {
      led = led_more nodes rows (take (c.args.depth + 1) c.args.path.now) (child_at c.args.depth c.args.path.now) items k item (views c.loop-node.led.items) (views c.match-branch-2.led.items) one _ c.loop-node-test.true c.node-item.is grown c.in_ok-inner.ensures.led c.loop-node.invariant.led;
      fits = fits_more nodes (node_after None (take c.args.depth c.args.path.now)) items k item c.loop-node-test.true c.node-item.is c.loop-node.invariant.fits;
      visits = visits_more items k item (views c.loop-node.led.items) (views c.match-branch-2.led.items) one c.node_led.new.steps c.loop-node.steps _ c.loop-node-test.true c.node-item.is grown c.in_ok-inner.ensures.visits c.loop-node.invariant.visits;
    }
