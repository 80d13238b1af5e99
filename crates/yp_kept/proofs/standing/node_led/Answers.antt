use Rattle.std.proofs.Common.{◌≡◌, ◌+◌, ◌∙◌, sym, ap, take, get_or, None, arith}
use Rattle.std.specs.Prelude.{nat_eq}
use Rattle.yp_base.specs.declared.path.Seg.{Seg}
use Rattle.yp_schema.specs.Datastore.{goes_down}
use Rattle.yp_schema.specs.SchemaLaws.{node_after}
use Rattle.yp_filter.specs.Fits.{set_fits}
use Rattle.yp_filter.specs.View.{node_view, set_view}
use Rattle.yp_filter.specs.ViewLaws.{node_within}
use Rattle.yp_nacm.specs.Decision.{visible_rows}
use Rattle.yp_kept.specs.Matches.{all_hold}
use Rattle.yp_kept.specs.Standing.{child_at}
use Rattle.yp_kept.proofs.Ways.{down_take, path_take}
use Rattle.yp_kept.proofs.Leading.{fits_within, self_same}
use Rattle.yp_kept.proofs.Led.{child_is, set_items, entered_visits, led_one}
use Rattle.yp_kept.proofs.standing.node_led.Goals as goal

pub enters-requires-clause-path : goal.enters-requires-clause-path
enters-requires-clause-path g c = path_take c.args.visible.now.schema.now c.args.path.now c.args.depth c.requires.depth c.requires.way

pub all_hold-requires-clause-way : goal.all_hold-requires-clause-way
all_hold-requires-clause-way g c =
    ap (goes_down c.args.visible.now.schema.now None) (c.split_at.ensures.front ∙ ap (take (c.args.depth + 1)) c.items-in-Within.ensures)
    ∙ down_take c.args.visible.now.schema.now None c.args.path.now (c.args.depth + 1) c.requires.way

pub all_hold-requires-clause-fits : goal.all_hold-requires-clause-fits
all_hold-requires-clause-fits g c =
    let nodes = c.args.visible.now.schema.now in
    let set = c.in-Within.set in
    let front : c.split_at.result.0.now ≡ take (c.args.depth + 1) c.args.path.now = c.split_at.ensures.front ∙ ap (take (c.args.depth + 1)) c.items-in-Within.ensures in
    (λ i. set_fits nodes (node_after None (front i)) (set_items set c.items-in-Within-2.result.now c.items-in-Within-2.ensures i))
    ∙ fits_within nodes (node_view c.args.node.now) c.args.path.now c.args.depth c.in-Within.node c.index-items-depth.result (set_view set)
    (ap node_view c.in-Within.is ∙ node_within c.in-Within.node set) c.requires.depth (c.index-items-depth.is ∙ ap (λ path. get_or path c.args.depth c.index-items-depth.result) c.items.ensures) (ap (λ (s : Seg). s.node) c.index-items-depth.is ∙ c.if-items-depth.false) c.requires.fits

pub returns-then-not-branch-2-clause-visits : goal.returns-then-not-branch-2-clause-visits
returns-then-not-branch-2-clause-visits g c =
    let visits = entered_visits c.all_hold.new.steps c.enters.new.steps c.args.steps.now c.in-Within.node (node_view c.args.node.now) c.in-Within.set c.items-in-Within-2.result.now
    (ap node_view c.in-Within.is ∙ node_within c.in-Within.node c.in-Within.set) c.items-in-Within-2.ensures c.in_ok-enters-in-Within.ensures.visits c.in_ok-all_hold-in-Within.ensures.visits in
    omega (arith, visits)

pub returns-else-not-branch-2-clause-visits : goal.returns-else-not-branch-2-clause-visits
returns-else-not-branch-2-clause-visits g c =
    let visits = entered_visits c.all_hold.new.steps c.enters.new.steps c.args.steps.now c.in-Within.node (node_view c.args.node.now) c.in-Within.set c.items-in-Within-2.result.now
    (ap node_view c.in-Within.is ∙ node_within c.in-Within.node c.in-Within.set) c.items-in-Within-2.ensures c.in_ok-enters-in-Within.ensures.visits c.in_ok-all_hold-in-Within.ensures.visits in
    omega (arith, visits)

pub returns-else-not-branch-2-clause-led : goal.returns-else-not-branch-2-clause-led
returns-else-not-branch-2-clause-led g c =
    let nodes = c.args.visible.now.schema.now in
    let rows = visible_rows (g.R.Readable.may c.args.visible.now.readable.now nodes) c.args.visible.now.tree.now in
    let set = c.in-Within.set in
    let depth = c.args.depth in
    let seg = c.index-items-depth.result in
    let front : c.split_at.result.0.now ≡ take (depth + 1) c.args.path.now = c.split_at.ensures.front ∙ ap (take (depth + 1)) c.items-in-Within.ensures in
    let same : seg.node ≡ c.in-Within.node = ap (λ (s : Seg). s.node) c.index-items-depth.is ∙ c.if-items-depth.false in
    led_one nodes rows (take (depth + 1) c.args.path.now) (child_at depth c.args.path.now) c.in-Within.node (node_view c.args.node.now) (set_view set)
    (ap node_view c.in-Within.is ∙ node_within c.in-Within.node set)
    (ap (λ k. nat_eq k c.in-Within.node) (child_is c.args.path.now depth seg c.requires.depth (c.index-items-depth.is ∙ ap (λ path. get_or path depth seg) c.items.ensures)) ∙ self_same seg.node c.in-Within.node same)
    (sym c.in_ok-enters-in-Within.ensures.enters ∙ c.if-not-branch.false)
    (sym (λ i. all_hold nodes rows (front i) (set_items set c.items-in-Within-2.result.now c.items-in-Within-2.ensures i)) ∙ sym c.in_ok-all_hold-in-Within.ensures.holds ∙ c.if-not-branch-2.false)
