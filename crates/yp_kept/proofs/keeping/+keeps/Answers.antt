use Rattle.std.proofs.Common.{◌≡◌, ◌+◌, ◌∙◌, sym, ap, take, drop, get_or, true, None, option_copied, rules, arith, List}
use Rattle.std.specs.Prelude.{slice_get}
use Rattle.yp_base.specs.declared.path.Seg.{Seg}
use Rattle.yp_base.specs.Results.{same_answer}
use Rattle.yp_schema.specs.Datastore.{goes_down}
use Rattle.yp_schema.specs.SchemaLaws.{node_after}
use Rattle.yp_filter.specs.Fits.{set_fits}
use Rattle.yp_filter.specs.View.{node_view, set_view}
use Rattle.yp_filter.specs.ViewLaws.{node_within}
use Rattle.yp_nacm.specs.Decision.{visible_rows}
use Rattle.yp_kept.proofs.Ways.{down_take, path_take, next_within}
use Rattle.yp_kept.proofs.Leading.{fits_within, leads_none, leads_inner, held_size, led_size}
use Rattle.yp_kept.proofs.keeping.+keeps.Goals as goal

pub keeps-all_hold-requires-clause-way : goal.keeps-all_hold-requires-clause-way
keeps-all_hold-requires-clause-way g t c =
    ap (goes_down c.args.visible.now.schema.now None) (c.split_at.ensures.front ∙ ap (take c.args.depth) c.items.ensures)
    ∙ down_take c.args.visible.now.schema.now None c.args.path.now c.args.depth c.requires.way

pub keeps-keeps_here-requires : goal.keeps-keeps_here-requires
keeps-keeps_here-requires g t c =
    next_within c.args.visible.now.schema.now None c.args.path.now c.args.depth c.in-Some.segment.now c.requires.way
    (ap (λ (rest : List Seg). slice_get rest 0) (sym (c.split_at.ensures.back ∙ ap (drop c.args.depth) c.items.ensures)) ∙ sym c.first.ensures.value ∙ ap option_copied c.in-Some.is)

pub node_leads-enters-requires-clause-path : goal.node_leads-enters-requires-clause-path
node_leads-enters-requires-clause-path g t c = path_take c.args.visible.now.schema.now c.args.path.now c.args.depth c.requires.depth c.requires.way

pub node_leads-returns-then-not-branch-clause-leads : goal.node_leads-returns-then-not-branch-clause-leads
node_leads-returns-then-not-branch-clause-leads g t c =
    let nodes = c.args.visible.now.schema.now in
    let seg = c.index-items-depth.result in
    leads_none nodes (visible_rows (g.R.Readable.may c.args.visible.now.readable.now nodes) c.args.visible.now.tree.now) (node_view c.args.node.now) c.args.path.now c.args.depth c.in-Within.node seg (set_view c.in-Within.set) c.in_ok-enters-in-Within.field-0
    (ap node_view c.in-Within.is ∙ node_within c.in-Within.node c.in-Within.set) c.requires.depth (c.index-items-depth.is ∙ ap (λ path. get_or path c.args.depth seg) c.items.ensures) c.in_ok-enters-in-Within.ensures.enters c.if-not-branch.true

pub node_leads-returns-else-not-branch-clause-leads : goal.node_leads-returns-else-not-branch-clause-leads
node_leads-returns-else-not-branch-clause-leads g t c =
    let nodes = c.args.visible.now.schema.now in
    let seg = c.index-items-depth.result in
    same_answer c.keeps.result _ _
    (leads_inner nodes (visible_rows (g.R.Readable.may c.args.visible.now.readable.now nodes) c.args.visible.now.tree.now) (node_view c.args.node.now) c.args.path.now c.args.depth c.in-Within.node seg (set_view c.in-Within.set) c.in_ok-enters-in-Within.field-0
    (ap node_view c.in-Within.is ∙ node_within c.in-Within.node c.in-Within.set) c.requires.depth (c.index-items-depth.is ∙ ap (λ path. get_or path c.args.depth seg) c.items.ensures)
    (ap (λ (s : Seg). s.node) c.index-items-depth.is ∙ c.if-items-depth.false) c.in_ok-enters-in-Within.ensures.enters c.if-not-branch.false)
    c.keeps.ensures.keeps

pub node_leads-keeps-requires : goal.node_leads-keeps-requires
node_leads-keeps-requires g t c κs within =
    let seg = c.index-items-depth.result in
    let fits : set_fits c.args.visible.now.schema.now (node_after None (take (c.args.depth + 1) c.args.path.now)) (set_view c.in-Within.set) ≡ true =
    fits_within c.args.visible.now.schema.now (node_view c.args.node.now) c.args.path.now c.args.depth c.in-Within.node seg (set_view c.in-Within.set)
    (ap node_view c.in-Within.is ∙ node_within c.in-Within.node c.in-Within.set) c.requires.depth (c.index-items-depth.is ∙ ap (λ path. get_or path c.args.depth seg) c.items.ensures) (ap (λ (s : Seg). s.node) c.index-items-depth.is ∙ c.if-items-depth.false) c.requires.fits in
    (omega (arith, c.decreases, c.requires.depth), (search rules, (search rules, (c.requires.way, (omega (arith, c.requires.depth), fits)))))

pub keeps-returns-then-not-branch-clause-visits : goal.keeps-returns-then-not-branch-clause-visits
keeps-returns-then-not-branch-clause-visits g t c = held_size c.all_hold.new.steps c.args.steps.now c.args.set.now c.items-2.result.now c.items-2.ensures c.in_ok-all_hold.ensures.visits

pub keeps-returns-then-keeps_here-clause-visits : goal.keeps-returns-then-keeps_here-clause-visits
keeps-returns-then-keeps_here-clause-visits g t c = held_size c.all_hold.new.steps c.args.steps.now c.args.set.now c.items-2.result.now c.items-2.ensures c.in_ok-all_hold.ensures.visits

pub keeps-returns-in-None-clause-visits : goal.keeps-returns-in-None-clause-visits
keeps-returns-in-None-clause-visits g t c = held_size c.all_hold.new.steps c.args.steps.now c.args.set.now c.items-2.result.now c.items-2.ensures c.in_ok-all_hold.ensures.visits

pub keeps-returns-else-keeps_here-clause-visits : goal.keeps-returns-else-keeps_here-clause-visits
keeps-returns-else-keeps_here-clause-visits g t c =
    led_size c.set_leads.result c.set_leads.new.steps c.all_hold.new.steps c.args.steps.now c.args.set.now c.items-2.result.now c.items-2.ensures c.in_ok-all_hold.ensures.visits c.set_leads.ensures.visits
