use Rattle.std.proofs.Common.{◌≡◌, ◌<◌, ◌+◌, ◌∙◌, List, length, map, sym, ap, subst}
use Rattle.std.specs.Prelude.{All}
use Rattle.yp_base.specs.declared.path.Seg.{Seg}
use Rattle.yp_filter.specs.View.{set_view}
use Rattle.yp_nacm.specs.Decision.{visible_rows}
use Rattle.yp_kept.specs.Standing.{standing_view, stand_to, way_keeps}
use Rattle.yp_kept.proofs.Ways.{way_all}
use Rattle.yp_kept.proofs.OnWay.{stand_long, kept_on_way}
use Rattle.yp_kept.proofs.standing.Way.keeps.Goals as goal

pub is_kept-requires-clause-way : goal.is_kept-requires-clause-way
is_kept-requires-clause-way g c =
    let nodes = c.args.visible.now.schema.now in
    subst (λ (path : List Seg). All (λ seg. seg.node < length nodes) path) (sym c.items-3.ensures) (way_all nodes c.args.path.now c.requires.down)

pub is_kept-requires-clause-length : goal.is_kept-requires-clause-length
is_kept-requires-clause-length g c =
    let nodes = c.args.visible.now.schema.now in
    let rows = visible_rows (g.R.Readable.may c.args.visible.now.readable.now nodes) c.args.visible.now.tree.now in
    ap (λ standings. length standings) c.as_slice.ensures.value ∙ stand_long nodes rows (set_view c.args.set.now) c.args.path.now c.stand_to.new.standings.items c.in_ok-stand_to.ensures.stand
    ∙ ap (λ (path : List Seg). length path + 1) (sym c.items-3.ensures)

pub returns-clause-keeps : goal.returns-clause-keeps
returns-clause-keeps g c =
    let nodes = c.args.visible.now.schema.now in
    let rows = visible_rows (g.R.Readable.may c.args.visible.now.readable.now nodes) c.args.visible.now.tree.now in
    let set = set_view c.args.set.now in
    let all : map standing_view c.as_slice.result.now ≡ stand_to nodes rows set c.args.path.now = ap (map standing_view) c.as_slice.ensures.value ∙ c.in_ok-stand_to.ensures.stand in
    c.is_kept.ensures ∙ (λ i. way_keeps nodes (all i) (c.items-3.ensures i)) ∙ kept_on_way nodes rows set c.args.path.now
