use Rattle.std.proofs.Common.{◌&&◌, ◌∙◌, sym, ap, Some, option_copied}
use Rattle.std.specs.Prelude.{option_map}
use Rattle.yp_base.specs.declared.path.Seg.{Seg}
use Rattle.yp_schema.specs.Datastore.{is_leaf_kind}
use Rattle.yp_filter.specs.Filters.{compares}
use Rattle.yp_filter.specs.View.{filter_view}
use Rattle.yp_select.specs.Places.{is_compared}
use Rattle.yp_touch.proofs.Lasts.{last_some, last_within}
use Rattle.yp_touch.proofs.looking.is_compared.Goals as goal

pub kind-requires : goal.kind-requires
kind-requires c =
    last_within c.args.schema.now c.args.path.now (Some c.in-Some.segment.now.node) c.requires
    (last_some c.args.path.now c.items.result.now (option_copied c.last.result) (Some c.in-Some.segment.now.node) c.items.ensures c.last.ensures.value (ap (λ o. option_map (λ (seg : Seg). seg.node) (option_copied o)) c.in-Some.is))

pub returns-then-is_leaf : goal.returns-then-is_leaf
returns-then-is_leaf c =
    let n = c.in-Some.segment.now.node in
    let asked = filter_view c.args.filter.now in
    c.compares.ensures
    ∙ ap (λ b. b && compares n asked) (sym (ap is_leaf_kind (sym c.kind.ensures) ∙ sym c.is_leaf.ensures ∙ c.if-is_leaf.true))
    ∙ ap (is_compared c.args.schema.now asked) (last_some c.args.path.now c.items.result.now (option_copied c.last.result) (Some n) c.items.ensures c.last.ensures.value (ap (λ o. option_map (λ (seg : Seg). seg.node) (option_copied o)) c.in-Some.is))

pub returns-else-is_leaf : goal.returns-else-is_leaf
returns-else-is_leaf c =
    let n = c.in-Some.segment.now.node in
    let asked = filter_view c.args.filter.now in
    c.if-is_leaf.false
    ∙ ap (λ b. b && compares n asked) (sym (ap is_leaf_kind (sym c.kind.ensures) ∙ sym c.is_leaf.ensures ∙ c.if-is_leaf.false))
    ∙ ap (is_compared c.args.schema.now asked) (last_some c.args.path.now c.items.result.now (option_copied c.last.result) (Some n) c.items.ensures c.last.ensures.value (ap (λ o. option_map (λ (seg : Seg). seg.node) (option_copied o)) c.in-Some.is))
