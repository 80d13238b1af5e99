use Rattle.std.proofs.Common.{rules, [], ◌∷◌, ◌++◌, sym, ap, ◌∙◌, append_assoc, arith, map, ◌-◌}
use Rattle.serde_json.specs.View.{members_view, view}
use Rattle.serde_json.proofs.Views.{Entry}
use Rattle.std.specs.Prelude.{Ok}
use Rattle.yp_filter.specs.Filters.{Node}
use Rattle.yp_filter.specs.declared.naming.Place.{Place}
use Rattle.yp_filter.specs.Reading.{set_in, member_in}
use Rattle.yp_filter.specs.View.{node_view}
use Rattle.yp_filter.proofs.Joining.{joined_more, too_deep, nests}
use Rattle.yp_filter.proofs.reading.+read.Goals as goal

pub read_set-loop-name-preserved : goal.read_set-loop-name-preserved
read_set-loop-name-preserved t c =
    let l = c.loop-name in
    let e : Entry = (c.in-Some.name.now, c.in-Some.json.now) in
    let done = l.invariant.0.0 in
    let before = map node_view l.nodes.items in
    let now = map node_view c.read_member.new.nodes.items in
    let nodes = c.args.schema.now in
    let rest = set_in nodes c.args.room c.args.place (members_view c.next.new.self) in
    let more = joined_more before now (member_in nodes c.args.room c.named_by-named.result (view c.in-Some.json.now)) rest c.in-Ok.ensures in
    ((done ++ e ∷ [], l.invariant.0.1 ∙ ap (λ es. done ++ es) c.in-Some.ensures.steps ∙ sym (append_assoc done (e ∷ []) c.next.new.self)), search (rules, more))

pub read_object-returns-then-room-eq0 : goal.read_object-returns-then-room-eq0
read_object-returns-then-room-eq0 t c =
    rw c.bare.ensures (too_deep c.args.named c.args.room c.args.members.now.entries c.is_empty.result _ c.is_empty.ensures c.if-is_empty.false (omega (arith, c.if-room-eq0.true)))

pub read_object-returns : goal.read_object-returns
read_object-returns t c =
    nests c.args.named c.args.room c.args.members.now.entries c.is_empty.result _ (map node_view c.in_ok-nodes.nodes.items) c.is_empty.ensures c.if-is_empty.false (omega (arith, c.if-room-eq0.false))
    (ap (λ (place : Place). set_in c.args.schema.now (c.args.room - 1) place (members_view c.args.members.now.entries)) (sym c.place_below.ensures) ∙ c.in_ok-nodes.ensures)
    ∙ ap (λ (node : Node). Ok node) (sym c.containment.ensures)
