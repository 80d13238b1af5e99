use Rattle.std.proofs.Common.{List, sym, ◌∙◌}
use Rattle.std.proofs.lemmas.List.{take_at}
use Rattle.yp_schema.specs.declared.schema.SchemaNode.{SchemaNode}
use Rattle.yp_takers.specs.Takers.{HasTakenOn}
use Rattle.yp_handover.specs.declared.group.Group.{Group}
use Rattle.yp_handover.specs.Handover.{Pairs}
use Rattle.yp_handover.specs.ListLaws.{pairs_same}
use Rattle.yp_threads.proofs.Lists.{by_places}
use Rattle.yp_threads.proofs.running.take_beside.Goals as goal

abbrev Take : List SchemaNode → Group → Group → Type 0
Take nodes before after = Pairs (HasTakenOn nodes) before.takers.items after.takers.items

pub returns : goal.returns
returns g c =
    let slice = c.as_mut_slice.result.now in
    let new = c.take_groups.new.groups in
    let nodes = c.args.schema.now in
    pairs_same (Take nodes) slice _ new _ (sym c.as_mut_slice.ensures.value) (take_at new _ _ (c.take_groups.auto.groups ∙ c.as_mut_slice.ensures.len)) (by_places (Take nodes) slice new c.take_groups.auto.groups c.take_groups.ensures)
