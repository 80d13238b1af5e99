use Rattle.std.proofs.Common.{sym, ◌∙◌}
use Rattle.std.proofs.lemmas.List.{take_at}
use Rattle.yp_takers.specs.Takers.{HasTakenOn}
use Rattle.yp_handover.specs.ListLaws.{pairs_same}
use Rattle.yp_threads.proofs.Lists.{by_places}
use Rattle.yp_threads.proofs.running.take_for.Goals as goal

pub returns : goal.returns
returns g c =
    let slice = c.as_mut_slice.result.now in
    let new = c.run_takers.new.jobs in
    let Take = HasTakenOn c.args.schema.now in
    pairs_same Take slice _ new _ (sym c.as_mut_slice.ensures.value) (take_at new _ _ (c.run_takers.auto.jobs ∙ c.as_mut_slice.ensures.len)) (by_places Take slice new c.run_takers.auto.jobs c.run_takers.ensures)
