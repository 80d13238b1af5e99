use Rattle.std.proofs.Common.{◌∙◌}
use Rattle.yp_slot.specs.ResultLaws.{when_ok}
use Rattle.yp_crews.proofs.crew.Crew.follow.Goals as goal

pub returns : goal.returns
returns c =
    when_ok c.serve_entry.result c.serve_entry.ensures.served (λ served start receivers mine entries run is.
    let on = served start receivers mine entries run is.served in
    record { run = on.run; only = on.only; is = record { served = on.served; each = c.serve_entry.ensures.numbers ∙ is.each } })
