-- Each part that is read is the definition's.
use Rattle.std.proofs.Common.{sym, ◌∙◌}
use Rattle.yp_time.proofs.Clocks.{instant_told, no_zone}
use Rattle.yp_time.proofs.instant.read_instant.Goals as goal

pub returns-in_err-offset-clause-value : goal.returns-in_err-offset-clause-value
returns-in_err-offset-clause-value c =
    rw c.from_residual-in_err-offset.ensures
    (sym (no_zone c.args.last c.args.text.now c.in_ok-rest.rest.now (sym c.in_ok-rest.ensures.value) (sym (rw c.zone_of.ensures at c.in_err-offset.ensures))))

pub returns-clause-value : goal.returns-clause-value
returns-clause-value c =
    c.instant_within.ensures.value
    ∙ sym (instant_told c.args.last c.args.text.now c.in_ok-rest.rest.now c.in_ok-fraction.field-0 c.in_ok-offset.field-0.seconds _
    (sym c.in_ok-rest.ensures.value) (sym c.in_ok-fraction.ensures.value) (sym (rw c.zone_of.ensures at c.in_ok-offset.ensures)) c.in_ok-clock.ensures.value)
