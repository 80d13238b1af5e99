-- An instant that jiff doesn't have lies in no year that is read.
use Rattle.std.proofs.Common.{◌-ℤ◌, sym, ◌∙◌}
use Rattle.std.proofs.lemmas.Bool.{false≢true}
use Rattle.jiff.specs.Words.{civil_nanos, nanos_of_seconds}
use Rattle.yp_time.proofs.Clocks.{no_instant}
use Rattle.yp_time.proofs.instant.instant_within.Goals as goal

pub returns-in_err-instant-clause-value : goal.returns-in_err-instant-clause-value
returns-in_err-instant-clause-value c =
    rw c.from_residual.ensures
    (sym (no_instant c.args.last (civil_nanos c.args.clock -ℤ nanos_of_seconds c.args.offset.seconds) c.requires.0 c.requires.1
    (λ within. false≢true (c.in_err-instant.ensures.variant ∙ c.to_timestamp.ensures.succeeds.1 within))))
