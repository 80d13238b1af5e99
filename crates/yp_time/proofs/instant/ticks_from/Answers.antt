-- The bounds of the years are those of anchors.
use Rattle.std.proofs.Common.{arith}
use Rattle.jiff_core.proofs.SignedLemmas.{signed_arith}
use Rattle.yp_time.proofs.Clocks.{in_years_is}
use Rattle.yp_time.proofs.DayNumbers.{end_of_anchors}
use Rattle.yp_time.proofs.instant.ticks_from.Goals as goal

pub returns-clause-within : goal.returns-clause-within
returns-clause-within c =
    let within = in_years_is 2199 c.args.instant.nanosecond c.requires.instant_in in
    (omega (arith, signed_arith, end_of_anchors), omega (arith, signed_arith, end_of_anchors))
