use Rattle.std.proofs.Common.{arith}
use Rattle.jiff_core.proofs.SignedLemmas.{signed_arith, signed_casts, one_part}
use Rattle.jiff.specs.Words.{civil_nanos}
use Rattle.yp_time.proofs.Clocks.{in_years_is}
use Rattle.yp_time.proofs.DayNumbers.{end_of_anchors}
use Rattle.yp_time.proofs.start.second_at.Goals as goal

pub unreachable-requires : goal.unreachable-requires
unreachable-requires c =
    let within = in_years_is 2199 (civil_nanos c.args.clock) c.requires in
    let told = c.in-Err.ensures.succeeds.1 (omega (arith, signed_arith), omega (arith, signed_arith, end_of_anchors)) in
    cc

pub returns-clause-within : goal.returns-clause-within
returns-clause-within c =
    let within = in_years_is 2199 (civil_nanos c.args.clock) c.requires in
    omega (arith, signed_casts, end_of_anchors, c.in-Ok.ensures.value, one_part c.in-Ok.instant.nanosecond)
