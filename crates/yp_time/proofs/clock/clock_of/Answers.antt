-- The parts at their places make the clock.
use Rattle.std.proofs.Common.{◌≡◌, arith, true, nat_le, pos}
use Rattle.std.proofs.lemmas.Bool.Decides.{nat_tests}
use Rattle.jiff_core.proofs.SignedLemmas.{signed_arith}
use Rattle.yp_time.specs.Days.{day_in, time_in}
use Rattle.yp_time.specs.Forms.{leading_year, pair_at}
use Rattle.yp_time.proofs.Clocks.{clock_told, years-within}
use Rattle.yp_time.proofs.clock.clock_of.Goals as goal

pub returns-clause-value : goal.returns-clause-value
returns-clause-value c =
    let text = c.args.text.now in
    let from : nat_le 1970 (leading_year text) ≡ true = grind (arith, nat_tests) in
    let to : nat_le (leading_year text) c.args.last ≡ true = grind (arith, nat_tests) in
    let date = rw (← c.from_parts.ensures.date, c.leading_year-year.ensures, c.pair_at.ensures.value, c.pair_at-2.ensures.value) at c.in_ok-date.ensures.value in
    let time = rw (← c.from_parts.ensures.time, c.pair_at-3.ensures.value, c.pair_at-4.ensures.value, c.pair_at-5.ensures.value) at c.in_ok-time.ensures in
    rw (from, to)
    (clock_told (day_in (leading_year text) (pair_at text 5) (pair_at text 8)) (time_in (pair_at text 11) (pair_at text 14) (pair_at text 17)) c.from_parts.result c.args.nanosecond date time)

pub returns-clause-within : goal.returns-clause-within
returns-clause-within c =
    let year : c.from_parts.result.date.year ≡ pos c.leading_year-year.result = rw c.from_parts.ensures.date c.in_ok-date.ensures.in_year in
    years-within c.from_parts.result c.args.last (omega (arith, signed_arith)) (omega (arith, signed_arith))
