-- What a clock in UTC shows is told by the nanoseconds.
use Rattle.std.proofs.Common.{◌≡◌, ◌*◌, arith, pos}
use Rattle.jiff.specs.Words.{civil_nanos}
use Rattle.jiff_core.proofs.SignedLemmas.{signed_casts}
use Rattle.yp_time.proofs.Clocks.{utc_date, utc_time}
use Rattle.yp_time.proofs.clock.clock_at.Goals as goal

pub returns-clause-year : goal.returns-clause-year
returns-clause-year c =
    let same : civil_nanos c.to_datetime.result ≡ pos (c.args.hundredths * 10_000_000) = omega (arith, signed_casts) in
    (utc_date c.to_datetime.result c.args.hundredths c.requires same).0

pub returns-clause-month : goal.returns-clause-month
returns-clause-month c =
    let same : civil_nanos c.to_datetime.result ≡ pos (c.args.hundredths * 10_000_000) = omega (arith, signed_casts) in
    (utc_date c.to_datetime.result c.args.hundredths c.requires same).1

pub returns-clause-day : goal.returns-clause-day
returns-clause-day c =
    let same : civil_nanos c.to_datetime.result ≡ pos (c.args.hundredths * 10_000_000) = omega (arith, signed_casts) in
    (utc_date c.to_datetime.result c.args.hundredths c.requires same).2

pub returns-clause-time : goal.returns-clause-time
returns-clause-time c =
    utc_time c.to_datetime.result c.args.hundredths (omega (arith, signed_casts))
