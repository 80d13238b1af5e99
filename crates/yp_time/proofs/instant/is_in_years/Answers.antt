-- The year of a clock in UTC tells whether the instant lies in the years.
use Rattle.std.proofs.Common.{◌≡◌, arith, pos, to_z, of_z, w16}
use Rattle.jiff.specs.Words.{civil_nanos}
use Rattle.jiff_core.proofs.SignedLemmas.{signed_casts}
use Rattle.yp_time.proofs.Clocks.{year_tells, early_tells}
use Rattle.yp_time.proofs.instant.is_in_years.Goals as goal

pub returns-then-year-ge1970 : goal.returns-then-year-ge1970
returns-then-year-ge1970 c =
    let clock = c.to_datetime.result in
    let year : to_z w16 (of_z w16 c.year-year.result) ≡ clock.date.year = omega (arith, signed_casts) in
    let last : to_z w16 c.args.last ≡ pos c.args.last = omega (arith, signed_casts) in
    let same : civil_nanos clock ≡ c.args.instant.nanosecond = omega (arith, signed_casts) in
    rw (year, last) (year_tells clock c.args.last _ same c.requires.0 (omega (arith, signed_casts)))

pub returns-else-year-ge1970 : goal.returns-else-year-ge1970
returns-else-year-ge1970 c =
    let clock = c.to_datetime.result in
    let year : to_z w16 (of_z w16 c.year-year.result) ≡ clock.date.year = omega (arith, signed_casts) in
    let same : civil_nanos clock ≡ c.args.instant.nanosecond = omega (arith, signed_casts) in
    rw year (early_tells clock c.args.last _ same (rw year at c.if-year-ge1970.false))
