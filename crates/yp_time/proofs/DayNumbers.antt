-- Day numbers from 1970 on.
use Rattle.std.proofs.Common.{◌≡◌, ℕ, ◌+◌, ◌<◌, ◌≤◌, refl, arith, ℤ, pos, ◌≤ℤ◌}
use Rattle.std.proofs.lemmas.Int.{by_lt_z}
use Rattle.jiff_core.specs.Calendar.{IsCivilDate, day_count, days_from_civil}
use Rattle.jiff_core.proofs.SignedLemmas.{signed_arith, unsigned_abs-parts, one_part}
use Rattle.jiff_core.proofs.CalendarLemmas.{days_from_civil-day_count, day_count-epoch, day_count-later_year, day_count-day_of_year, day_count-lt_year}
use Rattle.jiff_core.proofs.MarchLemmas.{day_count-early}
use Rattle.yp_time.specs.Days.{day_number, year_start}

-- no year from 1970 on begins before 1970-01-01
first_of_year : (y : ℤ) → pos 1970 ≤ℤ y → day_count (pos 1970) 1 1 ≤ day_count y 1 1
first_of_year y from =
    by_lt_z (pos 1970) y
    (λ later. omega (arith, day_count-later_year (pos 1970) y (omega (arith, signed_arith)) later))
    (λ le. let same : y ≡ pos 1970 = omega (arith, signed_arith) in rw same (omega arith))

-- no day of these years has a negative number
pub not_negative : (y : ℤ) (m d : ℕ) → 1 ≤ d → pos 1970 ≤ℤ y → pos 0 ≤ℤ days_from_civil y m d
not_negative y m d first from =
    omega (arith, signed_arith, days_from_civil-day_count, day_count-epoch, first_of_year y from, day_count-day_of_year y m d first)

-- a day number is the calendar's count of days less that of 1970-01-01
pub day_number-day_count : (year month day : ℕ) → 1970 ≤ year → 1 ≤ day → day_number year month day + 4_371_953 ≡ day_count (pos year) month day
day_number-day_count year month day from first =
    omega (
      arith,
      signed_arith,
      days_from_civil-day_count,
      unsigned_abs-parts (days_from_civil (pos year) month day),
      one_part (days_from_civil (pos year) month day),
      not_negative (pos year) month day first (omega (arith, signed_arith)),
    )

-- each day of a year comes before the first of a later year
pub before_later_year : (year month day last : ℕ) → 1970 ≤ year → IsCivilDate (pos year) month day → year ≤ last → day_number year month day < day_number (last + 1) 1 1
before_later_year year month day last from there within =
    omega (
      arith,
      day_number-day_count year month day from there.2.0,
      day_number-day_count (last + 1) 1 1 (omega arith) (omega arith),
      day_count-lt_year (pos year) month day (pos (last + 1)) 1 1 there (omega arith) (omega (arith, signed_arith)),
    )

year_2200 : day_count (pos 2200) 1 1 ≡ 4_455_959
year_2200 = day_count-early (pos 2200) 12199 1 1 refl (omega arith) (omega arith) (omega arith)

year_3000 : day_count (pos 3000) 1 1 ≡ 4_748_153
year_3000 = day_count-early (pos 3000) 12999 1 1 refl (omega arith) (omega arith) (omega arith)

pub end_of_anchors : year_start 2200 ≡ 7_258_118_400
end_of_anchors = omega (arith, day_number-day_count 2200 1 1 (omega arith) (omega arith), year_2200)

pub end_of_events : year_start 3000 ≡ 32_503_680_000
end_of_events = omega (arith, day_number-day_count 3000 1 1 (omega arith) (omega arith), year_3000)
