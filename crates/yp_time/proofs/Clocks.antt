-- What clocks show in the years from 1970 on, by jiff's nanoseconds.
use Rattle.std.proofs.Common.{List, Option, Some, None, cond, option_map, option_and_then, ◌-ℤ◌, ◌≡◌, ℕ, ◌+◌, ◌*◌, ◌/◌, ◌%◌, ◌≤◌, Bool, true, false, refl, sym, ap, ◌∙◌, arith, ℤ, pos, ◌≤ℤ◌, ◌<ℤ◌, IsTrue}
use Rattle.std.specs.Prelude.{int_le}
use Rattle.std.proofs.lemmas.Int.{by_lt_z, ints}
use Rattle.jiff_core.specs.Calendar.{day_count}
use Rattle.jiff_core.specs.declared.civil.date.Date.{Date}
use Rattle.jiff_core.specs.declared.civil.datetime.DateTime.{DateTime}
use Rattle.jiff_core.specs.Date.{epoch_day}
use Rattle.jiff_core.specs.Time.{time_nanos}
use Rattle.jiff_core.specs.DateTime.{civil_nanos}
use Rattle.jiff_core.proofs.SignedLemmas.{signed_arith}
use Rattle.jiff_core.proofs.CalendarLemmas.{day_count-epoch, days_from_civil-day_count, day_count-later_year, day_count-day_of_year, day_count-lt_year}
use Rattle.jiff_core.proofs.DateLemmas.{civil}
use Rattle.jiff_core.proofs.DateTimeLemmas.{civil_nanos-parts, time_nanos_bound}
use Rattle.yp_time.specs.Days.{day_number, year_start, day_after_epoch}
use Rattle.jiff_core.specs.Timestamp.{IsTimestampNanos, nanos_of_seconds}
use Rattle.yp_time.specs.Forms.{after_form}
use Rattle.yp_time.specs.Instants.{clock_form, second_of, clock_in, fraction_in, offset_in, zone_of, instant_at, instant_in, within_years, is_in_years}
use Rattle.yp_time.proofs.DayNumbers.{day_number-day_count, end_of_events}
use Rattle.yp_time.proofs.DaysInOrder.{date_is}

-- a day of an earlier year comes before the first of a year
date_before : (d : Date) (year : ℕ) → 1970 ≤ year → d.year <ℤ pos year → epoch_day d <ℤ pos (day_number year 1 1)
date_before d year from earlier =
    omega (
      arith,
      signed_arith,
      days_from_civil-day_count,
      day_number-day_count year 1 1 from (omega arith),
      day_count-lt_year d.year d.month d.day (pos year) 1 1 (civil d) (omega arith) earlier,
    )

-- and a day of the year or a later one doesn't
count_from : (y : ℤ) (m d year : ℕ) → 1 ≤ d → pos year ≤ℤ y → day_count (pos year) 1 1 ≤ day_count y m d
count_from y m d year first late =
    by_lt_z (pos year) y
    (λ later. omega (arith, day_count-day_of_year y m d first, day_count-later_year (pos year) y (omega (arith, signed_arith)) later))
    (λ le. let same : y ≡ pos year = omega (arith, signed_arith) in
    rw same (omega (arith, day_count-day_of_year (pos year) m d first)))

date_from : (d : Date) (year : ℕ) → 1970 ≤ year → pos year ≤ℤ d.year → pos (day_number year 1 1) ≤ℤ epoch_day d
date_from d year from late =
    omega (
      arith,
      signed_arith,
      days_from_civil-day_count,
      day_number-day_count year 1 1 from (omega arith),
      count_from d.year d.month d.day year d.day_in.0 late,
    )

-- an instant lies in the years exactly if the year that a clock in UTC shows does
abbrev pub IsInYears : ℕ → ℤ → Type 0
IsInYears last n = (pos 0 ≤ℤ n) × (n <ℤ pos (year_start (last + 1) * 1_000_000_000))

pub in_years_is : (last : ℕ) (n : ℤ) → IsTrue (is_in_years last n) → IsInYears last n
in_years_is last n h = (grind (arith, ints), grind (arith, ints))

pub in_years_told : (last : ℕ) (n : ℤ) → IsInYears last n → is_in_years last n ≡ true
in_years_told last n h = grind (arith, ints)

too_early : (last : ℕ) (n : ℤ) → n <ℤ pos 0 → is_in_years last n ≡ false
too_early last n h = grind (arith, ints)

too_late : (last : ℕ) (n : ℤ) → pos (year_start (last + 1) * 1_000_000_000) ≤ℤ n → is_in_years last n ≡ false
too_late last n h = grind (arith, ints)

start_of_1970 : day_number 1970 1 1 ≡ 0
start_of_1970 = omega (arith, day_number-day_count 1970 1 1 (omega arith) (omega arith), day_count-epoch)

pub years-within : (clock : DateTime) (last : ℕ) → pos 1970 ≤ℤ clock.date.year → clock.date.year ≤ℤ pos last → is_in_years last (civil_nanos clock) ≡ true
years-within clock last from to =
    in_years_told last (civil_nanos clock) (
      omega (arith, signed_arith, civil_nanos-parts clock, start_of_1970, date_from clock.date 1970 (omega arith) from),
      omega (arith, signed_arith, civil_nanos-parts clock, time_nanos_bound clock.time, date_before clock.date (last + 1) (omega (arith, signed_arith)) (omega (arith, signed_arith))),
    )

pub years-early : (clock : DateTime) (last : ℕ) → clock.date.year <ℤ pos 1970 → is_in_years last (civil_nanos clock) ≡ false
years-early clock last early =
    too_early last (civil_nanos clock)
    (omega (arith, signed_arith, civil_nanos-parts clock, time_nanos_bound clock.time, start_of_1970, date_before clock.date 1970 (omega arith) early))

pub years-late : (clock : DateTime) (last : ℕ) → 1970 ≤ last + 1 → pos last <ℤ clock.date.year → is_in_years last (civil_nanos clock) ≡ false
years-late clock last from late =
    too_late last (civil_nanos clock)
    (omega (arith, signed_arith, civil_nanos-parts clock, date_from clock.date (last + 1) from (omega (arith, signed_arith))))

-- so the test of that year is the test of the instant
pub year_tells : (clock : DateTime) (last : ℕ) (n : ℤ) → civil_nanos clock ≡ n → 1970 ≤ last → pos 1970 ≤ℤ clock.date.year → int_le clock.date.year (pos last) ≡ is_in_years last n
year_tells clock last n same some from =
    by_lt_z (pos last) clock.date.year
    (λ late. let test : int_le clock.date.year (pos last) ≡ false = grind (arith, ints) in
    test ∙ sym (years-late clock last (omega arith) late) ∙ ap (is_in_years last) same)
    (λ to. let test : int_le clock.date.year (pos last) ≡ true = grind (arith, ints) in
    test ∙ sym (years-within clock last from to) ∙ ap (is_in_years last) same)

pub early_tells : (clock : DateTime) (last : ℕ) (n : ℤ) → civil_nanos clock ≡ n → int_le (pos 1970) clock.date.year ≡ false → int_le (pos 1970) clock.date.year ≡ is_in_years last n
early_tells clock last n same test =
    test ∙ sym (years-early clock last (grind (arith, ints))) ∙ ap (is_in_years last) same

-- each instant of these years is one of jiff's
pub year_start_within : (last : ℕ) → 1970 ≤ last → last ≤ 2999 → year_start (last + 1) ≤ 32_503_680_000
year_start_within last some few =
    omega (
      arith,
      end_of_events,
      day_number-day_count (last + 1) 1 1 (omega arith) (omega arith),
      day_number-day_count 3000 1 1 (omega arith) (omega arith),
      count_from (pos 3000) 1 1 (last + 1) (omega arith) (omega (arith, signed_arith)),
    )

-- the date and the time of day that a clock in UTC shows
abbrev pub ShowsDay : Date → ℕ → Type 0
ShowsDay d n = (d.year ≡ pos (day_after_epoch n).year) × (d.month ≡ (day_after_epoch n).month) × (d.day ≡ (day_after_epoch n).day)

pub utc_date : (clock : DateTime) (h : ℕ) → h ≤ 2_000_000_000_000 → civil_nanos clock ≡ pos (h * 10_000_000) → ShowsDay clock.date (h / 8_640_000)
utc_date clock h few same =
    date_is clock.date (h / 8_640_000) (omega arith)
    (omega (arith, signed_arith, civil_nanos-parts clock, time_nanos_bound clock.time))

pub utc_time : (clock : DateTime) (h : ℕ) → civil_nanos clock ≡ pos (h * 10_000_000) → time_nanos clock.time ≡ h % 8_640_000 * 10_000_000
utc_time clock h same = omega (arith, signed_arith, civil_nanos-parts clock, time_nanos_bound clock.time)

-- the nanoseconds of a clock are those of its day and its time of day
pub clock_told : (day time : Option ℕ) (clock : DateTime) (fraction : ℕ) → Some (epoch_day clock.date) ≡ option_map (λ n. pos n) day → Some (time_nanos clock.time) ≡ option_map (λ s. s * 1_000_000_000 + fraction) time → Some (civil_nanos clock) ≡ option_map (λ s. pos (s * 1_000_000_000 + fraction)) (second_of day time)
clock_told None time clock fraction date shown = cc
clock_told (Some day) None clock fraction date shown = cc
clock_told (Some day) (Some second) clock fraction date shown =
    let one : epoch_day clock.date ≡ pos day = cc in
    let two : time_nanos clock.time ≡ second * 1_000_000_000 + fraction = cc in
    ap Some (omega (arith, signed_arith, civil_nanos-parts clock))

-- a text whose parts are read has the instant that they make
pub instant_told : (last : ℕ) (text rest : List ℕ) (fraction : ℕ) (offset nanos : ℤ) → after_form clock_form text ≡ Some rest → fraction_in rest ≡ Some fraction → offset_in (zone_of rest) ≡ Some offset → Some nanos ≡ option_map (λ s. pos (s * 1_000_000_000 + fraction)) (clock_in last text) → instant_in last text ≡ within_years last (nanos -ℤ nanos_of_seconds offset)
instant_told last text rest fraction offset nanos form part zone shown = told (clock_in last text) refl shown where
  told : (clock : Option ℕ) → clock_in last text ≡ clock → Some nanos ≡ option_map (λ s. pos (s * 1_000_000_000 + fraction)) clock → instant_in last text ≡ within_years last (nanos -ℤ nanos_of_seconds offset)
  told None is shown = cc
  told (Some second) is shown =
      let same : nanos ≡ pos (second * 1_000_000_000 + fraction) = cc in
      rw (form, is, part, zone, same)

-- and one with no zone has none
pub no_zone : (last : ℕ) (text rest : List ℕ) → after_form clock_form text ≡ Some rest → offset_in (zone_of rest) ≡ None → instant_in last text ≡ None
no_zone last text rest form zone = rw form (none (clock_in last text) (fraction_in rest)) where
  none : (clock fraction : Option ℕ) → option_and_then (λ second. option_and_then (λ fraction. option_and_then (λ offset. within_years last (instant_at second fraction offset)) (offset_in (zone_of rest))) fraction) clock ≡ None
  none None fraction = refl
  none (Some second) None = refl
  none (Some second) (Some fraction) = rw zone

-- what jiff has no instant for lies in no year that is read
pub no_instant : (last : ℕ) (n : ℤ) → 1970 ≤ last → last ≤ 2999 → (IsTimestampNanos n → ⊥) → within_years last n ≡ None
no_instant last n some few never = none (is_in_years last n) refl where
  none : (test : Bool) → is_in_years last n ≡ test → cond test (Some n) None ≡ None
  none false out = refl
  none true within =
      let bounds = in_years_is last n within in
      absurd (never (omega (arith, signed_arith), omega (arith, signed_arith, year_start_within last some few)))
