-- Counting the days one by one from 1970-01-01 gives each day of the calendar its number.
use Rattle.std.proofs.Common.{◌≡◌, ℕ, zero, suc, ◌+◌, ◌<◌, ◌≤◌, Bool, true, false, cond, nat_lt, refl, arith, pos}
use Rattle.std.proofs.lemmas.Int.{by_lt_z}
use Rattle.std.proofs.lemmas.Bool.Decides.{nat_tests}
use Rattle.jiff_core.specs.Calendar.{day_count, days_in_month}
use Rattle.jiff_core.specs.declared.civil.date.Date.{Date}
use Rattle.jiff_core.specs.Date.{epoch_day}
use Rattle.jiff_core.proofs.SignedLemmas.{signed_arith}
use Rattle.jiff_core.proofs.CalendarLemmas.{days_from_civil-day_count, day_count-epoch, day_count-day, day_count-next_month, day_count-next_year, day_count-last_of_year, day_count-later_year, day_count-day_of_year, day_count-end, days_in_month_bounds}
use Rattle.jiff_core.proofs.DateLemmas.{epoch_day_injective}
use Rattle.yp_time.specs.Days.{Day, next_day, day_after_epoch, day_number}
use Rattle.yp_time.proofs.DayNumbers.{day_number-day_count}

-- a day from 1970 on that the calendar has, so many days after 1970-01-01
pub record IsDayAfter (d : Day) (n : ℕ) : Type 0 where
  pub year_from : 1970 ≤ d.year
  pub month_from : 1 ≤ d.month
  pub month_to : d.month ≤ 12
  pub day_from : 1 ≤ d.day
  pub day_to : d.day ≤ days_in_month (pos d.year) d.month
  pub count : day_count (pos d.year) d.month d.day ≡ n + 4_371_953

choose : (b : Bool) (P : Day → Type 0) (x y : Day) → (b ≡ true → P x) → (b ≡ false → P y) → P (cond b x y)
choose true P x y one other = one refl
choose false P x y one other = other refl

in_month : (y m d n : ℕ) → IsDayAfter (record { year = y; month = m; day = d }) n → d < days_in_month (pos y) m → IsDayAfter (record { year = y; month = m; day = d + 1 }) (suc n)
in_month y m d n h more = record {
  year_from = h.year_from;
  month_from = h.month_from;
  month_to = h.month_to;
  day_from = omega arith;
  day_to = omega arith;
  count = omega (arith, h.count, day_count-day (pos y) m d (d + 1) h.day_from (omega arith));
}

in_year : (y m d n : ℕ) → IsDayAfter (record { year = y; month = m; day = d }) n → d ≡ days_in_month (pos y) m → m < 12 → IsDayAfter (record { year = y; month = m + 1; day = 1 }) (suc n)
in_year y m d n h last more = record {
  year_from = h.year_from;
  month_from = omega arith;
  month_to = omega arith;
  day_from = omega arith;
  day_to = omega (arith, days_in_month_bounds (pos y) (m + 1));
  count = omega (arith, h.count, day_count-day (pos y) m d 1 h.day_from (omega arith), day_count-next_month (pos y) m h.month_from);
}

to_year : (y d n : ℕ) → IsDayAfter (record { year = y; month = 12; day = d }) n → d ≡ 31 → IsDayAfter (record { year = y + 1; month = 1; day = 1 }) (suc n)
to_year y d n h last = record {
  year_from = omega (arith, h.year_from);
  month_from = omega arith;
  month_to = omega arith;
  day_from = omega arith;
  day_to = omega (arith, days_in_month_bounds (pos (y + 1)) 1);
  count = omega (
    arith,
    h.count,
    day_count-day (pos y) 12 d 31 h.day_from (omega arith),
    day_count-last_of_year (pos y),
    day_count-next_year (pos y) (pos (y + 1)) (omega (arith, signed_arith)) refl,
  );
}

next_is : (d : Day) (n : ℕ) → IsDayAfter d n → IsDayAfter (next_day d) (suc n)
next_is d n h =
    choose (nat_lt d.day (days_in_month (pos d.year) d.month)) (λ e. IsDayAfter e (suc n)) _ _
    (λ more. in_month d.year d.month d.day n h (grind (arith, nat_tests)))
    (λ no_more.
    let last : d.day ≡ days_in_month (pos d.year) d.month = grind (arith, nat_tests, h.day_to) in
    choose (nat_lt d.month 12) (λ e. IsDayAfter e (suc n)) _ _
    (λ more. in_year d.year d.month d.day n h last (grind (arith, nat_tests)))
    (λ december.
    let twelve : d.month ≡ 12 = grind (arith, nat_tests, h.month_to) in
    to_year d.year d.day n (rw twelve at h) (rw twelve at last)))

pub day_is : (n : ℕ) → IsDayAfter (day_after_epoch n) n
unfolding day_after_epoch
day_is zero = record {
  year_from = omega arith;
  month_from = omega arith;
  month_to = omega arith;
  day_from = omega arith;
  day_to = omega (arith, days_in_month_bounds (pos 1970) 1);
  count = omega (arith, day_count-epoch);
}
day_is (suc n) = next_is (day_after_epoch n) n (day_is n)

-- no later year than 9999 begins within the days of the library
year_to : (n : ℕ) → n ≤ 2_932_896 → (day_after_epoch n).year ≤ 9999
year_to n within =
    let h = day_is n in
    let y : ℕ = (day_after_epoch n).year in
    let first = day_count-day_of_year (pos y) (day_after_epoch n).month (day_after_epoch n).day h.day_from in
    by_lt_z (pos 9999) (pos y)
    (λ later. absurd (by_lt_z (pos 10000) (pos y)
    (λ far. omega (arith, h.count, h.day_from, first, day_count-end, day_count-later_year (pos 10000) (pos y) (omega (arith, signed_arith)) far))
    (λ near. let here : pos y ≡ pos 10000 = omega (arith, signed_arith) in
    omega (arith, h.count, h.day_from, rw here at first, rw here at h.count, day_count-end))))
    (λ le. omega (arith, signed_arith))

-- the day as a date of jiff's
date_at : (n : ℕ) → n ≤ 2_932_896 → Date
date_at n within =
    let h = day_is n in
    record {
      year = pos (day_after_epoch n).year;
      month = (day_after_epoch n).month;
      day = (day_after_epoch n).day;
      year_in = omega (arith, signed_arith, year_to n within);
      month_in = (h.month_from, h.month_to);
      day_in = (h.day_from, h.day_to);
    }

-- jiff's date of a day number is the day that is counted
pub date_is : (d : Date) (n : ℕ) → n ≤ 2_932_896 → epoch_day d ≡ pos n → (d.year ≡ pos (day_after_epoch n).year) × (d.month ≡ (day_after_epoch n).month) × (d.day ≡ (day_after_epoch n).day)
unfolding date_at
date_is d n within number =
    let h = day_is n in
    let same : epoch_day d ≡ epoch_day (date_at n within) = omega (arith, signed_arith, h.count, days_from_civil-day_count) in
    epoch_day_injective d (date_at n within) same

-- a day before a year is of an earlier one
pub year_before : (n last : ℕ) → 1970 ≤ last + 1 → n < day_number (last + 1) 1 1 → (day_after_epoch n).year ≤ last
year_before n last from before =
    let h = day_is n in
    let y : ℕ = (day_after_epoch n).year in
    let first = day_count-day_of_year (pos y) (day_after_epoch n).month (day_after_epoch n).day h.day_from in
    let end = day_number-day_count (last + 1) 1 1 from (omega arith) in
    by_lt_z (pos last) (pos y)
    (λ later. absurd (by_lt_z (pos (last + 1)) (pos y)
    (λ far. omega (arith, h.count, h.day_from, first, end, day_count-later_year (pos (last + 1)) (pos y) (omega (arith, signed_arith)) far))
    (λ near. let here : pos y ≡ pos (last + 1) = omega (arith, signed_arith) in
    omega (arith, h.count, h.day_from, rw here at first, rw here at h.count, end))))
    (λ le. omega (arith, signed_arith))
