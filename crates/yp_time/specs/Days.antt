-- Days of the calendar and times of day (RFC 3339 section 5.7), by jiff's words for dates; seconds are counted from 1970-01-01T00:00:00Z, without leap seconds.
use Rattle.std.specs.Prelude.{ℕ, zero, suc, ◌+◌, ◌*◌, ◌&&◌, Bool, if◌then◌else◌, nat_lt, nat_le, Option, Some, None, pos, unsigned_abs}
use Rattle.jiff_core.specs.Calendar.{days_from_civil}
use Rattle.jiff.specs.Words.{days_in_month}

-- the calendar has this day
abbrev pub is_date : ℕ → ℕ → ℕ → Bool
is_date year month day =
    nat_le 1 month && nat_le month 12 && nat_le 1 day && nat_le day (days_in_month (pos year) month)

-- the days from 1970-01-01 to a day that isn't before it
abbrev pub day_number : ℕ → ℕ → ℕ → ℕ
day_number year month day = unsigned_abs (days_from_civil (pos year) month day)

-- the number of a day, if there is such a day
abbrev pub day_in : ℕ → ℕ → ℕ → Option ℕ
day_in year month day = if is_date year month day then Some (day_number year month day) else None

-- the seconds from midnight, if a clock shows this time; second 60 is none
abbrev pub time_in : ℕ → ℕ → ℕ → Option ℕ
time_in hour minute second =
    if nat_lt hour 24 && nat_lt minute 60 && nat_lt second 60
    then Some (hour * 3600 + minute * 60 + second) else None

-- the first second of a year
abbrev pub year_start : ℕ → ℕ
year_start year = day_number year 1 1 * 86_400

-- a year, a month and a day
pub record Day : Type 0 where
  pub year : ℕ
  pub month : ℕ
  pub day : ℕ

-- the next day: of the same month, else of the next month, else of the next year
abbrev pub next_day : Day → Day
next_day d =
    if nat_lt d.day (days_in_month (pos d.year) d.month) then record { year = d.year; month = d.month; day = d.day + 1 }
    else (if nat_lt d.month 12 then record { year = d.year; month = d.month + 1; day = 1 }
    else record { year = d.year + 1; month = 1; day = 1 })

-- the day that comes so many days after 1970-01-01
unfoldable pub day_after_epoch : ℕ → Day
day_after_epoch zero = record { year = 1970; month = 1; day = 1 }
day_after_epoch (suc n) = next_day (day_after_epoch n)
