-- Texts of instants (RFC 3339 section 5.6): the start of the ticks, anchors, and the event times of notifications (RFC 5277 section 4). An instant is jiff's: its nanoseconds from 1970-01-01T00:00:00Z, without leap seconds.
use Rattle.std.specs.Prelude.{ℕ, ◌+◌, ◌-◌, ◌*◌, ◌/◌, ◌%◌, ◌<◌, ◌==◌, ◌&&◌, Bool, if◌then◌else◌, nat_lt, nat_le, List, [], ◌∷◌, ◌++◌, drop, Option, Some, None, option_map, option_and_then, ℤ, pos, neg_ℤ, ◌-ℤ◌, int_le, int_lt, codes}
use Rattle.std.specs.Char.{is_ascii_digit}
use Rattle.std.specs.List.{prefix_len}
use Rattle.jiff.specs.Words.{nanos_of_seconds}
use Rattle.yp_time.specs.Forms.{after_form, has_form, pair_at, leading_year, pair_text}
use Rattle.yp_time.specs.Days.{day_in, time_in, year_start, Day, day_after_epoch}
use Rattle.yp_time.specs.Ticks.{ticks_from}

-- the date and time of day that begin the text of an instant
abbrev pub clock_form : List ℕ
clock_form = codes "dddd-dd-ddTdd:dd:dd"

-- a date and a time of day in seconds from 1970-01-01T00:00:00
abbrev pub second_of : Option ℕ → Option ℕ → Option ℕ
second_of day time = option_and_then (λ day. option_map (λ time. day * 86_400 + time) time) day

-- what the date and time that begin a text show, in a year from 1970 to the last
abbrev pub clock_in : ℕ → List ℕ → Option ℕ
clock_in last text =
    if nat_le 1970 (leading_year text) && nat_le (leading_year text) last
    then second_of (day_in (leading_year text) (pair_at text 5) (pair_at text 8))
    (time_in (pair_at text 11) (pair_at text 14) (pair_at text 17))
    else None

-- the seconds of `hh:mm` after a sign
abbrev pub hours_in : List ℕ → Option ℕ
hours_in zone = time_in (pair_at zone 1) (pair_at zone 4) 0

-- the seconds by which a clock is ahead of UTC, by its zone
abbrev pub offset_in : List ℕ → Option ℤ
offset_in zone =
    if has_form (codes "Z") zone then Some (pos 0)
    else (if has_form (codes "+dd:dd") zone then option_map (λ seconds. pos seconds) (hours_in zone)
    else (if has_form (codes "-dd:dd") zone then option_map (λ seconds. neg_ℤ (pos seconds)) (hours_in zone)
    else None))

-- the leading digits, each worth a tenth of the one before it
abbrev pub digits_worth : ℕ → List ℕ → ℕ
digits_worth unit [] = 0
digits_worth unit (byte ∷ text) =
    if is_ascii_digit byte then (byte - 48) * unit + digits_worth (unit / 10) text else 0

-- one to nine digits after a point, in nanoseconds
abbrev pub nanoseconds_in : List ℕ → Option ℕ
nanoseconds_in text =
    if nat_lt 0 (prefix_len is_ascii_digit text) && nat_lt (prefix_len is_ascii_digit text) 10
    then Some (digits_worth 100_000_000 text) else None

-- the fraction of the second after the time of day; none is 0
abbrev pub fraction_in : List ℕ → Option ℕ
fraction_in [] = Some 0
fraction_in (byte ∷ text) = if byte == 46 then nanoseconds_in text else Some 0

-- the zone after the time of day and its fraction
abbrev pub zone_of : List ℕ → List ℕ
zone_of [] = []
zone_of (byte ∷ text) = if byte == 46 then drop (prefix_len is_ascii_digit text) text else byte ∷ text

-- the instant at which a clock shows this second and fraction, by the seconds that it is ahead of UTC
abbrev pub instant_at : ℕ → ℕ → ℤ → ℤ
instant_at second fraction offset = pos (second * 1_000_000_000 + fraction) -ℤ nanos_of_seconds offset

-- an instant lies in the years from 1970 to the last, in UTC
abbrev pub is_in_years : ℕ → ℤ → Bool
is_in_years last instant = int_le (pos 0) instant && int_lt instant (pos (year_start (last + 1) * 1_000_000_000))

-- an instant, if it lies in these years
abbrev pub within_years : ℕ → ℤ → Option ℤ
within_years last instant = if is_in_years last instant then Some instant else None

-- the instant of a clock that shows this second, by the rest of the text
abbrev pub instant_after : ℕ → List ℕ → ℕ → Option ℤ
instant_after last rest second =
    option_and_then
    (λ fraction. option_and_then (λ offset. within_years last (instant_at second fraction offset)) (offset_in (zone_of rest)))
    (fraction_in rest)

-- an instant whose written year and whose year in UTC lie from 1970 to the last
abbrev pub instant_in : ℕ → List ℕ → Option ℤ
instant_in last text =
    option_and_then (λ rest. option_and_then (instant_after last rest) (clock_in last text)) (after_form clock_form text)

-- a start, `YYYY-MM-DDThh:mm:ssZ`, in seconds
unfoldable pub start_in : List ℕ → Option ℕ
start_in text = if has_form (clock_form ++ codes "Z") text then clock_in 2199 text else None

-- an anchor, in ticks after the start
unfoldable pub anchor_in : ℕ → List ℕ → Option ℤ
anchor_in start text = option_map (ticks_from start) (instant_in 2199 text)

-- an event time: the years go to 2999
unfoldable pub event_in : List ℕ → Option ℤ
event_in text = instant_in 2999 text

-- a start's seconds end with the year 2199
abbrev pub IsStart : ℕ → Type 0
IsStart second = second < 7_258_118_400

-- a date, `YYYY-MM-DD`
abbrev pub date_text : Day → List ℕ
date_text d = pair_text (d.year / 100) ++ pair_text (d.year % 100) ++ 45 ∷ pair_text d.month ++ 45 ∷ pair_text d.day

-- a time of day, `hh:mm:ss`
abbrev pub time_text : ℕ → List ℕ
time_text second = pair_text (second / 3600) ++ 58 ∷ pair_text (second % 3600 / 60) ++ 58 ∷ pair_text (second % 60)

-- an instant in hundredths of a second from 1970, `YYYY-MM-DDThh:mm:ss.ccZ`
abbrev pub instant_text : ℕ → List ℕ
instant_text hundredths =
    date_text (day_after_epoch (hundredths / 100 / 86_400)) ++ 84 ∷ time_text (hundredths / 100 % 86_400)
    ++ 46 ∷ pair_text (hundredths % 100) ++ 90 ∷ []

-- the same instant in nanoseconds
abbrev pub instant_of : ℕ → ℤ
instant_of hundredths = pos (hundredths * 10_000_000)

-- the event time of a tick after a start
unfoldable pub event_text : ℕ → ℕ → List ℕ
event_text start tick = instant_text (start * 100 + tick)

-- its year
unfoldable pub event_year : ℕ → ℕ → ℕ
event_year start tick = (day_after_epoch ((start * 100 + tick) / 100 / 86_400)).year
