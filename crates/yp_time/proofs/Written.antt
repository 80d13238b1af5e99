-- What is written of an instant is read again as this instant.
use Rattle.std.proofs.Common.{◌≡◌, ℕ, ◌+◌, ◌-◌, ◌*◌, ◌/◌, ◌%◌, ◌<◌, ◌≤◌, nat_lt, nat_le, true, List, [], ◌∷◌, ◌++◌, Some, ap, ◌∙◌, arith, ℤ, pos}
use Rattle.std.specs.Prelude.{codes}
use Rattle.std.specs.Char.{is_ascii_digit}
use Rattle.std.proofs.lemmas.Bool.Decides.{nat_tests}
use Rattle.jiff_core.specs.Calendar.{IsCivilDate, days_in_month}
use Rattle.jiff_core.proofs.CalendarLemmas.{days_in_month_bounds}
use Rattle.jiff_core.proofs.SignedLemmas.{signed_arith}
use Rattle.yp_time.specs.Forms.{after_form, pair_at, leading_year, pair_text}
use Rattle.yp_time.specs.Days.{Day, day_number, day_in, time_in, year_start, day_after_epoch}
use Rattle.yp_time.specs.Instants.{clock_form, clock_in, fraction_in, zone_of, instant_at, is_in_years, instant_after, instant_in, date_text, time_text, instant_text, instant_of, anchor_in, event_in, event_text, event_year, IsStart}
use Rattle.yp_time.specs.Ticks.{tick_limit, ticks_from}
use Rattle.yp_time.proofs.Clocks.{in_years_told}
use Rattle.yp_time.proofs.DayNumbers.{day_number-day_count, before_later_year, end_of_events}
use Rattle.yp_time.proofs.DaysInOrder.{IsDayAfter, day_is, year_before}

digit_is : (n : ℕ) → n < 10 → is_ascii_digit (48 + n) ≡ true
digit_is n small = grind (arith, nat_tests)

-- two digits of a form are passed by a number in two digits
pair_passes : (n : ℕ) (form text : List ℕ) → n < 100 → after_form (100 ∷ 100 ∷ form) (pair_text n ++ text) ≡ after_form form text
pair_passes n form text small =
    let tens : is_ascii_digit (48 + n / 10) ≡ true = digit_is (n / 10) (omega arith) in
    let ones : is_ascii_digit (48 + n % 10) ≡ true = digit_is (n % 10) (omega arith) in
    rw (tens, ones)

-- the bytes of a date, a time of day and hundredths
abbrev after_clock : ℕ → List ℕ
after_clock c = 46 ∷ (pair_text c ++ 90 ∷ [])

abbrev written : ℕ → ℕ → ℕ → ℕ → ℕ → ℕ → ℕ → List ℕ
written y m d h mi s c =
    pair_text (y / 100) ++ (pair_text (y % 100) ++ (45 ∷ (pair_text m ++ (45 ∷ (pair_text d ++ (84 ∷ (pair_text h ++ (58 ∷ (pair_text mi ++ (58 ∷ (pair_text s ++ after_clock c)))))))))))

form_passes : (y m d h mi s c : ℕ) → y < 10000 → m < 100 → d < 100 → h < 100 → mi < 100 → s < 100 → after_form clock_form (written y m d h mi s c) ≡ Some (after_clock c)
form_passes y m d h mi s c yt mt dt ht it st =
    let after_minute : List ℕ = 58 ∷ (pair_text s ++ after_clock c) in
    let after_hour : List ℕ = 58 ∷ (pair_text mi ++ after_minute) in
    let after_day : List ℕ = 84 ∷ (pair_text h ++ after_hour) in
    let after_month : List ℕ = 45 ∷ (pair_text d ++ after_day) in
    let after_year : List ℕ = 45 ∷ (pair_text m ++ after_month) in
    pair_passes (y / 100) (codes "dd-dd-ddTdd:dd:dd") (pair_text (y % 100) ++ after_year) (omega arith)
    ∙ pair_passes (y % 100) (codes "-dd-ddTdd:dd:dd") after_year (omega arith)
    ∙ pair_passes m (codes "-ddTdd:dd:dd") after_month mt
    ∙ pair_passes d (codes "Tdd:dd:dd") after_day dt
    ∙ pair_passes h (codes ":dd:dd") after_hour ht
    ∙ pair_passes mi (codes ":dd") after_minute it
    ∙ pair_passes s [] (after_clock c) st

pair_again : (n : ℕ) → n < 100 → (48 + n / 10 - 48) * 10 + (48 + n % 10 - 48) ≡ n
pair_again n small = omega arith

-- the parts at the fixed places
clock_from : (last y m d h mi s day time : ℕ) (text : List ℕ) → leading_year text ≡ y → pair_at text 5 ≡ m → pair_at text 8 ≡ d → pair_at text 11 ≡ h → pair_at text 14 ≡ mi → pair_at text 17 ≡ s → 1970 ≤ y → y ≤ last → day_in y m d ≡ Some day → time_in h mi s ≡ Some time → clock_in last text ≡ Some (day * 86_400 + time)
clock_from last y m d h mi s day time text ey em ed eh ei es from to there shown =
    let low : nat_le 1970 y ≡ true = grind (arith, nat_tests) in
    let high : nat_le y last ≡ true = grind (arith, nat_tests) in
    rw (ey, em, ed, eh, ei, es, low, high, there, shown)

clock_passes : (last y m d h mi s c day time : ℕ) → y < 10000 → m < 100 → d < 100 → h < 100 → mi < 100 → s < 100 → 1970 ≤ y → y ≤ last → day_in y m d ≡ Some day → time_in h mi s ≡ Some time → clock_in last (written y m d h mi s c) ≡ Some (day * 86_400 + time)
clock_passes last y m d h mi s c day time yt mt dt ht it st from to there shown =
    clock_from last y m d h mi s day time (written y m d h mi s c)
    (omega arith) (pair_again m mt) (pair_again d dt) (pair_again h ht) (pair_again mi it) (pair_again s st) from to there shown

-- two digits are hundredths of a second
fraction_passes : (c : ℕ) → c < 100 → fraction_in (after_clock c) ≡ Some (c * 10_000_000)
fraction_passes c small =
    let tens : is_ascii_digit (48 + c / 10) ≡ true = digit_is (c / 10) (omega arith) in
    let ones : is_ascii_digit (48 + c % 10) ≡ true = digit_is (c % 10) (omega arith) in
    let worth : (48 + c / 10 - 48) * 100_000_000 + ((48 + c % 10 - 48) * 10_000_000 + 0) ≡ c * 10_000_000 = omega arith in
    rw (tens, ones) (ap Some worth)

zone_passes : (c : ℕ) → c < 100 → zone_of (after_clock c) ≡ 90 ∷ []
zone_passes c small =
    let tens : is_ascii_digit (48 + c / 10) ≡ true = digit_is (c / 10) (omega arith) in
    let ones : is_ascii_digit (48 + c % 10) ≡ true = digit_is (c % 10) (omega arith) in
    rw (tens, ones)

rest_passes : (last c clock : ℕ) → c < 100 → clock < year_start (last + 1) → instant_after last (after_clock c) clock ≡ Some (pos (clock * 1_000_000_000 + c * 10_000_000))
rest_passes last c clock small within =
    let same : instant_at clock (c * 10_000_000) (pos 0) ≡ pos (clock * 1_000_000_000 + c * 10_000_000) = omega (arith, signed_arith) in
    let inside : is_in_years last (instant_at clock (c * 10_000_000) (pos 0)) ≡ true =
    in_years_told last (instant_at clock (c * 10_000_000) (pos 0)) (omega (arith, signed_arith), omega (arith, signed_arith)) in
    rw (fraction_passes c small, zone_passes c small, inside) (ap Some same)

-- from the parts to the instant
instant_from : (last clock : ℕ) (text rest : List ℕ) (instant : ℤ) → after_form clock_form text ≡ Some rest → clock_in last text ≡ Some clock → instant_after last rest clock ≡ Some instant → instant_in last text ≡ Some instant
instant_from last clock text rest instant passes shows is = rw (passes, shows) is

time_is : (t : ℕ) → t < 86_400 → time_in (t / 3600) (t % 3600 / 60) (t % 60) ≡ Some t
time_is t small =
    let hour : nat_lt (t / 3600) 24 ≡ true = grind (arith, nat_tests) in
    let minute : nat_lt (t % 3600 / 60) 60 ≡ true = grind (arith, nat_tests) in
    let second : nat_lt (t % 60) 60 ≡ true = grind (arith, nat_tests) in
    let same : t / 3600 * 3600 + t % 3600 / 60 * 60 + t % 60 ≡ t = omega arith in
    rw (hour, minute, second) (ap Some same)

counted : (d : Day) (n : ℕ) → IsDayAfter d n → day_in d.year d.month d.day ≡ Some n
counted d n h =
    let month_from : nat_le 1 d.month ≡ true = grind (arith, nat_tests, h.month_from) in
    let month_to : nat_le d.month 12 ≡ true = grind (arith, nat_tests, h.month_to) in
    let day_from : nat_le 1 d.day ≡ true = grind (arith, nat_tests, h.day_from) in
    let day_to : nat_le d.day (days_in_month (pos d.year) d.month) ≡ true = grind (arith, nat_tests, h.day_to) in
    let number : day_number d.year d.month d.day ≡ n = omega (arith, h.count, day_number-day_count d.year d.month d.day h.year_from h.day_from) in
    rw (month_from, month_to, day_from, day_to) (ap Some number)

-- each day that is counted has the number of its place
pub day_numbers : (n : ℕ) → day_in (day_after_epoch n).year (day_after_epoch n).month (day_after_epoch n).day ≡ Some n
day_numbers n = counted (day_after_epoch n) n (day_is n)

-- each part has two digits, and the year four
instant_passes : (last n t c : ℕ) (d : Day) → IsDayAfter d n → d.year ≤ last → d.year < 10000 → t < 86_400 → c < 100 → instant_in last (date_text d ++ 84 ∷ time_text t ++ 46 ∷ pair_text c ++ 90 ∷ []) ≡ Some (pos ((n * 86_400 + t) * 1_000_000_000 + c * 10_000_000))
instant_passes last n t c d h to four small hundredths =
    let month : d.month < 100 = omega (arith, h.month_to) in
    let day : d.day < 100 = omega (arith, h.day_to, days_in_month_bounds (pos d.year) d.month) in
    let text : List ℕ = written d.year d.month d.day (t / 3600) (t % 3600 / 60) (t % 60) c in
    let civil : IsCivilDate (pos d.year) d.month d.day = (omega (arith, signed_arith), (h.month_from, h.month_to), (h.day_from, h.day_to)) in
    let before : day_number d.year d.month d.day < day_number (last + 1) 1 1 = before_later_year d.year d.month d.day last h.year_from civil to in
    let number : day_number d.year d.month d.day ≡ n = omega (arith, h.count, day_number-day_count d.year d.month d.day h.year_from h.day_from) in
    let within : n * 86_400 + t < year_start (last + 1) = omega arith in
    instant_from last (n * 86_400 + t) text (after_clock c) (pos ((n * 86_400 + t) * 1_000_000_000 + c * 10_000_000))
    (form_passes d.year d.month d.day (t / 3600) (t % 3600 / 60) (t % 60) c four month day (omega arith) (omega arith) (omega arith))
    (clock_passes last d.year d.month d.day (t / 3600) (t % 3600 / 60) (t % 60) c n t four month day (omega arith) (omega arith) (omega arith) h.year_from to (counted d n h) (time_is t small))
    (rest_passes last c (n * 86_400 + t) hundredths within)

-- an instant in hundredths of a second, in a year up to the last
pub instant_again : (last h : ℕ) → (day_after_epoch (h / 100 / 86_400)).year ≤ last → last < 9999 → instant_in last (instant_text h) ≡ Some (instant_of h)
instant_again last h to four =
    let same : (h / 100 / 86_400 * 86_400 + h / 100 % 86_400) * 1_000_000_000 + h % 100 * 10_000_000 ≡ h * 10_000_000 = omega arith in
    instant_passes last (h / 100 / 86_400) (h / 100 % 86_400) (h % 100) (day_after_epoch (h / 100 / 86_400))
    (day_is (h / 100 / 86_400)) to (omega arith) (omega arith) (omega arith)
    ∙ ap (λ n. Some (pos n)) same

-- the ticks to an instant that is so many hundredths of a second after the start
ticks_again : (start tick : ℕ) → ticks_from start (instant_of (start * 100 + tick)) ≡ pos tick
ticks_again start tick = omega (arith, signed_arith)

-- an event time in a year up to 2199 is an anchor, of its own tick
pub anchor_again : (start tick : ℕ) → event_year start tick ≤ 2199 → anchor_in start (event_text start tick) ≡ Some (pos tick)
unfolding anchor_in event_text event_year
anchor_again start tick to =
    rw (instant_again 2199 (start * 100 + tick) to (omega arith)) (ap Some (ticks_again start tick))

-- and every event time of a tick lies before the year 3000
pub event_again : (start tick : ℕ) → IsStart start → tick ≤ tick_limit → event_in (event_text start tick) ≡ Some (instant_of (start * 100 + tick))
unfolding event_in event_text
event_again start tick from to =
    let day : ℕ = (start * 100 + tick) / 100 / 86_400 in
    let early : day * 86_400 < year_start 3000 = rw end_of_events (omega arith) in
    instant_again 2999 (start * 100 + tick) (year_before day 2999 (omega arith) (omega arith)) (omega arith)
