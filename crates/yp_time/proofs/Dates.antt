-- A date that jiff makes of its parts is the date that the calendar has, and its number is jiff's.
use Rattle.std.proofs.Common.{◌≡◌, ℕ, ◌≤◌, Bool, true, false, refl, ap, arith, pos, ◌≤ℤ◌, Option, Some, option_map, Result, Ok, Err, IsOk, IfOk, ◌↔◌}
use Rattle.std.specs.Result.{result_ok}
use Rattle.std.proofs.lemmas.Int.{ints}
use Rattle.std.proofs.lemmas.Bool.Decides.{nat_tests}
use Rattle.jiff_core.specs.Calendar.{IsDate, days_from_civil}
use Rattle.jiff_core.specs.declared.civil.date.Date.{Date}
use Rattle.jiff_core.specs.Date.{epoch_day, IsYmd}
use Rattle.jiff_core.proofs.SignedLemmas.{signed_arith, unsigned_abs-parts, one_part}
use Rattle.yp_time.specs.Days.{is_date, day_number, day_in}
use Rattle.yp_time.proofs.DayNumbers.{not_negative}

is_date_told : (y m d : ℕ) → IsDate (pos y) (pos m) (pos d) → is_date y m d ≡ true
is_date_told y m d h = grind (arith, nat_tests, ints)

is_date_is : (y m d : ℕ) → y ≤ 9998 → is_date y m d ≡ true → IsDate (pos y) (pos m) (pos d)
is_date_is y m d to h =
    (grind (arith, nat_tests, ints), grind (arith, nat_tests, ints), grind (arith, nat_tests, ints))

number_is : (date : Date) (y m d : ℕ) → 1970 ≤ y → IsYmd (pos y) (pos m) (pos d) date → epoch_day date ≡ pos (day_number y m d)
number_is date y m d from parts =
    let month : date.month ≡ m = omega (arith, signed_arith, parts.1) in
    let day : date.day ≡ d = omega (arith, signed_arith, parts.2) in
    let after : pos 0 ≤ℤ days_from_civil (pos y) m d = not_negative (pos y) m d (omega (arith, date.day_in.0)) (omega (arith, signed_arith)) in
    rw (parts.0, month, day) (omega (arith, signed_arith, unsigned_abs-parts (days_from_civil (pos y) m d), one_part (days_from_civil (pos y) m d)))

abbrev Tells : Option Date → ℕ → ℕ → ℕ → Type 0
Tells made y m d = option_map epoch_day made ≡ option_map (λ n. pos n) (day_in y m d)

no_date : (b : Bool) (y m d : ℕ) → (b ≡ true → ⊥) → is_date y m d ≡ b → is_date y m d ≡ false
no_date true y m d never same = absurd (never refl)
no_date false y m d never same = same

pub date_tells : {E : Type 0} (r : Result Date E) (y m d : ℕ) → 1970 ≤ y → y ≤ 9998 → IsOk r ↔ IsDate (pos y) (pos m) (pos d) → IfOk r (IsYmd (pos y) (pos m) (pos d)) → Tells (result_ok r) y m d
date_tells (Ok date) y m d from to there parts =
    let yes : is_date y m d ≡ true = is_date_told y m d (there.0 refl) in
    rw yes (ap Some (number_is date y m d from parts))
date_tells (Err e) y m d from to there parts =
    let no : is_date y m d ≡ false = no_date (is_date y m d) y m d (λ yes. let told = there.1 (is_date_is y m d to yes) in cc) refl in
    rw no
