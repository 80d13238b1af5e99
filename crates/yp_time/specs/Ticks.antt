-- Ticks: hundredths of a second after a start.
use Rattle.std.specs.Prelude.{ℕ, ◌*◌, ℤ, pos, neg_ℤ, ◌-ℤ◌}
use Rattle.std.specs.Int.{int_div_euclid}
use Rattle.jiff.specs.Words.{IsBetween}

-- the last tick
abbrev pub tick_limit : ℕ
tick_limit = 1_000_000_000_000

-- an anchor lies at most so many ticks before the start or after it
abbrev pub IsAnchor : ℤ → Type 0
IsAnchor ticks = IsBetween (neg_ℤ (pos tick_limit)) (pos tick_limit) ticks

-- the ticks from a start to an instant, rounded down
abbrev pub ticks_from : ℕ → ℤ → ℤ
ticks_from start instant = int_div_euclid (instant -ℤ pos (start * 1_000_000_000)) (pos 10_000_000)
