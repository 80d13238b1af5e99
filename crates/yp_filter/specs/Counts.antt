-- Counting in 32 bits.
use Rattle.std.specs.Prelude.{◌≡◌, ◌≤◌, ◌^◌, ℕ, Option, Some, None}

-- a size is counted, unless it is too large
abbrev pub Counts : Option ℕ → ℕ → Type 0
Counts (Some n) size = n ≡ size
Counts None size = 2 ^ 32 ≤ size
