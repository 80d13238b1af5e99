-- Due ticks of a periodic subscription (RFC 8641 section 4.2): the anchor and every whole number of periods before and after it.
use Rattle.std.specs.Prelude.{ℕ, ◌≡◌, ◌+◌, ℤ, pos, ◌+ℤ◌, ◌-ℤ◌, ◌*ℤ◌, unsigned_abs}
use Rattle.std.specs.Int.{int_rem_euclid}

-- a tick that is a whole number of periods from the anchor, before or after it
abbrev pub IsDue : ℤ → ℕ → ℕ → Type 0
IsDue anchor period tick = (k : ℤ) × (pos tick ≡ anchor +ℤ k *ℤ pos period)

-- the least such tick from a tick on
unfoldable pub next_due_of : ℤ → ℕ → ℕ → ℕ
next_due_of anchor period from = from + unsigned_abs (int_rem_euclid (anchor -ℤ pos from) (pos period))
