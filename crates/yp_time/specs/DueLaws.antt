-- What follows of due ticks: whole multiples of a period, counted from an anchor.
use Rattle.std.proofs.Common.{◌≡◌, ℕ, ◌+◌, ◌*◌, ◌<◌, ◌≤◌, arith, ap, ℤ, pos, negsuc, neg_ℤ, ◌+ℤ◌, ◌-ℤ◌, ◌*ℤ◌}
use Rattle.std.specs.Int.{int_div_euclid}
use Rattle.jiff_core.proofs.SignedLemmas.{signed_arith, int_rem_euclid-parts}
use borrow.Author.Differences.{up, down, neg_is}
use Rattle.yp_time.specs.Due.{IsDue, next_due_of}

-- the next due tick is due
pub due_is : (anchor : ℤ) (period from : ℕ) → 0 < period → IsDue anchor period (next_due_of anchor period from)
unfolding next_due_of
due_is anchor period from some =
    let q : ℤ = int_div_euclid (anchor -ℤ pos from) (pos period) in
    let times : (up (neg_ℤ q) * period ≡ down q * period) × (down (neg_ℤ q) * period ≡ up q * period) =
    (ap (λ n. n * period) (neg_is q).0, ap (λ n. n * period) (neg_is q).1) in
    (neg_ℤ q, omega (arith, signed_arith, int_rem_euclid-parts (anchor -ℤ pos from) period some))

-- a number that is whole periods away from another, and not a whole period below it, isn't below it
not_below : (tick next from period : ℕ) (m : ℤ) → pos tick ≡ pos next +ℤ m *ℤ pos period → next < from + period → from ≤ tick → next ≤ tick
not_below tick next from period (pos n) same near late = omega (arith, signed_arith)
not_below tick next from period (negsuc n) same near late = omega (arith, signed_arith)

apart : (a k q : ℤ) (tick next period : ℕ) → pos tick ≡ a +ℤ k *ℤ pos period → pos next ≡ a +ℤ q *ℤ pos period → pos tick ≡ pos next +ℤ (k -ℤ q) *ℤ pos period
apart a k q tick next period one two =
    let parts : up (k -ℤ q) + down k + up q ≡ down (k -ℤ q) + up k + down q = omega (arith, signed_arith) in
    omega (arith, signed_arith, ap (λ n. n * period) parts)

-- less than a period from the beginning on there is no earlier multiple
pub first_is : (anchor : ℤ) (period from next tick : ℕ) → IsDue anchor period next → next < from + period → from ≤ tick → IsDue anchor period tick → next ≤ tick
first_is anchor period from next tick (q, here) near late (k, there) =
    not_below tick next from period (k -ℤ q) (apart anchor k q tick next period there here) near late

pub due_at : (anchor : ℤ) (period from next : ℕ) → next ≡ next_due_of anchor period from → 0 < period → IsDue anchor period next
due_at anchor period from next same some = rw same (due_is anchor period from some)

-- it isn't before the tick that it is looked for from
pub not_before : (anchor : ℤ) (period from : ℕ) → from ≤ next_due_of anchor period from
unfolding next_due_of
not_before anchor period from = omega arith

-- and is less than a period past it
near_is : (anchor : ℤ) (period from : ℕ) → 0 < period → next_due_of anchor period from < from + period
unfolding next_due_of
near_is anchor period from some = omega (arith, signed_arith, int_rem_euclid-parts (anchor -ℤ pos from) period some)

-- so it is the first one from there on
pub first_due : (anchor : ℤ) (period from tick : ℕ) → 0 < period → from ≤ tick → IsDue anchor period tick → next_due_of anchor period from ≤ tick
first_due anchor period from tick some late due =
    first_is anchor period from (next_due_of anchor period from) tick (due_is anchor period from some) (near_is anchor period from some) late due
