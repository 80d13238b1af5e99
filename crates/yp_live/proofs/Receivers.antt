-- Receivers by their numbers.
use Rattle.std.proofs.Common.{◌≡◌, ℕ, zero, suc, ◌<◌, List, [], ◌∷◌, length, Some, refl, arith}
use Rattle.std.specs.List.{slice_get}
use Rattle.yp_journal.specs.declared.receiver.ReceiverInfo.{ReceiverInfo}

-- below their count there is a receiver
pub receiver_there : (receivers : List ReceiverInfo) (number : ℕ) → number < length receivers → (receiver : ReceiverInfo) × (slice_get receivers number ≡ Some receiver)
receiver_there [] number less = absurd (omega (arith, less))
receiver_there (receiver ∷ receivers) zero less = (receiver, refl)
receiver_there (receiver ∷ receivers) (suc number) less = receiver_there receivers number (omega (arith, less))
