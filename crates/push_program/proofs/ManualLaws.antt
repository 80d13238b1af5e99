-- The first receiver that takes by command, of those that are left from a place on.
use Rattle.std.proofs.Common.{◌≡◌, ℕ, ◌+◌, zero, suc, true, false, List, [], ◌∷◌, drop, Some, None, slice_get, refl, ap, arith, ◌∙◌}
use Rattle.yp_journal.specs.declared.receiver.ReceiverInfo.{ReceiverInfo}
use Rattle.push_program.specs.Jobs.{first_manual}

passed_by : (receivers : List ReceiverInfo) (n : ℕ) (receiver : ReceiverInfo) → slice_get receivers n ≡ Some receiver → receiver.auto ≡ true → first_manual (drop n receivers) ≡ first_manual (drop (suc n) receivers)
passed_by [] n receiver is auto = absurd cc
passed_by (first ∷ receivers) zero receiver is auto =
    let same : first ≡ receiver = cc in
    rw (same, auto) refl
passed_by (first ∷ receivers) (suc n) receiver is auto = passed_by receivers n receiver is auto

-- one that takes by itself is passed over
pub passed : (receivers : List ReceiverInfo) (n : ℕ) (receiver : ReceiverInfo) → slice_get receivers n ≡ Some receiver → receiver.auto ≡ true → first_manual (drop n receivers) ≡ first_manual (drop (n + 1) receivers)
passed receivers n receiver is auto =
    let next : suc n ≡ n + 1 = omega arith in
    passed_by receivers n receiver is auto ∙ ap (λ (k : ℕ). first_manual (drop k receivers)) next

-- one that takes by command is found
pub found : (receivers : List ReceiverInfo) (n : ℕ) (receiver : ReceiverInfo) → slice_get receivers n ≡ Some receiver → receiver.auto ≡ false → first_manual (drop n receivers) ≡ Some receiver.name
found [] n receiver is command = absurd cc
found (first ∷ receivers) zero receiver is command =
    let same : first ≡ receiver = cc in
    rw (same, command) refl
found (first ∷ receivers) (suc n) receiver is command = found receivers n receiver is command

-- past the last there is none
pub none_left : (receivers : List ReceiverInfo) (n : ℕ) → slice_get receivers n ≡ None → first_manual (drop n receivers) ≡ None
none_left [] zero is = refl
none_left [] (suc n) is = refl
none_left (first ∷ receivers) zero is = absurd cc
none_left (first ∷ receivers) (suc n) is = none_left receivers n is
