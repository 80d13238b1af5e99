-- What follows of the numbers that receivers have by their names.
use Rattle.std.proofs.Common.{◌≡◌, ℕ, ◌+◌, ◌<◌, Bool, true, false, true≢false, cond, not, nat_lt, ◌||◌, List, [], ◌∷◌, length, Some, None, is_some, IfSome, refl, sym, ap, ◌∙◌, arith}
use Rattle.std.proofs.lemmas.Bool.{ltb-true, lt-ltb}
use Rattle.std.proofs.lemmas.List.{length-map}
use Rattle.std.proofs.lemmas.Option.{IfSome_then}
use Rattle.std.specs.List.{position, position_or_len, list_any}
use Rattle.yp_base.specs.Types.{same_text}
use Rattle.yp_journal.specs.declared.receiver.ReceiverInfo.{ReceiverInfo}
use Rattle.yp_command.specs.Names.{names_of, receiver_number}

within_at : {X : Type 0} (b : Bool) (xs : List X) (n : ℕ) → nat_lt n (length xs) ≡ b → IfSome (cond b (Some n) None) (λ n. n < length xs)
within_at true xs n is = ltb-true n (length xs) is
within_at false xs n is = tt

-- a place is one of the list
position_within : {X : Type 0} (test : X → Bool) (xs : List X) → IfSome (position test xs) (λ n. n < length xs)
position_within test xs = within_at (nat_lt (position_or_len test xs) (length xs)) xs (position_or_len test xs) refl

any_at : (b rest : Bool) (n m : ℕ) → (rest ≡ true → n < m) → (b || rest) ≡ true → cond (not b) (1 + n) 0 < 1 + m
any_at true rest n m there is = omega arith
any_at false rest n m there is = let behind : n < m = there is in omega arith

any_there : {X : Type 0} (test : X → Bool) (xs : List X) → list_any test xs ≡ true → position_or_len test xs < length xs
any_there test [] is = absurd (true≢false (sym is))
any_there test (x ∷ xs) is =
    let here : cond (not (test x)) (1 + position_or_len test xs) 0 < 1 + length xs = any_at (test x) (list_any test xs) (position_or_len test xs) (length xs) (any_there test xs) is in
    omega (arith, here)

placed_at : {X : Type 0} (test : X → Bool) (xs : List X) (b : Bool) → list_any test xs ≡ b → is_some (position test xs) ≡ false → b ≡ false
placed_at test xs true any none =
    let here : nat_lt (position_or_len test xs) (length xs) ≡ true = lt-ltb (position_or_len test xs) (length xs) (any_there test xs any) in
    absurd (true≢false (sym (ap (λ b. is_some (cond b (Some (position_or_len test xs)) None)) here) ∙ none))
placed_at test xs false any none = refl

-- where there is no place, no element passes the test
pub none_there : {X : Type 0} (test : X → Bool) (xs : List X) → is_some (position test xs) ≡ false → list_any test xs ≡ false
none_there test xs none = placed_at test xs (list_any test xs) refl none

-- a number of a receiver is one of these
pub number_within : (receivers : List ReceiverInfo) (name : List ℕ) → IfSome (receiver_number receivers name) (λ n. n < length receivers)
number_within receivers name =
    IfSome_then (receiver_number receivers name) (position_within (same_text name) (names_of receivers))
    (λ n h. let same : length (names_of receivers) ≡ length receivers = length-map receivers (λ (r : ReceiverInfo). r.name) in omega arith)
