-- Lists cut in two.
use Rattle.std.proofs.Common.{◌≡◌, ℕ, ◌+◌, ◌<◌, List, [], ◌∷◌, ◌++◌, length, get_or, take, drop, map, refl, sym, ap, ◌∙◌, Ordering, Less, arith}
use Rattle.std.proofs.lemmas.List.{drop_more}
use Rattle.std.proofs.Math.Seq.{take-append_seam, drop-append_seam}
use Rattle.std.specs.List.{AllByRecursion}
use Rattle.std.specs.List.Sorted.{IsStrictlySortedBy}

pub take_front : {X : Type 0} (all front back : List X) → all ≡ front ++ back → take (length front) all ≡ front
take_front all front back e = ap (take (length front)) e ∙ take-append_seam front back

pub drop_front : {X : Type 0} (all front back : List X) → all ≡ front ++ back → drop (length front) all ≡ back
drop_front all front back e = ap (drop (length front)) e ∙ drop-append_seam front back

-- an item and those after it
pub next_at : {X : Type 0} (xs : List X) (i : ℕ) (x : X) → i < length xs → x ≡ get_or xs i x → drop i xs ≡ x ∷ drop (i + 1) xs
next_at xs i x low is = drop_more xs i x low ∙ ap (λ y. y ∷ drop (i + 1) xs) (sym is)

pub all_front : {X : Type 0} (P : X → Type 0) (xs ys : List X) → AllByRecursion P (xs ++ ys) → AllByRecursion P xs
all_front P [] ys h = tt
all_front P (x ∷ xs) ys h = (h.0, all_front P xs ys h.1)

pub all_back : {X : Type 0} (P : X → Type 0) (xs ys : List X) → AllByRecursion P (xs ++ ys) → AllByRecursion P ys
all_back P [] ys h = h
all_back P (x ∷ xs) ys h = all_back P xs ys h.1

pub all_both : {X : Type 0} (P : X → Type 0) (xs ys : List X) → AllByRecursion P xs → AllByRecursion P ys → AllByRecursion P (xs ++ ys)
all_both P [] ys h k = k
all_both P (x ∷ xs) ys h k = (h.0, all_both P xs ys h.1 k)

pub all_mapped : {X : Type 0} (P Q : X → Type 0) → ((x : X) → P x → Q x) → (xs : List X) → AllByRecursion P xs → AllByRecursion Q xs
all_mapped P Q f [] h = tt
all_mapped P Q f (x ∷ xs) h = (f x h.0, all_mapped P Q f xs h.1)

module _ {X K : Type 0} (c : K → K → Ordering) (key : X → K) where
  less_front : (x : X) (xs ys : List X) → AllByRecursion (λ k. c (key x) k ≡ Less) (map key (xs ++ ys)) → AllByRecursion (λ k. c (key x) k ≡ Less) (map key xs)
  less_front x [] ys h = tt
  less_front x (y ∷ xs) ys h = (h.0, less_front x xs ys h.1)

  pub less_middle : (x : X) (xs : List X) (y : X) (ys : List X) → AllByRecursion (λ k. c (key x) k ≡ Less) (map key (xs ++ y ∷ ys)) → c (key x) (key y) ≡ Less
  less_middle x [] y ys h = h.0
  less_middle x (z ∷ xs) y ys h = less_middle x xs y ys h.1

  pub sorted_front : (xs ys : List X) → IsStrictlySortedBy c (map key (xs ++ ys)) → IsStrictlySortedBy c (map key xs)
  unfolding IsStrictlySortedBy
  sorted_front [] ys h = tt
  sorted_front (x ∷ xs) ys h = (less_front x xs ys h.0, sorted_front xs ys h.1)

  pub sorted_back : (xs ys : List X) → IsStrictlySortedBy c (map key (xs ++ ys)) → IsStrictlySortedBy c (map key ys)
  unfolding IsStrictlySortedBy
  sorted_back [] ys h = h
  sorted_back (x ∷ xs) ys h = sorted_back xs ys h.1

pub none_left : {X : Type 0} (xs : List X) → length xs ≡ 0 → xs ≡ []
none_left [] h = refl
none_left (x ∷ xs) h = absurd (omega arith)
