-- What a search among names in byte order finds.
use Rattle.std.proofs.Common.{◌≡◌, ℕ, zero, suc, ◌+◌, ◌<◌, List, [], ◌∷◌, length, get_or, nat_lt, true, false, ◌||◌, Result, Ok, Err, Less, Equal, Greater, refl, sym, ap, subst, ◌∙◌, arith}
use Rattle.std.specs.Prelude.{is_ok}
use Rattle.std.specs.Ordering.{is_lt, is_eq, nat_cmp, ordering_reverse}
use Rattle.std.specs.declared.cmp.Ordering.{Ordering}
use Rattle.std.specs.Cmp.Lexicographic.{slice_cmp, texts_ties, nat_list_cmp_total}
use Rattle.std.specs.List.Sorted.{IsSearchInRange, IsBinarySearchResult, IsSorted}
use Rattle.std.proofs.lemmas.Bool.{and_parts}
use Rattle.std.proofs.lemmas.List.Sorted.{searchable_from_sorted}
use Rattle.yp_base.specs.Types.{same_text, is_among, are_rising, are_names}

not_back : (one two : List ℕ) → is_lt (slice_cmp nat_cmp one two) ≡ true → is_lt (slice_cmp nat_cmp two one) ≡ false
not_back one two h =
    ap is_lt (nat_list_cmp_total.antisymm two one)
    ∙ elim (slice_cmp nat_cmp one two) as (λ r. is_lt r ≡ true → is_lt (ordering_reverse r) ≡ false) [
      | Less ↦ λ e. refl
      | Equal ↦ λ e. cc
      | Greater ↦ λ e. cc
    ] h

-- names that rise are sorted
rising_sorted : (names : List (List ℕ)) → are_rising names ≡ true → IsSorted (slice_cmp nat_cmp) names
rising_sorted [] h k d low high = absurd (omega arith)
rising_sorted (name ∷ []) h k d low high = absurd (omega arith)
rising_sorted (name ∷ next ∷ names) h zero d low high = not_back name next (and_parts _ _ h).0
rising_sorted (name ∷ next ∷ names) h (suc k) d low high =
    let at : suc (k + 1) ≡ suc k + 1 = omega arith in
    subst (λ n. is_lt (slice_cmp nat_cmp (get_or (name ∷ next ∷ names) n d) (get_or (next ∷ names) k d)) ≡ false) at (rising_sorted (next ∷ names) (and_parts _ _ h).1 k d (omega arith) (omega arith))

-- a text that ties with a name is among the names
tied_among : (text : List ℕ) (names : List (List ℕ)) (i : ℕ) → i < length names → same_text text (get_or names i text) ≡ true → is_among text names ≡ true
tied_among text [] i low e = absurd (omega arith)
tied_among text (name ∷ names) zero low e = ap (λ b. b || is_among text names) e
tied_among text (name ∷ names) (suc i) low e =
    elim (same_text text name) as (λ b. (b || is_among text names) ≡ true) [ true ↦ refl | false ↦ tied_among text names i (omega arith) e ]

apart_among : (text : List ℕ) (names : List (List ℕ)) → ((i : ℕ) → i < length names → same_text text (get_or names i text) ≡ false) → is_among text names ≡ false
apart_among text [] h = refl
apart_among text (name ∷ names) h = ap (λ b. b || is_among text names) (h 0 (omega arith)) ∙ apart_among text names (λ i low. h (suc i) (omega arith))

turned : (text name : List ℕ) (r : Ordering) → slice_cmp nat_cmp name text ≡ r → same_text text name ≡ is_eq (ordering_reverse r)
turned text name r is = texts_ties text name ∙ ap is_eq (nat_list_cmp_total.antisymm text name ∙ ap ordering_reverse is)

not_tied : (text name : List ℕ) (r : Ordering) → slice_cmp nat_cmp name text ≡ r → is_eq r ≡ false → same_text text name ≡ false
not_tied text name r is apart =
    turned text name r is ∙ elim r as (λ r. is_eq r ≡ false → is_eq (ordering_reverse r) ≡ false) [
      | Less ↦ λ e. refl
      | Equal ↦ λ e. e
      | Greater ↦ λ e. refl
    ] apart

rising_of : (names : List (List ℕ)) → are_names names ≡ true → are_rising names ≡ true
rising_of [] h = cc
rising_of (name ∷ names) h = (and_parts _ _ h).0

-- what a binary search answers of a text among the names of an enumeration
pub found_named : (text : List ℕ) (names : List (List ℕ)) (r : Result ℕ ℕ) → are_names names ≡ true → IsSearchInRange r (length names)
    → IsBinarySearchResult (λ name. slice_cmp nat_cmp name text) names r → is_ok r ≡ is_among text names
found_named text names (Ok i) are range found = sym (tied_among text names i range (turned text (get_or names i text) Equal (found text)))
found_named text names (Err i) are range found =
    let parts = found (searchable_from_sorted nat_list_cmp_total (λ name. name) names text (rising_sorted names (rising_of names are))) in
    sym (apart_among text names (λ k low.
    elim (nat_lt k i) as (λ b. nat_lt k i ≡ b → same_text text (get_or names k text) ≡ false) [
      | true ↦ λ e. not_tied text (get_or names k text) Less (parts.0 k text (omega arith) (grind (arith, e))) refl
      | false ↦ λ e. not_tied text (get_or names k text) Greater (parts.1 k text (grind (arith, e)) low) refl
    ] refl))
