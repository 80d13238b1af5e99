-- Names that are sorted are those put at their places one by one.
use Rattle.std.proofs.Common.{◌≡◌, ℕ, zero, suc, ◌+◌, ◌<◌, List, [], ◌∷◌, length, get_or, set, nat_eq, Bool, true, false, cond, ◌&&◌, refl, sym, ap, subst, ◌∙◌, Less, Equal, Greater, arith}
use Rattle.std.specs.List.{swap, IsAllAdjacentAnswer}
use Rattle.std.specs.List.Sorted.{IsSorted, IsPermutation}
use Rattle.std.specs.Ordering.{is_lt, is_eq, nat_cmp, ordering_reverse}
use Rattle.std.specs.Cmp.Lexicographic.{slice_cmp, nat_list_cmp_total}
use Rattle.std.proofs.lemmas.Bool.{and_from}
use Rattle.std.proofs.lemmas.Cmp.{tied_itself}
use Rattle.std.proofs.lemmas.Grind.{get_or-set_at}
use Rattle.std.proofs.lemmas.List.{get_or-set_other, length-set}
use Rattle.std.proofs.lemmas.List.Sorted.{IsPermutation-keeps}
use Rattle.std.proofs.lemmas.Map.Lookups.{exact_bytes}
use Rattle.yp_base.specs.Types.{are_rising}
use Rattle.yp_value.specs.Enumerations.{put_name, in_byte_order}
use Rattle.yp_base.specs.PathLaws.{less_told}

-- whether a name comes before another
abbrev lt : List ℕ → List ℕ → Bool
lt a b = is_lt (slice_cmp nat_cmp a b)

turned : (a b : List ℕ) → slice_cmp nat_cmp b a ≡ ordering_reverse (slice_cmp nat_cmp a b)
turned a b = nat_list_cmp_total.antisymm b a

-- of what comes before one name and not before another, the other comes before the one
between : (x a b : List ℕ) → lt x b ≡ true → lt x a ≡ false → lt a b ≡ true
between x a b below apart =
    elim (slice_cmp nat_cmp x a) as (λ r. slice_cmp nat_cmp x a ≡ r → is_lt r ≡ false → lt a b ≡ true) [
      | Less ↦ λ is h. cc
      | Equal ↦ λ is h. ap (λ y. lt y b) (sym (exact_bytes x a is)) ∙ below
      | Greater ↦ λ is h. ap is_lt (nat_list_cmp_total.trans a x b (turned x a ∙ ap ordering_reverse is) (less_told _ below))
    ] refl apart

one_name : (a b : List ℕ) → lt a b ≡ false → lt b a ≡ false → a ≡ b
one_name a b h k =
    elim (slice_cmp nat_cmp a b) as (λ r. slice_cmp nat_cmp a b ≡ r → is_lt r ≡ false → a ≡ b) [
      | Less ↦ λ is e. cc
      | Equal ↦ λ is e. exact_bytes a b is
      | Greater ↦ λ is e. let back : lt b a ≡ true = ap is_lt (turned a b ∙ ap ordering_reverse is) in cc
    ] refl h

not_both : (a b : List ℕ) → lt a b ≡ true → lt b a ≡ false
not_both a b h = ap is_lt (turned a b ∙ ap ordering_reverse (less_told _ h))

two_names : (a b : List ℕ) (rest : List (List ℕ)) → cond (lt b a) (b ∷ a ∷ rest) (a ∷ b ∷ rest) ≡ cond (lt a b) (a ∷ b ∷ rest) (b ∷ a ∷ rest)
two_names a b rest =
    elim (lt b a) as (λ t. lt b a ≡ t → cond t (b ∷ a ∷ rest) (a ∷ b ∷ rest) ≡ cond (lt a b) (a ∷ b ∷ rest) (b ∷ a ∷ rest)) [
      | true ↦ λ is. ap (λ t. cond t (a ∷ b ∷ rest) (b ∷ a ∷ rest)) (sym (not_both b a is))
      | false ↦ λ is. elim (lt a b) as (λ t. lt a b ≡ t → a ∷ b ∷ rest ≡ cond t (a ∷ b ∷ rest) (b ∷ a ∷ rest)) [
        | true ↦ λ k. refl
        | false ↦ λ k. let same = one_name a b k is in (λ i. same i ∷ sym same i ∷ rest)
      ] refl
    ] refl

-- two names are put in either order
put_either : (a b : List ℕ) (names : List (List ℕ)) → put_name a (put_name b names) ≡ put_name b (put_name a names)
put_either a b [] = two_names a b []
put_either a b (x ∷ xs) =
    elim (lt x b) as (λ q. lt x b ≡ q → put_name a (cond q (x ∷ put_name b xs) (b ∷ x ∷ xs)) ≡ put_name b (put_name a (x ∷ xs))) [
      | true ↦ λ below_b. elim (lt x a) as (λ p. lt x a ≡ p → cond p (x ∷ put_name a (put_name b xs)) (a ∷ x ∷ put_name b xs) ≡ put_name b (cond p (x ∷ put_name a xs) (a ∷ x ∷ xs))) [
        | true ↦ λ below_a.
            ap (λ names. x ∷ names) (put_either a b xs) ∙ ap (λ t. cond t (x ∷ put_name b (put_name a xs)) (b ∷ x ∷ put_name a xs)) (sym below_b)
        | false ↦ λ above_a.
            ap (λ t. a ∷ cond t (x ∷ put_name b xs) (b ∷ x ∷ xs)) (sym below_b) ∙ ap (λ t. cond t (a ∷ put_name b (x ∷ xs)) (b ∷ a ∷ x ∷ xs)) (sym (between x a b below_b above_a))
      ] refl
      | false ↦ λ above_b. elim (lt x a) as (λ p. lt x a ≡ p → cond (lt b a) (b ∷ cond p (x ∷ put_name a xs) (a ∷ x ∷ xs)) (a ∷ b ∷ x ∷ xs) ≡ put_name b (cond p (x ∷ put_name a xs) (a ∷ x ∷ xs))) [
        | true ↦ λ below_a.
            ap (λ t. cond t (b ∷ x ∷ put_name a xs) (a ∷ b ∷ x ∷ xs)) (between x b a below_a above_b) ∙ ap (λ t. cond t (x ∷ put_name b (put_name a xs)) (b ∷ x ∷ put_name a xs)) (sym above_b)
        | false ↦ λ above_a.
            two_names a b (x ∷ xs) ∙ ap (λ t. cond (lt a b) (a ∷ cond t (x ∷ put_name b xs) (b ∷ x ∷ xs)) (b ∷ a ∷ x ∷ xs)) (sym above_b)
      ] refl
    ] refl

-- the names without one
without : List ℕ → List (List ℕ) → List (List ℕ)
without a [] = []
without a (x ∷ xs) = cond (is_eq (slice_cmp nat_cmp a x)) xs (x ∷ without a xs)

without_put : (a : List ℕ) (names : List (List ℕ)) → without a (put_name a names) ≡ names
unfolding without
without_put a [] = ap (λ r. cond (is_eq r) [] (a ∷ [])) (tied_itself nat_list_cmp_total a)
without_put a (x ∷ xs) =
    elim (lt x a) as (λ t. lt x a ≡ t → without a (cond t (x ∷ put_name a xs) (a ∷ x ∷ xs)) ≡ x ∷ xs) [
      | true ↦ λ is.
          ap (λ r. cond (is_eq r) (put_name a xs) (x ∷ without a (put_name a xs))) (turned x a ∙ ap ordering_reverse (less_told _ is))
          ∙ ap (λ names. x ∷ names) (without_put a xs)
      | false ↦ λ is. ap (λ r. cond (is_eq r) (x ∷ xs) (a ∷ without a (x ∷ xs))) (tied_itself nat_list_cmp_total a)
    ] refl

put_cancels : (a : List ℕ) (one two : List (List ℕ)) → put_name a one ≡ put_name a two → one ≡ two
put_cancels a one two e = sym (without_put a one) ∙ ap (without a) e ∙ without_put a two

-- a name in the place of another
put_set : (names : List (List ℕ)) (i : ℕ) (v d : List ℕ) → i < length names → put_name (get_or names i d) (in_byte_order (set names i v)) ≡ put_name v (in_byte_order names)
put_set [] i v d h = absurd (omega arith)
put_set (x ∷ xs) zero v d h = put_either x v (in_byte_order xs)
put_set (x ∷ xs) (suc i) v d h =
    put_either (get_or xs i d) x (in_byte_order (set xs i v)) ∙ ap (put_name x) (put_set xs i v d (omega arith)) ∙ put_either x v (in_byte_order xs)

swapped : (names : List (List ℕ)) (i j : ℕ) (d : List ℕ) → i < length names → j < length names
    → in_byte_order (set (set names i (get_or names j d)) j (get_or names i d)) ≡ in_byte_order names
swapped names i j d h k =
    let a = get_or names i d in
    let b = get_or names j d in
    let set_one : List (List ℕ) = set names i b in
    let at : get_or set_one j d ≡ b =
    elim (nat_eq j i) as (λ t. nat_eq j i ≡ t → get_or set_one j d ≡ b) [
      | true ↦ λ is. get_or-set_at names i j b d (grind (arith, is)) h
      | false ↦ λ is. get_or-set_other names i j b d (grind (arith, is))
    ] refl in
    let low : j < length set_one = omega (arith, length-set names i b) in
    put_cancels b (in_byte_order (set set_one j a)) (in_byte_order names)
    (ap (λ x. put_name x (in_byte_order (set set_one j a))) (sym at) ∙ put_set set_one j a d low ∙ put_set names i b d h)

swap_keeps : (names : List (List ℕ)) (i j : ℕ) → i < length names → j < length names → in_byte_order (swap names i j) ≡ in_byte_order names
swap_keeps [] i j h k = refl
swap_keeps (d ∷ names) i j h k = swapped (d ∷ names) i j d h k

next_sorted : (x : List ℕ) (xs : List (List ℕ)) → IsSorted (slice_cmp nat_cmp) (x ∷ xs) → IsSorted (slice_cmp nat_cmp) xs
next_sorted x xs h k d low high =
    let at : suc k + 1 ≡ suc (k + 1) = omega arith in
    subst (λ n. is_lt (slice_cmp nat_cmp (get_or (x ∷ xs) n d) (get_or xs k d)) ≡ false) at (h (suc k) d (omega arith) (omega arith))

sorted_stays : (names : List (List ℕ)) → IsSorted (slice_cmp nat_cmp) names → in_byte_order names ≡ names
sorted_stays [] h = refl
sorted_stays (x ∷ []) h = refl
sorted_stays (x ∷ y ∷ ys) h =
    ap (put_name x) (sorted_stays (y ∷ ys) (next_sorted x (y ∷ ys) h)) ∙ ap (λ t. cond t (y ∷ put_name x ys) (x ∷ y ∷ ys)) (h 0 x (omega arith) (omega arith))

-- what a sort gives
pub sorted_is : (names sorted : List (List ℕ)) → IsPermutation names sorted → IsSorted (slice_cmp nat_cmp) sorted → sorted ≡ in_byte_order names
sorted_is names sorted same order =
    sym (sorted_stays sorted order) ∙ IsPermutation-keeps names (λ l. in_byte_order l ≡ in_byte_order names) refl (λ l i j h k e. swap_keeps l i j h k ∙ e) sorted same

-- ---- the test that names rise

all_rise : (names : List (List ℕ)) → ((k : ℕ) (d : List ℕ) → k + 1 < length names → true ≡ lt (get_or names k d) (get_or names (k + 1) d)) → are_rising names ≡ true
all_rise [] h = refl
all_rise (x ∷ []) h = refl
all_rise (x ∷ y ∷ ys) h =
    and_from _ _ (sym (h 0 x (omega arith))) (all_rise (y ∷ ys) (λ k d high.
    let at : suc k + 1 ≡ suc (k + 1) = omega arith in
    subst (λ n. true ≡ lt (get_or (y ∷ ys) k d) (get_or (x ∷ y ∷ ys) n d)) at (h (suc k) d (omega arith))))

one_falls : (names : List (List ℕ)) (k : ℕ) → k + 1 < length names → ((d : List ℕ) → false ≡ lt (get_or names k d) (get_or names (k + 1) d)) → are_rising names ≡ false
one_falls [] k high h = absurd (omega arith)
one_falls (x ∷ []) k high h = absurd (omega arith)
one_falls (x ∷ y ∷ ys) zero high h = ap (λ t. t && are_rising (y ∷ ys)) (sym (h x))
one_falls (x ∷ y ∷ ys) (suc k) high h =
    let at : suc k + 1 ≡ suc (k + 1) = omega arith in
    let later = one_falls (y ∷ ys) k (omega arith) (λ d. subst (λ n. false ≡ lt (get_or (y ∷ ys) k d) (get_or (x ∷ y ∷ ys) n d)) at (h d)) in
    elim (lt x y) as (λ t. (t && are_rising (y ∷ ys)) ≡ false) [ true ↦ later | false ↦ refl ]

-- what `is_sorted_by` answers of names
pub rising_told : (names : List (List ℕ)) (r : Bool) → IsAllAdjacentAnswer (λ x y b. b ≡ is_lt (slice_cmp nat_cmp x y)) names r → r ≡ are_rising names
rising_told names true h = sym (all_rise names h)
rising_told names false h = sym (one_falls names h.0 h.1 h.2)
