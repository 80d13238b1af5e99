-- Where a live subscription is changed, and where one is put.
use Rattle.std.proofs.Common.{◌≡◌, ℕ, suc, ◌+◌, ◌<◌, ◌≤◌, length, get_or, set, arith, List, [], ◌∷◌, ◌++◌, Bool, true, false, not, Some, None, refl, ap, sym, ◌∙◌}
use Rattle.std.specs.Prelude.{cond, nat_eq, nat_lt}
use Rattle.std.specs.List.{insert, position, position_or_len}
use Rattle.std.proofs.lemmas.Bool.{ltb-true, ltb-false}
use Rattle.yp_terms.specs.Terms.{Terms}
use Rattle.yp_registry.specs.Amending.{changed_terms}
use Rattle.yp_registry.specs.Configuring.{in_order}

-- ---- the first place

some_place : (test : Terms → Bool) (live : List Terms) (place : ℕ) → position test live ≡ Some place → (position_or_len test live ≡ place) × (place < length live)
some_place test live place found =
    elim (nat_lt (position_or_len test live) (length live)) as (λ (is : Bool). nat_lt (position_or_len test live) (length live) ≡ is → cond is (Some (position_or_len test live)) None ≡ Some place → (position_or_len test live ≡ place) × (place < length live)) [
      | true ↦ λ is there.
          let same : position_or_len test live ≡ place = cc in
          let lower : position_or_len test live < length live = ltb-true _ _ is in
          (same, omega (arith, same, lower))
      | false ↦ λ is there. cc
    ] refl found

no_place : (test : Terms → Bool) (live : List Terms) → position test live ≡ None → length live ≤ position_or_len test live
no_place test live none =
    elim (nat_lt (position_or_len test live) (length live)) as (λ (is : Bool). nat_lt (position_or_len test live) (length live) ≡ is → cond is (Some (position_or_len test live)) None ≡ None → length live ≤ position_or_len test live) [
      | true ↦ λ is there. cc
      | false ↦ λ is there. ltb-false _ _ is
    ] refl none

-- ---- a change

module _ (id : ℕ) (change : Terms → Terms) where
  abbrev place_of : List Terms → ℕ
  place_of live = position_or_len (λ (terms : Terms). nat_eq id terms.id) live

  changed_there : (live : List Terms) (other : Terms) → place_of live < length live → set live (place_of live) (change (get_or live (place_of live) other)) ≡ changed_terms id change live
  changed_there [] other within = absurd (omega (arith, within))
  changed_there (first ∷ live) other within =
      let next : 1 + place_of live ≡ suc (place_of live) = omega arith in
      elim (nat_eq id first.id) as (λ (is : Bool). cond (not is) (1 + place_of live) 0 < suc (length live)
      → set (first ∷ live) (cond (not is) (1 + place_of live) 0) (change (get_or (first ∷ live) (cond (not is) (1 + place_of live) 0) other)) ≡ cond is (change first ∷ live) (first ∷ changed_terms id change live)) [
        | true ↦ λ there. refl
        | false ↦ λ there.
            ap (λ (number : ℕ). set (first ∷ live) number (change (get_or (first ∷ live) number other))) next
            ∙ ap (λ (rest : List Terms). first ∷ rest) (changed_there live other (omega (arith, there)))
      ] within

  -- the first of an id is changed
  pub changed_some : (live : List Terms) (place : ℕ) (other : Terms) → position (λ (terms : Terms). nat_eq id terms.id) live ≡ Some place → set live place (change (get_or live place other)) ≡ changed_terms id change live
  changed_some live place other found =
      let at = some_place (λ (terms : Terms). nat_eq id terms.id) live place found in
      ap (λ (number : ℕ). set live number (change (get_or live number other))) (sym at.0) ∙ changed_there live other (omega (arith, at.0, at.1))

  changed_nowhere : (live : List Terms) → length live ≤ place_of live → changed_terms id change live ≡ live
  changed_nowhere [] past = refl
  changed_nowhere (first ∷ live) past =
      elim (nat_eq id first.id) as (λ (is : Bool). suc (length live) ≤ cond (not is) (1 + place_of live) 0 → cond is (change first ∷ live) (first ∷ changed_terms id change live) ≡ first ∷ live) [
        | true ↦ λ there. absurd (omega (arith, there))
        | false ↦ λ there. ap (λ (rest : List Terms). first ∷ rest) (changed_nowhere live (omega (arith, there)))
      ] past

  -- where none has the id nothing is
  pub changed_none : (live : List Terms) → position (λ (terms : Terms). nat_eq id terms.id) live ≡ None → changed_terms id change live ≡ live
  changed_none live none = changed_nowhere live (no_place (λ (terms : Terms). nat_eq id terms.id) live none)

-- ---- one more

module _ (new : Terms) where
  abbrev place_past : List Terms → ℕ
  place_past live = position_or_len (λ (terms : Terms). nat_lt new.id terms.id) live

  inserted_there : (live : List Terms) → insert live (place_past live) new ≡ in_order new live
  inserted_there [] = refl
  inserted_there (first ∷ live) =
      let next : 1 + place_past live ≡ suc (place_past live) = omega arith in
      elim (nat_lt new.id first.id) as (λ (is : Bool). insert (first ∷ live) (cond (not is) (1 + place_past live) 0) new ≡ cond is (new ∷ first ∷ live) (first ∷ in_order new live)) [
        | true ↦ refl
        | false ↦ ap (λ (number : ℕ). insert (first ∷ live) number new) next ∙ ap (λ (rest : List Terms). first ∷ rest) (inserted_there live)
      ]

  -- what is put before the first of a higher id stands in order
  pub inserted_some : (live : List Terms) (place : ℕ) → position (λ (terms : Terms). nat_lt new.id terms.id) live ≡ Some place → insert live place new ≡ in_order new live
  inserted_some live place found =
      let at = some_place (λ (terms : Terms). nat_lt new.id terms.id) live place found in
      ap (λ (number : ℕ). insert live number new) (sym at.0) ∙ inserted_there live

  -- the place is in the list
  pub place_within : (live : List Terms) (place : ℕ) → position (λ (terms : Terms). nat_lt new.id terms.id) live ≡ Some place → place ≤ length live
  place_within live place found =
      let at = some_place (λ (terms : Terms). nat_lt new.id terms.id) live place found in
      omega (arith, at.1)

  pushed_there : (live : List Terms) → length live ≤ place_past live → live ++ new ∷ [] ≡ in_order new live
  pushed_there [] past = refl
  pushed_there (first ∷ live) past =
      elim (nat_lt new.id first.id) as (λ (is : Bool). suc (length live) ≤ cond (not is) (1 + place_past live) 0 → first ∷ (live ++ new ∷ []) ≡ cond is (new ∷ first ∷ live) (first ∷ in_order new live)) [
        | true ↦ λ there. absurd (omega (arith, there))
        | false ↦ λ there. ap (λ (rest : List Terms). first ∷ rest) (pushed_there live (omega (arith, there)))
      ] past

  -- where none has a higher id, what is appended does
  pub inserted_none : (live : List Terms) → position (λ (terms : Terms). nat_lt new.id terms.id) live ≡ None → live ++ new ∷ [] ≡ in_order new live
  inserted_none live none = pushed_there live (no_place (λ (terms : Terms). nat_lt new.id terms.id) live none)
