-- What is found by an id after a change, after an end and beside new terms.
use Rattle.std.proofs.Common.{◌≡◌, ◌≢◌, ℕ, List, [], ◌∷◌, Bool, true, false, not, Option, Some, None, refl, ap, sym, ◌∙◌}
use Rattle.std.specs.Prelude.{All, cond, nat_eq, nat_lt, option_map}
use Rattle.std.proofs.lemmas.Bool.{eqb-true, eq-eqb}
use Rattle.std.proofs.lemmas.List.Elements.{All-head, All-tail}
use Rattle.yp_terms.specs.Terms.{Terms}
use Rattle.yp_registry.specs.Registry.{live_at}
use Rattle.yp_registry.specs.Calls.{live_without}
use Rattle.yp_registry.specs.Amending.{changed_terms}
use Rattle.yp_registry.specs.Configuring.{in_order}
use Rattle.yp_registry.proofs.Rising.{apart}

-- where no subscription has an id, none is found by it
pub none_of : (id : ℕ) (live : List Terms) → All (λ (terms : Terms). terms.id ≢ id) live → live_at id live ≡ None
none_of id [] differ = refl
none_of id (first ∷ live) differ =
    rw (apart id first.id (λ (same : id ≡ first.id). All-head (λ (terms : Terms). terms.id ≢ id) first live differ (sym same))) (none_of id live (All-tail (λ (terms : Terms). terms.id ≢ id) first live differ))

-- ---- a change that keeps the id

module _ (change : Terms → Terms) (keeps : (terms : Terms) → (change terms).id ≡ terms.id) (id : ℕ) where
  pub found_changed : (live : List Terms) → live_at id (changed_terms id change live) ≡ option_map change (live_at id live)
  found_changed [] = refl
  found_changed (first ∷ live) =
      elim (nat_eq id first.id) as (λ (is : Bool). nat_eq id first.id ≡ is → live_at id (cond is (change first ∷ live) (first ∷ changed_terms id change live)) ≡ option_map change (cond is (Some first) (live_at id live))) [
        | true ↦ λ is. rw (ap (nat_eq id) (keeps first) ∙ is) refl
        | false ↦ λ is. rw is (found_changed live)
      ] refl

  pub others_changed : (other : ℕ) → other ≢ id → (live : List Terms) → live_at other (changed_terms id change live) ≡ live_at other live
  others_changed other differ [] = refl
  others_changed other differ (first ∷ live) =
      elim (nat_eq id first.id) as (λ (is : Bool). nat_eq id first.id ≡ is → live_at other (cond is (change first ∷ live) (first ∷ changed_terms id change live)) ≡ live_at other (first ∷ live)) [
        | true ↦ λ is.
            let same : id ≡ first.id = eqb-true id first.id is in
            let here : nat_eq other first.id ≡ false = apart other first.id (λ (one : other ≡ first.id). differ (one ∙ sym same)) in
            rw (ap (nat_eq other) (keeps first) ∙ here, here) refl
        | false ↦ λ is. ap (λ (rest : Option Terms). cond (nat_eq other first.id) (Some first) rest) (others_changed other differ live)
      ] refl

-- ---- an end

module _ (id : ℕ) where
  pub found_without : (live : List Terms) → live_at id (live_without id live) ≡ None
  found_without [] = refl
  found_without (first ∷ live) =
      elim (nat_eq id first.id) as (λ (is : Bool). nat_eq id first.id ≡ is → live_at id (cond (not is) (first ∷ live_without id live) (live_without id live)) ≡ None) [
        | true ↦ λ is. found_without live
        | false ↦ λ is. rw is (found_without live)
      ] refl

  pub others_without : (other : ℕ) → other ≢ id → (live : List Terms) → live_at other (live_without id live) ≡ live_at other live
  others_without other differ [] = refl
  others_without other differ (first ∷ live) =
      elim (nat_eq id first.id) as (λ (is : Bool). nat_eq id first.id ≡ is → live_at other (cond (not is) (first ∷ live_without id live) (live_without id live)) ≡ live_at other (first ∷ live)) [
        | true ↦ λ is.
            let same : id ≡ first.id = eqb-true id first.id is in
            rw (apart other first.id (λ (one : other ≡ first.id). differ (one ∙ sym same))) (others_without other differ live)
        | false ↦ λ is. ap (λ (rest : Option Terms). cond (nat_eq other first.id) (Some first) rest) (others_without other differ live)
      ] refl

-- ---- new terms

pub found_in_order : (new : Terms) (live : List Terms) → live_at new.id live ≡ None → live_at new.id (in_order new live) ≡ Some new
found_in_order new [] none = rw (eq-eqb new.id new.id refl) refl
found_in_order new (first ∷ live) none =
    elim (nat_lt new.id first.id) as (λ (is : Bool). live_at new.id (cond is (new ∷ first ∷ live) (first ∷ in_order new live)) ≡ Some new) [
      | true ↦ rw (eq-eqb new.id new.id refl) refl
      | false ↦ elim (nat_eq new.id first.id) as (λ (is : Bool). cond is (Some first) (live_at new.id live) ≡ None → cond is (Some first) (live_at new.id (in_order new live)) ≡ Some new) [
        | true ↦ λ there. cc
        | false ↦ λ there. found_in_order new live there
      ] none
    ]

pub others_in_order : (new : Terms) (live : List Terms) (other : ℕ) → other ≢ new.id → live_at other (in_order new live) ≡ live_at other live
others_in_order new [] other differ = rw (apart other new.id differ) refl
others_in_order new (first ∷ live) other differ =
    elim (nat_lt new.id first.id) as (λ (is : Bool). live_at other (cond is (new ∷ first ∷ live) (first ∷ in_order new live)) ≡ live_at other (first ∷ live)) [
      | true ↦ rw (apart other new.id differ) refl
      | false ↦ ap (λ (rest : Option Terms). cond (nat_eq other first.id) (Some first) rest) (others_in_order new live other differ)
    ]
