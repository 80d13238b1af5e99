-- Ids rise, and none is given twice.
use Rattle.std.proofs.Common.{◌≡◌, ℕ, ◌+◌, ◌<◌, ◌≤◌, ◌∷◌, [], List, ◌++◌, length, get_or, map, Bool, true, false, Option, Some, None, Ok, Err, ◌≢◌, refl, arith, sym, ap, subst, ◌∙◌}
use Rattle.std.specs.Prelude.{All, cond, nat_eq, nat_lt}
use Rattle.std.specs.List.Sorted.{IsStrictlyIncreasing}
use Rattle.std.proofs.Math.Seq.{get_or-append_seam}
use Rattle.std.proofs.lemmas.Bool.{and_parts, eqb-true, eq-eqb, ltb-true, ltb-false}
use Rattle.std.proofs.lemmas.List.{get_or_append_left, length_push, map-append}
use Rattle.std.proofs.lemmas.List.Elements.{All-map, All-push, All-tail, All-weaker}
use Rattle.yp_nacm.specs.declared.policy.Policy.{Policy}
use Rattle.yp_schema.specs.declared.schema.SchemaNode.{SchemaNode}
use Rattle.yp_terms.specs.declared.ask.Ask.{Ask}
use Rattle.yp_terms.specs.declared.refused.Refused.{Refused}
use Rattle.yp_terms.specs.Terms.{Terms}
use Rattle.yp_terms.specs.Refusals.{first_refusal, or_refused}
use Rattle.yp_terms.specs.RefusalLaws.{not_refused}
use Rattle.yp_registry.specs.Registry.{Subscriptions, no_subscriptions, live_at, next_id, reasons_against, terms_for, with_terms, after_refusal, established, establish_answer}
use Rattle.yp_registry.specs.Configuring.{is_configurable, is_id_taken}
use Rattle.yp_registry.specs.Ids.{HasRisingIds}
use Rattle.yp_registry.proofs.Establishing.{given_state}

-- ---- ids

abbrev pub ids : List Terms → List ℕ
ids live = map (λ (terms : Terms). terms.id) live

-- a number past all others keeps them rising
past_all : (xs : List ℕ) (x : ℕ) → IsStrictlyIncreasing xs → All (λ (y : ℕ). y < x) xs → IsStrictlyIncreasing (xs ++ x ∷ [])
past_all xs x rising below k within =
    let long : length (xs ++ x ∷ []) ≡ length xs + 1 = length_push xs x in
    let inside : k < length xs = omega (arith, long, within) in
    let here : get_or (xs ++ x ∷ []) k 0 ≡ get_or xs k 0 = get_or_append_left xs (x ∷ []) 0 k inside in
    elim (nat_lt (k + 1) (length xs)) as (λ (more : Bool). nat_lt (k + 1) (length xs) ≡ more → get_or (xs ++ x ∷ []) k 0 < get_or (xs ++ x ∷ []) (k + 1) 0) [
      | true ↦ λ is.
          let more : k + 1 < length xs = ltb-true _ _ is in
          let next : get_or (xs ++ x ∷ []) (k + 1) 0 ≡ get_or xs (k + 1) 0 = get_or_append_left xs (x ∷ []) 0 (k + 1) more in
          omega (arith, here, next, rising k more)
      | false ↦ λ is.
          let last : k + 1 ≡ length xs = omega (arith, inside, ltb-false _ _ is) in
          let next : get_or (xs ++ x ∷ []) (k + 1) 0 ≡ x = ap (λ (n : ℕ). get_or (xs ++ x ∷ []) n 0) last ∙ get_or-append_seam xs x [] 0 in
          omega (arith, here, next, below k 0 inside)
    ] refl

-- an id past all others keeps them rising
rising_push : (live : List Terms) (new : Terms) → IsStrictlyIncreasing (ids live) → All (λ (terms : Terms). terms.id < new.id) live → IsStrictlyIncreasing (ids (live ++ new ∷ []))
rising_push live new rising lower =
    let are : List ℕ → Type 0 = λ xs. IsStrictlyIncreasing xs in
    subst are (sym (map-append (λ (terms : Terms). terms.id) live (new ∷ []))) (past_all (ids live) new.id rising (All-map (λ (id : ℕ). id < new.id) (λ (terms : Terms). terms.id) live lower))

-- ---- look-ups

module _ (id : ℕ) where
  pub apart : (other : ℕ) → id ≢ other → nat_eq id other ≡ false
  apart other differ = elim (nat_eq id other) as (λ (same : Bool). nat_eq id other ≡ same → same ≡ false) [
    | true ↦ λ is. absurd (differ (eqb-true id other is))
    | false ↦ λ is. refl
  ] refl

  -- no subscription that has a lower id is found
  pub none_at : (live : List Terms) → All (λ (terms : Terms). terms.id < id) live → live_at id live ≡ None
  none_at [] below = refl
  none_at (first ∷ live) below =
      let lower : first.id < id = below 0 first (omega arith) in
      rw (apart first.id (λ (same : id ≡ first.id). omega (arith, same, lower))) (none_at live (All-tail (λ (terms : Terms). terms.id < id) first live below))

  -- one that is appended is found where none was
  pub at_end : (live : List Terms) (new : Terms) → id ≡ new.id → live_at id live ≡ None → live_at id (live ++ new ∷ []) ≡ Some new
  at_end [] new same none = rw (eq-eqb id new.id same) refl
  at_end (first ∷ live) new same none =
      elim (nat_eq id first.id) as (λ (is : Bool). cond is (Some first) (live_at id live) ≡ None → cond is (Some first) (live_at id (live ++ new ∷ [])) ≡ Some new) [
        | true ↦ λ h. cc
        | false ↦ λ h. at_end live new same h
      ] none

  -- of another id it changes nothing
  pub other_at : (live : List Terms) (new : Terms) → id ≢ new.id → live_at id (live ++ new ∷ []) ≡ live_at id live
  other_at [] new differ = rw (apart new.id differ) refl
  other_at (first ∷ live) new differ = ap (λ (rest : Option Terms). cond (nat_eq id first.id) (Some first) rest) (other_at live new differ)

-- ---- registries

pub rising_first : (users names : List (List ℕ)) → HasRisingIds (no_subscriptions users names)
rising_first users names = record { rising = λ k within. absurd (omega (arith, within)); below = λ k other within. absurd (omega (arith, within)); configured = λ k other within. absurd (omega (arith, within)) }

-- the next id can't be configured
past_configurable : (given id : ℕ) → id ≡ next_id given → is_configurable id ≡ true → ⊥
past_configurable given id next early =
    let parts = and_parts (nat_lt 0 id) (nat_lt id (next_id 0)) early in
    let lower : id < next_id 0 = ltb-true _ _ parts.1 in
    omega (arith, next, lower)

-- a subscription of the next id keeps ids rising
with_next : (registry : Subscriptions) (new : Terms) → new.id ≡ next_id registry.given → HasRisingIds registry → HasRisingIds (with_terms registry new)
with_next registry new next is =
    let lower : All (λ (terms : Terms). terms.id < new.id) registry.live =
    All-weaker (λ (terms : Terms). terms.id < next_id registry.given) (λ (terms : Terms). terms.id < new.id) (λ terms low. omega (arith, next, low)) registry.live is.below in
    let later : All (λ (terms : Terms). terms.id < next_id (registry.given + 1)) registry.live =
    All-weaker (λ (terms : Terms). terms.id < next_id registry.given) (λ (terms : Terms). terms.id < next_id (registry.given + 1)) (λ terms low. omega (arith, low)) registry.live is.below in
    record {
      rising = rising_push registry.live new is.rising lower;
      below = All-push (λ (terms : Terms). terms.id < next_id (registry.given + 1)) registry.live new later (omega (arith, next));
      configured = All-push (λ (terms : Terms). is_configurable terms.id ≡ true → is_id_taken terms.id registry ≡ true) registry.live new is.configured (λ early. absurd (past_configurable registry.given new.id next early));
    }

-- no live subscription has the next id
pub fresh : (registry : Subscriptions) → HasRisingIds registry → live_at (next_id registry.given) registry.live ≡ None
fresh registry is = none_at (next_id registry.given) registry.live is.below

module _ (nodes : List SchemaNode) (policy : Policy) (registry : Subscriptions) (by : ℕ) (ask : Ask) (now : ℕ) where
  abbrev refusal : Option Refused
  refusal = first_refusal (reasons_against nodes policy registry by ask)

  abbrev new : Terms
  new = terms_for nodes registry by ask now

  abbrev after : Option Refused → Subscriptions
  after refused = after_refusal refused registry new

  pub rising_kept : HasRisingIds registry → HasRisingIds (established nodes policy registry by ask now)
  rising_kept is = elim refusal as (λ (refused : Option Refused). HasRisingIds (after refused)) [
    | Some refused ↦ is
    | None ↦ with_next registry new refl is
  ]

  pub never_falls : registry.given ≤ (established nodes policy registry by ask now).given
  never_falls = elim refusal as (λ (refused : Option Refused). registry.given ≤ (after refused).given) [
    | Some refused ↦ omega arith
    | None ↦ omega arith
  ]

  pub next_given : (id : ℕ) → establish_answer nodes policy registry by ask now ≡ Ok id → (id ≡ next_id registry.given) × (id < next_id (established nodes policy registry by ask now).given)
  next_given id answer =
      let free = not_refused refusal (next_id registry.given) id answer in
      let more : (established nodes policy registry by ask now).given ≡ registry.given + 1 = sym (ap (λ (r : Subscriptions). r.given) (given_state nodes policy registry by ask now free.0)) in
      (sym free.1, omega (arith, more, free.1))

  pub found : (id : ℕ) → HasRisingIds registry → establish_answer nodes policy registry by ask now ≡ Ok id → live_at id (established nodes policy registry by ask now).live ≡ Some new
  found id is answer =
      let free = not_refused refusal (next_id registry.given) id answer in
      let there : live_at (next_id registry.given) (with_terms registry new).live ≡ Some new = at_end (next_id registry.given) registry.live new refl (fresh registry is) in
      ap (λ (r : Subscriptions). live_at id r.live) (sym (given_state nodes policy registry by ask now free.0))
      ∙ ap (λ (number : ℕ). live_at number (with_terms registry new).live) (sym free.1)
      ∙ there

  pub others_stay : (other : ℕ) → other ≢ next_id registry.given → live_at other (established nodes policy registry by ask now).live ≡ live_at other registry.live
  others_stay other differ = elim refusal as (λ (refused : Option Refused). live_at other (after refused).live ≡ live_at other registry.live) [
    | Some refused ↦ refl
    | None ↦ other_at other registry.live new differ
  ]

  pub refusal_leaves : (refused : Refused) → establish_answer nodes policy registry by ask now ≡ Err refused → established nodes policy registry by ask now ≡ registry
  refusal_leaves refused answer =
      elim refusal as (λ (r : Option Refused). or_refused r (next_id registry.given) ≡ Err refused → after r ≡ registry) [
        | Some r ↦ λ h. refl
        | None ↦ λ h. cc
      ] answer
