-- A registry of a schema stays one, and ids keep rising, by each kind of change: of one subscription, of its end, and of one more.
use Rattle.std.proofs.Common.{◌≡◌, ◌≢◌, ℕ, suc, ◌+◌, ◌<◌, ◌≤◌, length, arith, List, [], ◌∷◌, ◌++◌, Bool, true, false, not, ◌||◌, Option, Some, None, refl, ap, sym, subst, ◌∙◌}
use Rattle.std.specs.Prelude.{All, cond, filter, nat_eq, nat_lt, unwrap_or}
use Rattle.std.specs.List.{AllPairs, list_any, range_with_len, slice_get}
use Rattle.std.specs.List.Sorted.{IsStrictlyIncreasing}
use Rattle.std.proofs.lemmas.Bool.{and_parts, eq-eqb, ltb-true, ltb-false}
use Rattle.std.proofs.lemmas.List.Elements.{All-cons, All-filter, All-from_recursion, All-head, All-map, All-nil, All-tail, All-weaker, recursion_from_All}
use Rattle.std.proofs.lemmas.List.Folds.{list_any-append}
use Rattle.std.proofs.lemmas.List.Kept.{AllPairs-cons, AllPairs-from_increasing, IsStrictlyIncreasing-filter}
use Rattle.std.proofs.lemmas.List.Sums.{sum_by-cons}
use Rattle.yp_base.specs.declared.notice.Trigger.{Trigger}
use Rattle.yp_base.specs.declared.notice.Trigger.TheVariants.{Periodic, OnChange}
use Rattle.yp_filter.specs.Filters.{Asked}
use Rattle.yp_filter.specs.Fits.{filter_fits}
use Rattle.yp_schema.specs.declared.schema.SchemaNode.{SchemaNode}
use Rattle.yp_time.specs.Ticks.{tick_limit}
use Rattle.yp_terms.specs.declared.ask.Amend.{Amend}
use Rattle.yp_terms.specs.declared.ask.Ask.{Ask}
use Rattle.yp_terms.specs.declared.ask.FilterAsk.{FilterAsk}
use Rattle.yp_terms.specs.Terms.{Terms, AreTermsOf, HasAnchor, IsFollowed, is_too_short}
use Rattle.yp_registry.specs.Registry.{Subscriptions, IsRegistryOf, feeds, most_feeds, next_id}
use Rattle.yp_registry.specs.Calls.{with_end, live_without}
use Rattle.yp_terms.specs.Amends.{given_filter, is_given_short, HasGivenAnchor, amended_trigger, amended_terms}
use Rattle.yp_registry.specs.Amending.{changed_terms, with_change}
use Rattle.yp_registry.specs.Configuring.{configured_terms, exceeds_feeds, in_order, is_asked, is_configurable, is_id_taken, numbers_named, with_configured}
use Rattle.yp_registry.specs.Ids.{HasRisingIds}
use Rattle.yp_registry.proofs.Establishing.{AskedFiltersFit, followed}
use Rattle.yp_registry.proofs.Numbers.{below_end, range_rises}
use Rattle.yp_registry.proofs.Rising.{ids}

-- ---- the live subscriptions

module _ (P : Terms → Type 0) where
  pub all_changed : (id : ℕ) (change : Terms → Terms) → ((terms : Terms) → P terms → P (change terms)) → (live : List Terms) → All P live → All P (changed_terms id change live)
  all_changed id change keeps [] all = all
  all_changed id change keeps (first ∷ live) all =
      elim (nat_eq id first.id) as (λ (is : Bool). All P (cond is (change first ∷ live) (first ∷ changed_terms id change live))) [
        | true ↦ All-cons P (change first) live (keeps first (All-head P first live all)) (All-tail P first live all)
        | false ↦ All-cons P first (changed_terms id change live) (All-head P first live all) (all_changed id change keeps live (All-tail P first live all))
      ]

  pub all_in_order : (new : Terms) (live : List Terms) → P new → All P live → All P (in_order new live)
  all_in_order new [] one all = All-cons P new [] one all
  all_in_order new (first ∷ live) one all =
      elim (nat_lt new.id first.id) as (λ (is : Bool). All P (cond is (new ∷ first ∷ live) (first ∷ in_order new live))) [
        | true ↦ All-cons P new (first ∷ live) one all
        | false ↦ All-cons P first (in_order new live) (All-head P first live all) (all_in_order new live one (All-tail P first live all))
      ]

abbrev count : Terms → ℕ
count terms = length terms.receivers

feeds_changed : (id : ℕ) (change : Terms → Terms) → ((terms : Terms) → (change terms).receivers ≡ terms.receivers) → (live : List Terms) → feeds (changed_terms id change live) ≡ feeds live
feeds_changed id change keeps [] = refl
feeds_changed id change keeps (first ∷ live) =
    let one : length (change first).receivers ≡ length first.receivers = ap length (keeps first) in
    let more : feeds (first ∷ live) ≡ length first.receivers + feeds live = sum_by-cons count first live in
    elim (nat_eq id first.id) as (λ (is : Bool). feeds (cond is (change first ∷ live) (first ∷ changed_terms id change live)) ≡ feeds (first ∷ live)) [
      | true ↦
          let other : feeds (change first ∷ live) ≡ length (change first).receivers + feeds live = sum_by-cons count (change first) live in
          omega (arith, one, more, other)
      | false ↦
          let other : feeds (first ∷ changed_terms id change live) ≡ length first.receivers + feeds (changed_terms id change live) = sum_by-cons count first (changed_terms id change live) in
          let rest : feeds (changed_terms id change live) ≡ feeds live = feeds_changed id change keeps live in
          omega (arith, more, other, rest)
    ]

feeds_without : (id : ℕ) (live : List Terms) → feeds (live_without id live) ≤ feeds live
feeds_without id [] = omega arith
feeds_without id (first ∷ live) =
    let more : feeds (first ∷ live) ≡ length first.receivers + feeds live = sum_by-cons count first live in
    let rest : feeds (live_without id live) ≤ feeds live = feeds_without id live in
    elim (nat_eq id first.id) as (λ (is : Bool). feeds (cond (not is) (first ∷ live_without id live) (live_without id live)) ≤ feeds (first ∷ live)) [
      | true ↦ omega (arith, more, rest)
      | false ↦
          let other : feeds (first ∷ live_without id live) ≡ length first.receivers + feeds (live_without id live) = sum_by-cons count first (live_without id live) in
          omega (arith, more, rest, other)
    ]

feeds_in_order : (new : Terms) (live : List Terms) → feeds (in_order new live) ≡ length new.receivers + feeds live
feeds_in_order new [] = sum_by-cons count new []
feeds_in_order new (first ∷ live) =
    let more : feeds (first ∷ live) ≡ length first.receivers + feeds live = sum_by-cons count first live in
    elim (nat_lt new.id first.id) as (λ (is : Bool). feeds (cond is (new ∷ first ∷ live) (first ∷ in_order new live)) ≡ length new.receivers + feeds (first ∷ live)) [
      | true ↦ sum_by-cons count new (first ∷ live)
      | false ↦
          let other : feeds (first ∷ in_order new live) ≡ length first.receivers + feeds (in_order new live) = sum_by-cons count first (in_order new live) in
          let rest : feeds (in_order new live) ≡ length new.receivers + feeds live = feeds_in_order new live in
          omega (arith, more, other, rest)
    ]

-- ---- registries of a schema

fits_given : AskedFiltersFit → (nodes : List SchemaNode) (filter : Option FilterAsk) (kept : Asked) → filter_fits nodes kept ≡ true → filter_fits nodes (unwrap_or (given_filter nodes filter) kept) ≡ true
fits_given fit nodes None kept is = is
fits_given fit nodes (Some filter) kept is = fit nodes filter

-- a kept trigger is followed, one that is given is where its period isn't too short, and another dampening period changes nothing of that
followed_amended : (now : ℕ) (given : Option Trigger) (kept : Trigger) → is_given_short given ≡ false → HasGivenAnchor given → now ≤ tick_limit → IsFollowed kept → IsFollowed (amended_trigger now given kept)
followed_amended now None kept long anchor late is = is
followed_amended now (Some (Periodic period anchored)) (Periodic before had) long anchor late is = followed (Periodic period anchored) now long anchor late
followed_amended now (Some (Periodic period anchored)) (OnChange dampening sync excluded) long anchor late is = is
followed_amended now (Some (OnChange dampening sync excluded)) (Periodic period (Some anchored)) long anchor late is = is
followed_amended now (Some (OnChange dampening sync excluded)) (Periodic period None) long anchor late is = is
followed_amended now (Some (OnChange dampening sync excluded)) (OnChange before had kinds) long anchor late is = is

module _ (fit : AskedFiltersFit) (nodes : List SchemaNode) (registry : Subscriptions) (amend : Amend) (now : ℕ) where
  amended_fits : is_given_short amend.trigger ≡ false → HasGivenAnchor amend.trigger → now ≤ tick_limit → (terms : Terms) → AreTermsOf nodes (length registry.users) terms → AreTermsOf nodes (length registry.users) (amended_terms nodes amend now terms)
  amended_fits long anchor late terms are = record {
    filter = fits_given fit nodes amend.filter terms.asked are.filter;
    trigger = followed_amended now amend.trigger terms.trigger long anchor late are.trigger;
    receivers = are.receivers;
    in_order = are.in_order;
  }

  pub amended_kept : (id : ℕ) → is_given_short amend.trigger ≡ false → HasGivenAnchor amend.trigger → now ≤ tick_limit → IsRegistryOf nodes registry → IsRegistryOf nodes (with_change id (amended_terms nodes amend now) registry)
  amended_kept id long anchor late is =
      let are : Terms → Type 0 = λ (terms : Terms). AreTermsOf nodes (length registry.users) terms in
      let same : feeds (changed_terms id (amended_terms nodes amend now) registry.live) ≡ feeds registry.live = feeds_changed id (amended_terms nodes amend now) (λ terms. refl) registry.live in
      record {
        terms = recursion_from_All are _ (all_changed are id (amended_terms nodes amend now) (amended_fits long anchor late) registry.live (All-from_recursion are registry.live is.terms));
        room = omega (arith, same, is.room);
        ids = is.ids;
      }

pub end_kept : (nodes : List SchemaNode) (registry : Subscriptions) (id : ℕ) → IsRegistryOf nodes registry → IsRegistryOf nodes (with_end id registry)
end_kept nodes registry id is =
    let are : Terms → Type 0 = λ (terms : Terms). AreTermsOf nodes (length registry.users) terms in
    let fewer : feeds (live_without id registry.live) ≤ feeds registry.live = feeds_without id registry.live in
    record {
      terms = recursion_from_All are _ (All-filter (λ (terms : Terms). not (nat_eq id terms.id)) are registry.live (All-from_recursion are registry.live is.terms));
      room = omega (arith, fewer, is.room);
      ids = is.ids;
    }

module _ (fit : AskedFiltersFit) (nodes : List SchemaNode) (registry : Subscriptions) (id : ℕ) (receivers : List (List ℕ)) (ask : Ask) (now : ℕ) where
  abbrev given_terms : Terms
  given_terms = configured_terms nodes registry id receivers ask now

  abbrev test : ℕ → Bool
  test number = is_asked receivers (slice_get registry.names number)

  configured_fits : is_too_short ask.trigger ≡ false → HasAnchor ask.trigger → now ≤ tick_limit → AreTermsOf nodes (length registry.users) given_terms
  configured_fits long anchor late =
      let below : ℕ → Type 0 = λ (number : ℕ). number < length registry.users in
      let numbers : List ℕ = range_with_len 0 (length registry.users) in
      record {
        filter = fit nodes ask.filter;
        trigger = followed ask.trigger now long anchor late;
        receivers = recursion_from_All below _ (All-filter test below numbers (All-from_recursion below numbers (below_end 0 (length registry.users) (length registry.users) (omega arith))));
        in_order = IsStrictlyIncreasing-filter test numbers (range_rises (length registry.users));
      }

  pub configured_kept : is_too_short ask.trigger ≡ false → exceeds_feeds registry.live (length (numbers_named registry receivers)) ≡ false → HasAnchor ask.trigger → now ≤ tick_limit
      → IsRegistryOf nodes registry → IsRegistryOf nodes (with_configured registry given_terms)
  configured_kept long few anchor late is =
      let are : Terms → Type 0 = λ (terms : Terms). AreTermsOf nodes (length registry.users) terms in
      let more : feeds (in_order given_terms registry.live) ≡ length given_terms.receivers + feeds registry.live = feeds_in_order given_terms registry.live in
      let room : feeds registry.live + length (numbers_named registry receivers) ≤ most_feeds = ltb-false _ _ few in
      record {
        terms = recursion_from_All are _ (all_in_order are given_terms registry.live (configured_fits long anchor late) (All-from_recursion are registry.live is.terms));
        room = omega (arith, more, room);
        ids = is.ids;
      }

-- ---- rising ids

ids_changed : (id : ℕ) (change : Terms → Terms) → ((terms : Terms) → (change terms).id ≡ terms.id) → (live : List Terms) → ids (changed_terms id change live) ≡ ids live
ids_changed id change keeps [] = refl
ids_changed id change keeps (first ∷ live) =
    elim (nat_eq id first.id) as (λ (is : Bool). ids (cond is (change first ∷ live) (first ∷ changed_terms id change live)) ≡ first.id ∷ ids live) [
      | true ↦ ap (λ (number : ℕ). number ∷ ids live) (keeps first)
      | false ↦ ap (λ (rest : List ℕ). first.id ∷ rest) (ids_changed id change keeps live)
    ]

pub change_rises : (registry : Subscriptions) (id : ℕ) (nodes : List SchemaNode) (amend : Amend) (now : ℕ) → HasRisingIds registry → HasRisingIds (with_change id (amended_terms nodes amend now) registry)
change_rises registry id nodes amend now is =
    let are : List ℕ → Type 0 = λ (numbers : List ℕ). IsStrictlyIncreasing numbers in
    let change : Terms → Terms = amended_terms nodes amend now in
    record {
      rising = subst are (sym (ids_changed id change (λ terms. refl) registry.live)) is.rising;
      below = all_changed (λ (terms : Terms). terms.id < next_id registry.given) id change (λ terms lower. lower) registry.live is.below;
      configured = all_changed (λ (terms : Terms). is_configurable terms.id ≡ true → is_id_taken terms.id registry ≡ true) id change (λ terms taken. taken) registry.live is.configured;
    }

ids_without : (id : ℕ) (live : List Terms) → ids (live_without id live) ≡ filter (λ (number : ℕ). not (nat_eq id number)) (ids live)
ids_without id [] = refl
ids_without id (first ∷ live) =
    elim (nat_eq id first.id) as (λ (is : Bool). ids (cond (not is) (first ∷ live_without id live) (live_without id live)) ≡ cond (not is) (first.id ∷ filter (λ (number : ℕ). not (nat_eq id number)) (ids live)) (filter (λ (number : ℕ). not (nat_eq id number)) (ids live))) [
      | true ↦ ids_without id live
      | false ↦ ap (λ (rest : List ℕ). first.id ∷ rest) (ids_without id live)
    ]

pub end_rises : (registry : Subscriptions) (id : ℕ) → HasRisingIds registry → HasRisingIds (with_end id registry)
end_rises registry id is =
    let are : List ℕ → Type 0 = λ (numbers : List ℕ). IsStrictlyIncreasing numbers in
    let test : Terms → Bool = λ (terms : Terms). not (nat_eq id terms.id) in
    record {
      rising = subst are (sym (ids_without id registry.live)) (IsStrictlyIncreasing-filter (λ (number : ℕ). not (nat_eq id number)) (ids registry.live) is.rising);
      below = All-filter test (λ (terms : Terms). terms.id < next_id registry.given) registry.live is.below;
      configured = All-filter test (λ (terms : Terms). is_configurable terms.id ≡ true → is_id_taken terms.id registry ≡ true) registry.live is.configured;
    }

-- a number in its place among others
abbrev put : ℕ → List ℕ → List ℕ
put x [] = x ∷ []
put x (y ∷ ys) = cond (nat_lt x y) (x ∷ y ∷ ys) (y ∷ put x ys)

ids_in_order : (new : Terms) (live : List Terms) → ids (in_order new live) ≡ put new.id (ids live)
ids_in_order new [] = refl
ids_in_order new (first ∷ live) =
    elim (nat_lt new.id first.id) as (λ (is : Bool). ids (cond is (new ∷ first ∷ live) (first ∷ in_order new live)) ≡ cond is (new.id ∷ first.id ∷ ids live) (first.id ∷ put new.id (ids live))) [
      | true ↦ refl
      | false ↦ ap (λ (rest : List ℕ). first.id ∷ rest) (ids_in_order new live)
    ]

all_put : (P : ℕ → Type 0) (x : ℕ) (xs : List ℕ) → P x → All P xs → All P (put x xs)
all_put P x [] one all = All-cons P x [] one all
all_put P x (y ∷ ys) one all =
    elim (nat_lt x y) as (λ (is : Bool). All P (cond is (x ∷ y ∷ ys) (y ∷ put x ys))) [
      | true ↦ All-cons P x (y ∷ ys) one all
      | false ↦ All-cons P y (put x ys) (All-head P y ys all) (all_put P x ys one (All-tail P y ys all))
    ]

abbrev Lower : ℕ → ℕ → Type 0
Lower x y = x < y

pairs_first : (x : ℕ) (xs : List ℕ) → AllPairs Lower (x ∷ xs) → All (Lower x) xs
pairs_first x xs pairs k other within = pairs 0 (suc k) other (omega arith) (omega (arith, within))

pairs_rest : (x : ℕ) (xs : List ℕ) → AllPairs Lower (x ∷ xs) → AllPairs Lower xs
pairs_rest x xs pairs i j other before within = pairs (suc i) (suc j) other (omega (arith, before)) (omega (arith, within))

pairs_put : (x : ℕ) (xs : List ℕ) → AllPairs Lower xs → All (λ (y : ℕ). y ≢ x) xs → AllPairs Lower (put x xs)
pairs_put x [] pairs differ = AllPairs-cons Lower x [] (All-nil (Lower x)) pairs
pairs_put x (y ∷ ys) pairs differ =
    let later : All (Lower y) ys = pairs_first y ys pairs in
    elim (nat_lt x y) as (λ (is : Bool). nat_lt x y ≡ is → AllPairs Lower (cond is (x ∷ y ∷ ys) (y ∷ put x ys))) [
      | true ↦ λ is.
          let lower : x < y = ltb-true x y is in
          AllPairs-cons Lower x (y ∷ ys) (All-cons (Lower x) y ys lower (All-weaker (Lower y) (Lower x) (λ z past. omega (arith, past, lower)) ys later)) pairs
      | false ↦ λ is.
          let other : y ≢ x = All-head (λ (z : ℕ). z ≢ x) y ys differ in
          let lower : y < x = omega (arith, other, ltb-false x y is) in
          AllPairs-cons Lower y (put x ys) (all_put (Lower y) x ys lower later) (pairs_put x ys (pairs_rest y ys pairs) (All-tail (λ (z : ℕ). z ≢ x) y ys differ))
    ] refl

-- an id that none has keeps them rising
rising_put : (x : ℕ) (xs : List ℕ) → IsStrictlyIncreasing xs → All (λ (y : ℕ). y ≢ x) xs → IsStrictlyIncreasing (put x xs)
rising_put x xs rising differ k within = pairs_put x xs (AllPairs-from_increasing xs rising) differ k (k + 1) 0 (omega arith) within

-- an id that can be configured and isn't taken is none of a live subscription
pub none_has : (registry : Subscriptions) (id : ℕ) → HasRisingIds registry → is_configurable id ≡ true → is_id_taken id registry ≡ false → All (λ (terms : Terms). terms.id ≢ id) registry.live
none_has registry id is early free =
    All-weaker (λ (terms : Terms). is_configurable terms.id ≡ true → is_id_taken terms.id registry ≡ true) (λ (terms : Terms). terms.id ≢ id)
    (λ terms taken same.
    let there : is_id_taken terms.id registry ≡ true = taken (ap is_configurable same ∙ early) in
    let both : true ≡ false = sym there ∙ (ap (λ (number : ℕ). is_id_taken number registry) same ∙ free) in
    cc)
    registry.live is.configured

any_before : (test : ℕ → Bool) (xs ys : List ℕ) → list_any test xs ≡ true → list_any test (xs ++ ys) ≡ true
any_before test xs ys is = list_any-append test xs ys ∙ ap (λ (b : Bool). b || list_any test ys) is

any_last : (test : ℕ → Bool) (x : ℕ) → test x ≡ true → (xs : List ℕ) → list_any test (xs ++ x ∷ []) ≡ true
any_last test x is [] = ap (λ (b : Bool). b || false) is
any_last test x is (y ∷ ys) =
    let rest : list_any test (ys ++ x ∷ []) ≡ true = any_last test x is ys in
    elim (test y) as (λ (b : Bool). (b || list_any test (ys ++ x ∷ [])) ≡ true) [
      | true ↦ refl
      | false ↦ rest
    ]

-- what is taken stays so, and a new id is taken
pub taken_stays : (registry : Subscriptions) (new : Terms) (id : ℕ) → is_id_taken id registry ≡ true → is_id_taken id (with_configured registry new) ≡ true
taken_stays registry new id is = any_before (λ (other : ℕ). nat_eq other id) registry.taken (new.id ∷ []) is

pub taken_now : (registry : Subscriptions) (new : Terms) → is_id_taken new.id (with_configured registry new) ≡ true
taken_now registry new = any_last (λ (other : ℕ). nat_eq other new.id) new.id (eq-eqb new.id new.id refl) registry.taken

pub configured_rises : (registry : Subscriptions) (new : Terms) → is_configurable new.id ≡ true → is_id_taken new.id registry ≡ false → HasRisingIds registry → HasRisingIds (with_configured registry new)
configured_rises registry new early free is =
    let are : List ℕ → Type 0 = λ (numbers : List ℕ). IsStrictlyIncreasing numbers in
    let differ : All (λ (number : ℕ). number ≢ new.id) (ids registry.live) = All-map (λ (number : ℕ). number ≢ new.id) (λ (terms : Terms). terms.id) registry.live (none_has registry new.id is early free) in
    let parts = and_parts (nat_lt 0 new.id) (nat_lt new.id (next_id 0)) early in
    let lower : new.id < next_id 0 = ltb-true _ _ parts.1 in
    let taken : Terms → Type 0 = λ (terms : Terms). is_configurable terms.id ≡ true → is_id_taken terms.id (with_configured registry new) ≡ true in
    record {
      rising = subst are (sym (ids_in_order new registry.live)) (rising_put new.id (ids registry.live) is.rising differ);
      below = all_in_order (λ (terms : Terms). terms.id < next_id registry.given) new registry.live (omega (arith, lower)) is.below;
      configured = all_in_order taken new registry.live (λ _. taken_now registry new)
          (All-weaker (λ (terms : Terms). is_configurable terms.id ≡ true → is_id_taken terms.id registry ≡ true) taken (λ terms was here. taken_stays registry new terms.id (was here)) registry.live is.configured);
    }
