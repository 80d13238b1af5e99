-- What an establishment that no reason speaks against leaves.
use Rattle.std.proofs.Common.{◌≡◌, ℕ, ◌+◌, ◌<◌, ◌≤◌, ◌∷◌, [], List, ◌++◌, length, true, false, Option, Some, None, Ok, Err, refl, arith, sym, ap}
use Rattle.std.specs.Prelude.{nat_lt, Result, unwrap_or}
use Rattle.std.specs.List.{AllByRecursion}
use Rattle.std.proofs.lemmas.Bool.{or_parts, ltb-false}
use Rattle.std.proofs.lemmas.Int.{ints}
use Rattle.yp_base.specs.declared.notice.Trigger.{Trigger}
use Rattle.yp_base.specs.declared.notice.Trigger.TheVariants.{Periodic, OnChange}
use Rattle.yp_filter.specs.declared.fault.FilterFault.{FilterFault}
use Rattle.yp_filter.specs.Filters.{Asked, all_rows}
use Rattle.yp_filter.specs.Fits.{filter_fits}
use Rattle.yp_nacm.specs.declared.policy.Policy.{Policy}
use Rattle.yp_schema.specs.declared.schema.SchemaNode.{SchemaNode}
use Rattle.yp_time.specs.Ticks.{tick_limit}
use Rattle.yp_terms.specs.declared.ask.Ask.{Ask}
use Rattle.yp_terms.specs.declared.refused.Refused.{Refused}
use Rattle.yp_terms.specs.declared.refused.Refused.TheVariants.{AccessDenied, EncodingUnsupported, DatastoreNotSubscribable, FilterUnsupported, PeriodUnsupported, NoSuchSubscription, OnChangeSyncUnsupported, InvalidTrigger, InvalidId, InvalidReceiver, InsufficientResources, Memory}
use Rattle.yp_terms.specs.declared.ask.FilterAsk.{FilterAsk}
use Rattle.yp_terms.specs.Terms.{Terms, AreTermsOf, HasAnchor, IsFollowed, if_read, is_too_short, with_anchor, asked_for}
use Rattle.yp_terms.specs.Refusals.{first_refusal, or_refused, Fails}
use Rattle.yp_terms.specs.RefusalLaws.{none_holds}
use Rattle.yp_registry.specs.Registry.{Subscriptions, reasons_against, lacks_room, no_subscriptions, most_feeds, last_id, next_id, feeds, terms_for, with_terms, established, after_refusal, establish_answer, IsRegistryOf}
use Rattle.yp_registry.proofs.Feeds.{feeds_pushed}

-- ---- answers

-- a refusal is one whatever would be given in its place
same_refusal : {X Y : Type 0} (refusal : Option Refused) (x : X) (y : Y) (e : Refused) → or_refused refusal x ≡ Err e → or_refused refusal y ≡ Err e
same_refusal None x y e h = cc
same_refusal (Some refusal) x y e h = let same : refusal ≡ e = cc in ap Err same

pub fails_alike : {X Y : Type 0} (refusal : Option Refused) (x : X) (y : Y) (e : Refused) → Fails e (or_refused refusal x) → Fails e (or_refused refusal y)
fails_alike refusal x y AccessDenied h = same_refusal refusal x y AccessDenied h
fails_alike refusal x y EncodingUnsupported h = same_refusal refusal x y EncodingUnsupported h
fails_alike refusal x y DatastoreNotSubscribable h = same_refusal refusal x y DatastoreNotSubscribable h
fails_alike refusal x y FilterUnsupported h = same_refusal refusal x y FilterUnsupported h
fails_alike refusal x y (PeriodUnsupported hint) h = same_refusal refusal x y (PeriodUnsupported hint) h
fails_alike refusal x y (NoSuchSubscription resync) h = same_refusal refusal x y (NoSuchSubscription resync) h
fails_alike refusal x y OnChangeSyncUnsupported h = same_refusal refusal x y OnChangeSyncUnsupported h
fails_alike refusal x y InvalidTrigger h = same_refusal refusal x y InvalidTrigger h
fails_alike refusal x y InvalidId h = same_refusal refusal x y InvalidId h
fails_alike refusal x y InvalidReceiver h = same_refusal refusal x y InvalidReceiver h
fails_alike refusal x y InsufficientResources h = same_refusal refusal x y InsufficientResources h
fails_alike refusal x y Memory h = tt

-- ---- reasons

-- so no period is too short, and there is room
pub fitting : (nodes : List SchemaNode) (policy : Policy) (registry : Subscriptions) (by : ℕ) (ask : Ask) → first_refusal (reasons_against nodes policy registry by ask) ≡ None
    → (is_too_short ask.trigger ≡ false) × (lacks_room registry 1 ≡ false)
fitting nodes policy registry by ask h =
    let none = none_holds (reasons_against nodes policy registry by ask) h in
    (none.1.1.1.1.0, none.1.1.1.1.1.0)

-- where there is room, one feed more isn't too many, and an id is left
pub has_room : (registry : Subscriptions) → lacks_room registry 1 ≡ false → (feeds registry.live + 1 ≤ most_feeds) × (next_id registry.given ≤ last_id)
has_room registry h =
    let parts = or_parts (nat_lt most_feeds (feeds registry.live + 1)) (nat_lt last_id (next_id registry.given)) h in
    (ltb-false _ _ parts.0, ltb-false _ _ parts.1)

-- ---- registries of a schema

-- a trigger with its anchor can be followed
pub followed : (trigger : Trigger) (now : ℕ) → is_too_short trigger ≡ false → HasAnchor trigger → now ≤ tick_limit → IsFollowed (with_anchor now trigger)
followed (Periodic period (Some anchor)) now long there late = (ltb-false _ _ long, there)
followed (Periodic period None) now long there late = (ltb-false _ _ long, (omega (arith, ints), omega (arith, ints)))
followed (OnChange dampening sync excluded) now long there late = tt

all_push : {X : Type 0} (P : X → Type 0) (xs : List X) (x : X) → AllByRecursion P xs → P x → AllByRecursion P (xs ++ x ∷ [])
all_push P [] x all one = (one, tt)
all_push P (y ∷ ys) x all one = (all.0, all_push P ys x all.1 one)

module _ (nodes : List SchemaNode) (policy : Policy) (registry : Subscriptions) (by : ℕ) (ask : Ask) (now : ℕ) where
  given_terms : is_too_short ask.trigger ≡ false → by < length registry.users → HasAnchor ask.trigger → now ≤ tick_limit → filter_fits nodes (asked_for nodes ask.filter) ≡ true
      → AreTermsOf nodes (length registry.users) (terms_for nodes registry by ask now)
  given_terms long there anchor late fits = record { filter = fits; trigger = followed ask.trigger now long anchor late; receivers = (there, tt); in_order = λ k within. absurd (omega (arith, within)) }

  -- terms of the next id, of what the filter says and of the trigger with its anchor are those that are given
  pub terms_are : (terms : Terms) (id : ℕ) (asked : Asked) (trigger : Trigger) → terms ≡ record { id = id; receivers = by ∷ []; configured = false; asked = asked; trigger = trigger }
      → id ≡ next_id registry.given → asked_for nodes ask.filter ≡ asked → trigger ≡ with_anchor now ask.trigger → terms ≡ terms_for nodes registry by ask now
  terms_are terms id asked trigger e of_id of_asked of_trigger = cc

  -- where nothing is refused, the answer is the next id, and the registry has these terms more
  pub given_id : first_refusal (reasons_against nodes policy registry by ask) ≡ None → establish_answer nodes policy registry by ask now ≡ Ok (next_id registry.given)
  given_id free = ap (λ (refusal : Option Refused). or_refused refusal (next_id registry.given)) free

  pub given_state : first_refusal (reasons_against nodes policy registry by ask) ≡ None → with_terms registry (terms_for nodes registry by ask now) ≡ established nodes policy registry by ask now
  given_state free = sym (ap (λ (refusal : Option Refused). after_refusal refusal registry (terms_for nodes registry by ask now)) free)

  -- one subscription more leaves a registry of the schema one
  pub terms_kept : first_refusal (reasons_against nodes policy registry by ask) ≡ None → by < length registry.users → HasAnchor ask.trigger → now ≤ tick_limit → filter_fits nodes (asked_for nodes ask.filter) ≡ true
      → IsRegistryOf nodes registry → IsRegistryOf nodes (with_terms registry (terms_for nodes registry by ask now))
  terms_kept free there anchor late fits is =
      let fit = fitting nodes policy registry by ask free in
      let room = has_room registry fit.1 in
      let more : feeds (registry.live ++ terms_for nodes registry by ask now ∷ []) ≡ feeds registry.live + 1 = feeds_pushed registry.live (terms_for nodes registry by ask now) in
      record {
        terms = all_push (AreTermsOf nodes (length registry.users)) registry.live (terms_for nodes registry by ask now) is.terms (given_terms fit.0 there anchor late fits);
        room = omega (arith, more, room.0);
        ids = omega (arith, room.1);
      }

-- ---- all calls

-- what is read without a fault fits the schema where it does so for each reading
pub read_fits : (nodes : List SchemaNode) (read : Result Asked FilterFault) → ((asked : Asked) → read ≡ Ok asked → filter_fits nodes asked ≡ true) → filter_fits nodes (unwrap_or (if_read read) all_rows) ≡ true
read_fits nodes (Ok asked) fits = fits asked refl
read_fits nodes (Err fault) fits = refl

-- the law that is rested on: what a filter that is asked for says fits the schema
abbrev pub AskedFiltersFit : Type 0
AskedFiltersFit = (nodes : List SchemaNode) (filter : FilterAsk) → filter_fits nodes (asked_for nodes filter) ≡ true

-- a registry without subscriptions is one of each schema
pub first_kept : (nodes : List SchemaNode) (users names : List (List ℕ)) → IsRegistryOf nodes (no_subscriptions users names)
first_kept nodes users names = record { terms = tt; room = omega arith; ids = omega arith }

pub registry_kept : AskedFiltersFit → (nodes : List SchemaNode) (policy : Policy) (registry : Subscriptions) (by : ℕ) (ask : Ask) (now : ℕ) → by < length registry.users → HasAnchor ask.trigger → now ≤ tick_limit
    → IsRegistryOf nodes registry → IsRegistryOf nodes (established nodes policy registry by ask now)
registry_kept fit nodes policy registry by ask now there anchor late is =
    let new : Terms = terms_for nodes registry by ask now in
    let refusal : Option Refused = first_refusal (reasons_against nodes policy registry by ask) in
    elim refusal as (λ (refused : Option Refused). refusal ≡ refused → IsRegistryOf nodes (after_refusal refused registry new)) [
      | Some refused ↦ λ found. is
      | None ↦ λ free. terms_kept nodes policy registry by ask now free there anchor late (fit nodes ask.filter) is
    ] refl

module _ (nodes : List SchemaNode) (policy : Policy) (registry : Subscriptions) (by : ℕ) (ask : Ask) (now : ℕ) where
  pub users_stay : (established nodes policy registry by ask now).users ≡ registry.users
  users_stay = elim (first_refusal (reasons_against nodes policy registry by ask)) as (λ (refused : Option Refused). (after_refusal refused registry (terms_for nodes registry by ask now)).users ≡ registry.users) [
    | Some refused ↦ refl
    | None ↦ refl
  ]

  pub names_stay : (established nodes policy registry by ask now).names ≡ registry.names
  names_stay = elim (first_refusal (reasons_against nodes policy registry by ask)) as (λ (refused : Option Refused). (after_refusal refused registry (terms_for nodes registry by ask now)).names ≡ registry.names) [
    | Some refused ↦ refl
    | None ↦ refl
  ]

  pub taken_stay : (established nodes policy registry by ask now).taken ≡ registry.taken
  taken_stay = elim (first_refusal (reasons_against nodes policy registry by ask)) as (λ (refused : Option Refused). (after_refusal refused registry (terms_for nodes registry by ask now)).taken ≡ registry.taken) [
    | Some refused ↦ refl
    | None ↦ refl
  ]
