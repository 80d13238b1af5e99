-- The further calls, refused or not.
use Rattle.std.proofs.Common.{◌≡◌, ◌≢◌, ℕ, ◌≤◌, List, length, Bool, true, false, not, Option, Some, None, Ok, Err, refl, ap, sym, ◌∙◌}
use Rattle.std.specs.Prelude.{IsSomeAnd, cond, is_none}
use Rattle.std.proofs.lemmas.Bool.{or_parts, not-false}
use Rattle.yp_nacm.specs.declared.policy.Policy.{Policy}
use Rattle.yp_schema.specs.declared.schema.SchemaNode.{SchemaNode}
use Rattle.yp_time.specs.Ticks.{tick_limit}
use Rattle.yp_terms.specs.declared.ask.Amend.{Amend}
use Rattle.yp_terms.specs.declared.ask.Ask.{Ask}
use Rattle.yp_terms.specs.declared.refused.Refused.{Refused}
use Rattle.yp_base.specs.declared.notice.Trigger.{Trigger}
use Rattle.yp_filter.specs.Filters.{Asked}
use Rattle.yp_terms.specs.Terms.{Terms, HasAnchor, is_too_short, with_anchor, asked_for, is_established_by, has_sync}
use Rattle.yp_terms.specs.Refusals.{first_refusal, or_refused}
use Rattle.yp_registry.specs.Registry.{Subscriptions, IsRegistryOf, live_at}
use Rattle.yp_registry.specs.Calls.{delete_answer, delete_reasons, done_unless, if_meant, kill_answer, kill_reasons, lacks_sync, left_unless, resync_answer, resync_reasons, unconfigure_answer, unconfigure_reasons, with_end}
use Rattle.yp_terms.specs.Amends.{given_filter, is_given_short, HasGivenAnchor, is_other_kind, with_given, amended_terms}
use Rattle.yp_terms.specs.RefusalLaws.{none_holds, not_refused, nothing_refused}
use Rattle.yp_registry.specs.Amending.{modified_by, modify_answer, modify_reasons, reconfigure_answer, reconfigure_reasons, reconfigured, with_change}
use Rattle.yp_registry.specs.Configuring.{configure_answer, configure_reasons, configured_terms, exceeds_feeds, is_configurable, is_id_taken, newly_configured, numbers_named, with_configured}
use Rattle.yp_registry.specs.Ids.{HasRisingIds}
use Rattle.yp_registry.proofs.Establishing.{AskedFiltersFit}
use Rattle.yp_registry.proofs.Finding.{none_of}
use Rattle.yp_registry.proofs.Keeping.{amended_kept, change_rises, configured_kept, configured_rises, end_kept, end_rises, none_has, taken_now, taken_stays}

-- what holds before and after holds of what is left
pub left_is : (P : Subscriptions → Type 0) (refusal : Option Refused) (before after : Subscriptions) → P before → (refusal ≡ None → P after) → P (left_unless refusal before after)
left_is P refusal before after was is =
    elim refusal as (λ (refused : Option Refused). refusal ≡ refused → P (left_unless refused before after)) [
      | Some refused ↦ λ found. was
      | None ↦ λ free. is free
    ] refl

pub refused_leaves : (refusal : Option Refused) (before after : Subscriptions) (refused : Refused) → done_unless refusal ≡ Err refused → left_unless refusal before after ≡ before
refused_leaves (Some refusal) before after refused h = refl
refused_leaves None before after refused h = cc

pub done_leaves : (refusal : Option Refused) (before after : Subscriptions) → done_unless refusal ≡ Ok tt → left_unless refusal before after ≡ after
done_leaves (Some refusal) before after h = cc
done_leaves None before after h = refl

-- ---- where nothing is refused

-- of what is there and is meant, what isn't lacking holds
meant_and : (is_meant : Terms → Bool) (lacks : Option Terms → Bool) (found : Option Terms) → is_none (if_meant is_meant found) ≡ false → lacks (if_meant is_meant found) ≡ false
    → IsSomeAnd found (λ (terms : Terms). (is_meant terms ≡ true) × (lacks (Some terms) ≡ false))
meant_and is_meant lacks None there has = cc
meant_and is_meant lacks (Some terms) there has =
    elim (is_meant terms) as (λ (is : Bool). is_none (cond is (Some terms) None) ≡ false → lacks (cond is (Some terms) None) ≡ false → (is ≡ true) × (lacks (Some terms) ≡ false)) [
      | true ↦ λ here holds. (refl, holds)
      | false ↦ λ here holds. cc
    ] there has

weaker : (P Q : Terms → Type 0) (found : Option Terms) → ((terms : Terms) → P terms → Q terms) → IsSomeAnd found P → IsSomeAnd found Q
weaker P Q None so is = is
weaker P Q (Some terms) so is = so terms is

meant : (is_meant : Terms → Bool) (found : Option Terms) → is_none (if_meant is_meant found) ≡ false → IsSomeAnd found (λ (terms : Terms). is_meant terms ≡ true)
meant is_meant found there =
    weaker (λ (terms : Terms). (is_meant terms ≡ true) × (false ≡ false)) (λ (terms : Terms). is_meant terms ≡ true) found (λ terms both. both.0) (meant_and is_meant (λ (terms : Option Terms). false) found there refl)

pub modified_is : (nodes : List SchemaNode) (policy : Policy) (registry : Subscriptions) (by id : ℕ) (amend : Amend) → modify_answer nodes policy registry by id amend ≡ Ok tt
    → IsSomeAnd (live_at id registry.live) (λ (terms : Terms). (is_established_by by terms ≡ true) × (is_other_kind amend.trigger (Some terms) ≡ false))
modified_is nodes policy registry by id amend done =
    let none = none_holds (modify_reasons nodes policy registry by id amend) (nothing_refused (first_refusal (modify_reasons nodes policy registry by id amend)) done) in
    meant_and (is_established_by by) (is_other_kind amend.trigger) (live_at id registry.live) none.1.1.1.0 none.1.1.1.1.0

pub reconfigured_is : (nodes : List SchemaNode) (registry : Subscriptions) (id : ℕ) (amend : Amend) → reconfigure_answer nodes registry id amend ≡ Ok tt
    → IsSomeAnd (live_at id registry.live) (λ (terms : Terms). (terms.configured ≡ true) × (is_other_kind amend.trigger (Some terms) ≡ false))
reconfigured_is nodes registry id amend done =
    let none = none_holds (reconfigure_reasons nodes registry id amend) (nothing_refused (first_refusal (reconfigure_reasons nodes registry id amend)) done) in
    meant_and (λ (terms : Terms). terms.configured) (is_other_kind amend.trigger) (live_at id registry.live) none.1.1.0 none.1.1.1.0

pub deleted_is : (policy : Policy) (registry : Subscriptions) (by id : ℕ) → delete_answer policy registry by id ≡ Ok tt → IsSomeAnd (live_at id registry.live) (λ (terms : Terms). is_established_by by terms ≡ true)
deleted_is policy registry by id done =
    let none = none_holds (delete_reasons policy registry by id) (nothing_refused (first_refusal (delete_reasons policy registry by id)) done) in
    meant (is_established_by by) (live_at id registry.live) none.1.0

pub killed_is : (policy : Policy) (registry : Subscriptions) (by id : ℕ) → kill_answer policy registry by id ≡ Ok tt → IsSomeAnd (live_at id registry.live) (λ (terms : Terms). not terms.configured ≡ true)
killed_is policy registry by id done =
    let none = none_holds (kill_reasons policy registry by id) (nothing_refused (first_refusal (kill_reasons policy registry by id)) done) in
    meant (λ (terms : Terms). not terms.configured) (live_at id registry.live) none.1.0

pub resynced_is : (policy : Policy) (registry : Subscriptions) (by id : ℕ) → resync_answer policy registry by id ≡ Ok tt
    → IsSomeAnd (live_at id registry.live) (λ (terms : Terms). (is_established_by by terms ≡ true) × (has_sync terms.trigger ≡ true))
resynced_is policy registry by id done =
    let none = none_holds (resync_reasons policy registry by id) (nothing_refused (first_refusal (resync_reasons policy registry by id)) done) in
    weaker (λ (terms : Terms). (is_established_by by terms ≡ true) × (lacks_sync (Some terms) ≡ false)) (λ (terms : Terms). (is_established_by by terms ≡ true) × (has_sync terms.trigger ≡ true)) (live_at id registry.live)
    (λ terms both. (both.0, not-false (has_sync terms.trigger) both.1)) (meant_and (is_established_by by) lacks_sync (live_at id registry.live) none.1.0 none.1.1.0)

pub unconfigured_is : (registry : Subscriptions) (id : ℕ) → unconfigure_answer registry id ≡ Ok tt → IsSomeAnd (live_at id registry.live) (λ (terms : Terms). terms.configured ≡ true)
unconfigured_is registry id done =
    let none = none_holds (unconfigure_reasons registry id) (nothing_refused (first_refusal (unconfigure_reasons registry id)) done) in
    meant (λ (terms : Terms). terms.configured) (live_at id registry.live) none.0

modify_long : (nodes : List SchemaNode) (policy : Policy) (registry : Subscriptions) (by id : ℕ) (amend : Amend) → first_refusal (modify_reasons nodes policy registry by id amend) ≡ None → is_given_short amend.trigger ≡ false
modify_long nodes policy registry by id amend free = (none_holds (modify_reasons nodes policy registry by id amend) free).1.1.0

reconfigure_long : (nodes : List SchemaNode) (registry : Subscriptions) (id : ℕ) (amend : Amend) → first_refusal (reconfigure_reasons nodes registry id amend) ≡ None → is_given_short amend.trigger ≡ false
reconfigure_long nodes registry id amend free = (none_holds (reconfigure_reasons nodes registry id amend) free).1.0

module _ (nodes : List SchemaNode) (registry : Subscriptions) (id : ℕ) (receivers : List (List ℕ)) (ask : Ask) (free : first_refusal (configure_reasons nodes registry id receivers ask) ≡ None) where
  configure_long : is_too_short ask.trigger ≡ false
  configure_long = (none_holds (configure_reasons nodes registry id receivers ask) free).1.1.1.0

  configure_few : exceeds_feeds registry.live (length (numbers_named registry receivers)) ≡ false
  configure_few = (none_holds (configure_reasons nodes registry id receivers ask) free).1.1.1.1.1.1.0

  configure_new : (is_configurable id ≡ true) × (is_id_taken id registry ≡ false)
  configure_new =
      let parts = or_parts (not (is_configurable id)) (is_id_taken id registry) (none_holds (configure_reasons nodes registry id receivers ask) free).1.1.1.1.0 in
      (not-false _ parts.0, parts.1)

-- ---- a registry of a schema stays one

module _ (fit : AskedFiltersFit) (nodes : List SchemaNode) where
  pub modified_keeps : (policy : Policy) (registry : Subscriptions) (by id : ℕ) (amend : Amend) (now : ℕ) → HasGivenAnchor amend.trigger → now ≤ tick_limit → IsRegistryOf nodes registry → IsRegistryOf nodes (modified_by nodes policy registry by id amend now)
  modified_keeps policy registry by id amend now anchor late is =
      left_is (λ (r : Subscriptions). IsRegistryOf nodes r) (first_refusal (modify_reasons nodes policy registry by id amend)) registry (with_change id (amended_terms nodes amend now) registry) is
      (λ free. amended_kept fit nodes registry amend now id (modify_long nodes policy registry by id amend free) anchor late is)

  pub reconfigured_keeps : (registry : Subscriptions) (id : ℕ) (amend : Amend) (now : ℕ) → HasGivenAnchor amend.trigger → now ≤ tick_limit → IsRegistryOf nodes registry → IsRegistryOf nodes (reconfigured nodes registry id amend now)
  reconfigured_keeps registry id amend now anchor late is =
      left_is (λ (r : Subscriptions). IsRegistryOf nodes r) (first_refusal (reconfigure_reasons nodes registry id amend)) registry (with_change id (amended_terms nodes amend now) registry) is
      (λ free. amended_kept fit nodes registry amend now id (reconfigure_long nodes registry id amend free) anchor late is)

  pub configured_keeps : (registry : Subscriptions) (id : ℕ) (receivers : List (List ℕ)) (ask : Ask) (now : ℕ) → HasAnchor ask.trigger → now ≤ tick_limit → IsRegistryOf nodes registry → IsRegistryOf nodes (newly_configured nodes registry id receivers ask now)
  configured_keeps registry id receivers ask now anchor late is =
      left_is (λ (r : Subscriptions). IsRegistryOf nodes r) (first_refusal (configure_reasons nodes registry id receivers ask)) registry (with_configured registry (configured_terms nodes registry id receivers ask now)) is
      (λ free. configured_kept fit nodes registry id receivers ask now (configure_long nodes registry id receivers ask free) (configure_few nodes registry id receivers ask free) anchor late is)

pub end_keeps : (nodes : List SchemaNode) (refusal : Option Refused) (registry : Subscriptions) (id : ℕ) → IsRegistryOf nodes registry → IsRegistryOf nodes (left_unless refusal registry (with_end id registry))
end_keeps nodes refusal registry id is = left_is (λ (r : Subscriptions). IsRegistryOf nodes r) refusal registry (with_end id registry) is (λ free. end_kept nodes registry id is)

-- ---- ids rise

pub change_keeps_rising : (refusal : Option Refused) (registry : Subscriptions) (id : ℕ) (nodes : List SchemaNode) (amend : Amend) (now : ℕ) → HasRisingIds registry → HasRisingIds (left_unless refusal registry (with_change id (amended_terms nodes amend now) registry))
change_keeps_rising refusal registry id nodes amend now is = left_is HasRisingIds refusal registry (with_change id (amended_terms nodes amend now) registry) is (λ free. change_rises registry id nodes amend now is)

pub end_keeps_rising : (refusal : Option Refused) (registry : Subscriptions) (id : ℕ) → HasRisingIds registry → HasRisingIds (left_unless refusal registry (with_end id registry))
end_keeps_rising refusal registry id is = left_is HasRisingIds refusal registry (with_end id registry) is (λ free. end_rises registry id is)

pub configured_keeps_rising : (nodes : List SchemaNode) (registry : Subscriptions) (id : ℕ) (receivers : List (List ℕ)) (ask : Ask) (now : ℕ) → HasRisingIds registry → HasRisingIds (newly_configured nodes registry id receivers ask now)
configured_keeps_rising nodes registry id receivers ask now is =
    left_is HasRisingIds (first_refusal (configure_reasons nodes registry id receivers ask)) registry (with_configured registry (configured_terms nodes registry id receivers ask now)) is
    (λ free. let new = configure_new nodes registry id receivers ask free in configured_rises registry (configured_terms nodes registry id receivers ask now) new.0 new.1 is)

-- ---- an id is configured once

module _ (nodes : List SchemaNode) (registry : Subscriptions) (id : ℕ) (receivers : List (List ℕ)) (ask : Ask) where
  done_free : configure_answer nodes registry id receivers ask ≡ Ok tt → first_refusal (configure_reasons nodes registry id receivers ask) ≡ None
  done_free done = nothing_refused (first_refusal (configure_reasons nodes registry id receivers ask)) done

  pub taken_then : (now : ℕ) → configure_answer nodes registry id receivers ask ≡ Ok tt → is_id_taken id (newly_configured nodes registry id receivers ask now) ≡ true
  taken_then now done =
      ap (is_id_taken id) (done_leaves (first_refusal (configure_reasons nodes registry id receivers ask)) registry (with_configured registry (configured_terms nodes registry id receivers ask now)) done)
      ∙ taken_now registry (configured_terms nodes registry id receivers ask now)

  pub stays_taken : (now other : ℕ) → is_id_taken other registry ≡ true → is_id_taken other (newly_configured nodes registry id receivers ask now) ≡ true
  stays_taken now other is =
      left_is (λ (r : Subscriptions). is_id_taken other r ≡ true) (first_refusal (configure_reasons nodes registry id receivers ask)) registry (with_configured registry (configured_terms nodes registry id receivers ask now)) is
      (λ free. taken_stays registry (configured_terms nodes registry id receivers ask now) other is)

  pub never_again : is_id_taken id registry ≡ true → configure_answer nodes registry id receivers ask ≢ Ok tt
  never_again is done =
      let free : is_id_taken id registry ≡ false = (configure_new nodes registry id receivers ask (done_free done)).1 in
      let both : true ≡ false = sym is ∙ free in
      cc

  pub none_before : HasRisingIds registry → configure_answer nodes registry id receivers ask ≡ Ok tt → live_at id registry.live ≡ None
  none_before is done =
      let new = configure_new nodes registry id receivers ask (done_free done) in
      none_of id registry.live (none_has registry id is new.0 new.1)

-- ---- what a body leaves

pub left_free : (refusal : Option Refused) (before after : Subscriptions) → refusal ≡ None → after ≡ left_unless refusal before after
left_free refusal before after free = sym (ap (λ (refused : Option Refused). left_unless refused before after) free)

pub done_answer : {X : Type 0} (refusal : Option Refused) (x y : X) → or_refused refusal x ≡ Ok y → done_unless refusal ≡ Ok tt
done_answer refusal x y given = ap done_unless (not_refused refusal x y given).0

-- an amendment by what was admitted
pub amended_state : (refusal : Option Refused) (registry left : Subscriptions) (id now : ℕ) (nodes : List SchemaNode) (amend : Amend) (asked : Option Asked) → or_refused refusal (given_filter nodes amend.filter) ≡ Ok asked
    → left ≡ with_change id (with_given now asked amend.trigger) registry → left ≡ left_unless refusal registry (with_change id (amended_terms nodes amend now) registry)
amended_state refusal registry left id now nodes amend asked given is =
    let free = not_refused refusal (given_filter nodes amend.filter) asked given in
    is
    ∙ ap (λ (said : Option Asked). with_change id (with_given now said amend.trigger) registry) (sym free.1)
    ∙ left_free refusal registry (with_change id (amended_terms nodes amend now) registry) free.0

-- a configuration by what was admitted
pub configured_state : (nodes : List SchemaNode) (registry left : Subscriptions) (id : ℕ) (receivers : List (List ℕ)) (ask : Ask) (now : ℕ) (numbers : List ℕ) (asked : Asked) (trigger : Trigger) (terms : Terms)
    → or_refused {X = List ℕ × Asked} (first_refusal (configure_reasons nodes registry id receivers ask)) (numbers_named registry receivers, asked_for nodes ask.filter) ≡ Ok (numbers, asked)
    → trigger ≡ with_anchor now ask.trigger → terms ≡ record { id = id; receivers = numbers; configured = true; asked = asked; trigger = trigger } → left ≡ with_configured registry terms
    → left ≡ newly_configured nodes registry id receivers ask now
configured_state nodes registry left id receivers ask now numbers asked trigger terms given of_trigger of_terms is =
    let free = not_refused {X = List ℕ × Asked} (first_refusal (configure_reasons nodes registry id receivers ask)) (numbers_named registry receivers, asked_for nodes ask.filter) (numbers, asked) given in
    let numbered : numbers_named registry receivers ≡ numbers = ap (λ (both : List ℕ × Asked). both.0) free.1 in
    let said : asked_for nodes ask.filter ≡ asked = ap (λ (both : List ℕ × Asked). both.1) free.1 in
    let same : terms ≡ configured_terms nodes registry id receivers ask now = cc in
    is
    ∙ ap (with_configured registry) same
    ∙ left_free (first_refusal (configure_reasons nodes registry id receivers ask)) registry (with_configured registry (configured_terms nodes registry id receivers ask now)) free.0
