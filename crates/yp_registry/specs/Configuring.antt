-- Configured subscriptions: their ids, their receivers, and how one begins (RFC 8639 section 2.5).
use Rattle.std.specs.Prelude.{ℕ, ◌+◌, ◌==◌, List, [], ◌∷◌, ◌++◌, length, filter, Bool, true, false, not, ◌&&◌, ◌||◌, nat_lt, Option, Some, None, is_none, Result, if◌then◌else◌}
use Rattle.std.specs.List.{list_all, list_any, range_with_len, slice_get}
use Rattle.yp_base.specs.Types.{is_among}
use Rattle.yp_schema.specs.declared.schema.SchemaNode.{SchemaNode}
use Rattle.yp_terms.specs.declared.ask.Ask.{Ask}
use Rattle.yp_terms.specs.declared.refused.Refused.{Refused}
use Rattle.yp_terms.specs.declared.refused.Refused.TheVariants.{EncodingUnsupported, DatastoreNotSubscribable, FilterUnsupported, PeriodUnsupported, InvalidId, InvalidReceiver, InsufficientResources}
use Rattle.yp_terms.specs.Terms.{Terms, asked_by, asked_for, is_json, is_operational, is_too_short, shortest_period, with_anchor}
use Rattle.yp_terms.specs.Refusals.{Reason, first_refusal}
use Rattle.yp_registry.specs.Registry.{Subscriptions, feeds, most_feeds, next_id}
use Rattle.yp_registry.specs.Calls.{done_unless, left_unless}

-- ---- ids

-- whether an id is one of configured subscriptions: from 1 to the last before those of dynamic ones
abbrev pub is_configurable : ℕ → Bool
is_configurable id = nat_lt 0 id && nat_lt id (next_id 0)

-- whether an id was configured: it stays so when its subscription has ended
abbrev pub is_id_taken : ℕ → Subscriptions → Bool
is_id_taken id registry = list_any (λ other. other == id) registry.taken

-- ---- receivers

-- whether all these are names of receivers
abbrev pub are_declared : List (List ℕ) → List (List ℕ) → Bool
are_declared names asked = list_all (λ name. is_among name names) asked

-- whether a receiver has one of these names
abbrev pub is_asked : List (List ℕ) → Option (List ℕ) → Bool
is_asked asked None = false
is_asked asked (Some name) = is_among name asked

-- the numbers of the receivers that have one of these names, in the order of their declaration
abbrev pub numbers_named : Subscriptions → List (List ℕ) → List ℕ
numbers_named registry asked = filter (λ number. is_asked asked (slice_get registry.names number)) (range_with_len 0 (length registry.users))

-- ---- the call

-- whether the feeds of so many receivers more are too many
abbrev pub exceeds_feeds : List Terms → ℕ → Bool
exceeds_feeds live new = nat_lt most_feeds (feeds live + new)

-- the reasons to refuse a configured subscription, in their order
abbrev pub configure_reasons : List SchemaNode → Subscriptions → ℕ → List (List ℕ) → Ask → List Reason
configure_reasons nodes registry id receivers ask =
    (not (is_json ask.encoding), EncodingUnsupported)
    ∷ (not (is_operational ask.datastore), DatastoreNotSubscribable)
    ∷ (is_none (asked_by nodes ask.filter), FilterUnsupported)
    ∷ (is_too_short ask.trigger, PeriodUnsupported shortest_period)
    ∷ (not (is_configurable id) || is_id_taken id registry, InvalidId)
    ∷ (not (are_declared registry.names receivers), InvalidReceiver)
    ∷ (exceeds_feeds registry.live (length (numbers_named registry receivers)), InsufficientResources)
    ∷ []

-- the terms of a configured subscription
abbrev pub configured_terms : List SchemaNode → Subscriptions → ℕ → List (List ℕ) → Ask → ℕ → Terms
configured_terms nodes registry id receivers ask now = record {
  id = id;
  receivers = numbers_named registry receivers;
  configured = true;
  asked = asked_for nodes ask.filter;
  trigger = with_anchor now ask.trigger;
}

-- the live subscriptions with one more, before the first that has a higher id
abbrev pub in_order : Terms → List Terms → List Terms
in_order new [] = new ∷ []
in_order new (terms ∷ live) = if nat_lt new.id terms.id then new ∷ terms ∷ live else terms ∷ in_order new live

-- one configured subscription more, whose id is taken from now on
abbrev pub with_configured : Subscriptions → Terms → Subscriptions
with_configured registry terms = record registry { taken = registry.taken ++ terms.id ∷ []; live = in_order terms registry.live }

-- a subscription is configured for the receivers of these names (RFC 8639 section 2.5.2)
abbrev pub configure_answer : List SchemaNode → Subscriptions → ℕ → List (List ℕ) → Ask → Result Unit Refused
configure_answer nodes registry id receivers ask = done_unless (first_refusal (configure_reasons nodes registry id receivers ask))

abbrev pub newly_configured : List SchemaNode → Subscriptions → ℕ → List (List ℕ) → Ask → ℕ → Subscriptions
newly_configured nodes registry id receivers ask now = left_unless (first_refusal (configure_reasons nodes registry id receivers ask)) registry (with_configured registry (configured_terms nodes registry id receivers ask now))
