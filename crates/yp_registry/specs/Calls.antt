-- What each further call is refused for, and what it leaves (RFC 8639 sections 2.4.4, 2.4.5 and 2.5.4, RFC 8641 sections 4.4.3 and 4.4.4).
use Rattle.std.specs.Prelude.{ℕ, List, [], ◌∷◌, filter, Bool, true, false, not, nat_eq, Option, Some, None, Result, if◌then◌else◌}
use Rattle.yp_nacm.specs.declared.policy.Policy.{Policy}
use Rattle.yp_nacm.specs.declared.execute.Operation.{Operation}
use Rattle.yp_nacm.specs.declared.execute.Operation.TheVariants.{Delete, Kill, Resync}
use Rattle.yp_nacm.specs.Decision.{may_call}
use Rattle.yp_terms.specs.declared.refused.Refused.{Refused}
use Rattle.yp_terms.specs.declared.refused.Refused.TheVariants.{AccessDenied, OnChangeSyncUnsupported}
use Rattle.yp_terms.specs.Terms.{Terms, has_sync, is_established_by}
use Rattle.yp_terms.specs.Refusals.{Reason, first_refusal, missing, or_refused}
use Rattle.yp_registry.specs.Registry.{Subscriptions, live_at, user_at}

-- ---- which subscription a call is about

-- a subscription, where it is one that is meant
abbrev pub if_meant : (Terms → Bool) → Option Terms → Option Terms
if_meant is_meant None = None
if_meant is_meant (Some terms) = if is_meant terms then Some terms else None

-- the live subscription of an id that the receiver of this number established, where there is one
abbrev pub own_at : ℕ → ℕ → List Terms → Option Terms
own_at by id live = if_meant (is_established_by by) (live_at id live)

-- the live subscription of an id that any receiver established
abbrev pub dynamic_at : ℕ → List Terms → Option Terms
dynamic_at id live = if_meant (λ terms. not terms.configured) (live_at id live)

-- the live subscription of an id that was configured
abbrev pub configured_at : ℕ → List Terms → Option Terms
configured_at id live = if_meant (λ terms. terms.configured) (live_at id live)

-- ---- reasons

-- the receiver's user may not call the operation (RFC 8341 section 3.4.4)
abbrev pub denied : Policy → Subscriptions → ℕ → Operation → Reason
denied policy registry by operation = (not (may_call policy (user_at registry.users by) operation), AccessDenied)

-- whether a subscription is there that can't be synchronised again: it is periodic, or without a full update at first
abbrev pub lacks_sync : Option Terms → Bool
lacks_sync None = false
lacks_sync (Some terms) = not (has_sync terms.trigger)

-- the reasons to refuse each call, in their order
abbrev pub delete_reasons : Policy → Subscriptions → ℕ → ℕ → List Reason
delete_reasons policy registry by id = denied policy registry by Delete ∷ missing false (own_at by id registry.live) ∷ []

abbrev pub kill_reasons : Policy → Subscriptions → ℕ → ℕ → List Reason
kill_reasons policy registry by id = denied policy registry by Kill ∷ missing false (dynamic_at id registry.live) ∷ []

abbrev pub resync_reasons : Policy → Subscriptions → ℕ → ℕ → List Reason
resync_reasons policy registry by id = denied policy registry by Resync ∷ missing true (own_at by id registry.live) ∷ (lacks_sync (own_at by id registry.live), OnChangeSyncUnsupported) ∷ []

abbrev pub unconfigure_reasons : Subscriptions → ℕ → List Reason
unconfigure_reasons registry id = missing false (configured_at id registry.live) ∷ []

-- ---- answers, and what a call leaves

-- the answer of a call that gives nothing
abbrev pub done_unless : Option Refused → Result Unit Refused
done_unless refusal = or_refused refusal tt

-- the registry after a call: as it was before where the call is refused
abbrev pub left_unless : Option Refused → Subscriptions → Subscriptions → Subscriptions
left_unless (Some refusal) before after = before
left_unless None before after = after

-- the live subscriptions but that of an id
abbrev pub live_without : ℕ → List Terms → List Terms
live_without id live = filter (λ terms. not (nat_eq id terms.id)) live

-- the registry in which the subscription of an id has ended
abbrev pub with_end : ℕ → Subscriptions → Subscriptions
with_end id registry = record registry { live = live_without id registry.live }

-- a receiver deletes its own subscription (RFC 8639 section 2.4.4)
abbrev pub delete_answer : Policy → Subscriptions → ℕ → ℕ → Result Unit Refused
delete_answer policy registry by id = done_unless (first_refusal (delete_reasons policy registry by id))

abbrev pub deleted_by : Policy → Subscriptions → ℕ → ℕ → Subscriptions
deleted_by policy registry by id = left_unless (first_refusal (delete_reasons policy registry by id)) registry (with_end id registry)

-- an operator kills any receiver's subscription (RFC 8639 section 2.4.5)
abbrev pub kill_answer : Policy → Subscriptions → ℕ → ℕ → Result Unit Refused
kill_answer policy registry by id = done_unless (first_refusal (kill_reasons policy registry by id))

abbrev pub killed_by : Policy → Subscriptions → ℕ → ℕ → Subscriptions
killed_by policy registry by id = left_unless (first_refusal (kill_reasons policy registry by id)) registry (with_end id registry)

-- a receiver asks for a full update of its own subscription (RFC 8641 section 4.4.4), which leaves the registry as it was
abbrev pub resync_answer : Policy → Subscriptions → ℕ → ℕ → Result Unit Refused
resync_answer policy registry by id = done_unless (first_refusal (resync_reasons policy registry by id))

-- a configured subscription is taken away (RFC 8639 section 2.5.4); its id stays taken
abbrev pub unconfigure_answer : Subscriptions → ℕ → Result Unit Refused
unconfigure_answer registry id = done_unless (first_refusal (unconfigure_reasons registry id))

abbrev pub unconfigured : Subscriptions → ℕ → Subscriptions
unconfigured registry id = left_unless (first_refusal (unconfigure_reasons registry id)) registry (with_end id registry)
