-- The registry of subscriptions, and its answers to calls (RFC 8639 sections 2.4 and 2.5, RFC 8641 section 4.4).
use Rattle.std.specs.Prelude.{◌≡◌, ℕ, ◌+◌, ◌≤◌, List, [], ◌∷◌, ◌++◌, length, find, sum_by, Bool, false, not, ◌||◌, nat_lt, nat_eq, Option, Some, None, is_none, unwrap_or, Result, Ok, Err, if◌then◌else◌}
use Rattle.std.specs.List.{AllByRecursion, slice_get}
use Rattle.yp_schema.specs.declared.schema.SchemaNode.{SchemaNode}
use Rattle.yp_nacm.specs.declared.policy.Policy.{Policy}
use Rattle.yp_nacm.specs.declared.execute.Operation.TheVariants.{Establish}
use Rattle.yp_nacm.specs.Decision.{may_call}
use Rattle.yp_terms.specs.declared.ask.Ask.{Ask}
use Rattle.yp_terms.specs.declared.refused.Refused.{Refused}
use Rattle.yp_terms.specs.declared.refused.Refused.TheVariants.{AccessDenied, EncodingUnsupported, DatastoreNotSubscribable, FilterUnsupported, PeriodUnsupported, InsufficientResources}
use Rattle.yp_terms.specs.Terms.{Terms, AreTermsOf, asked_by, asked_for, is_json, is_operational, is_too_short, shortest_period, with_anchor}
use Rattle.yp_terms.specs.Refusals.{Fails, Reason, first_refusal, or_refused}

-- the users and the names of the receivers, in the order of their declaration, how many ids were given to dynamic subscriptions so far, the ids that were configured so far, and the live subscriptions, in ascending order of their ids
pub record Subscriptions : Type 0 where
  pub users : List (List ℕ)
  pub names : List (List ℕ)
  pub given : ℕ
  pub taken : List ℕ
  pub live : List Terms

-- the registry that the first call finds
abbrev pub no_subscriptions : List (List ℕ) → List (List ℕ) → Subscriptions
no_subscriptions users names = record { users = users; names = names; given = 0; taken = []; live = [] }

-- ---- look-ups

-- the live subscription of an id, where there is one
abbrev pub live_at : ℕ → List Terms → Option Terms
live_at id live = find (λ terms. nat_eq id terms.id) live

-- the user of the receiver of this number
abbrev pub user_at : List (List ℕ) → ℕ → List ℕ
user_at users number = unwrap_or (slice_get users number) []

-- ---- ids and room

-- the id of the next dynamic subscription, where so many were given: ids rise from the first, and none is given twice
abbrev pub next_id : ℕ → ℕ
next_id given = 2147483648 + given

-- the last id
abbrev pub last_id : ℕ
last_id = 4294967295

-- how many feeds are live: one for each receiver of each live subscription
abbrev pub feeds : List Terms → ℕ
feeds live = sum_by (λ terms. length terms.receivers) live

-- how many feeds may be live
abbrev pub most_feeds : ℕ
most_feeds = 256

-- whether so many feeds more are too many, or no id is left
abbrev pub lacks_room : Subscriptions → ℕ → Bool
lacks_room registry new = nat_lt most_feeds (feeds registry.live + new) || nat_lt last_id (next_id registry.given)

-- the id of the next dynamic subscription, unless there is no room for it
abbrev pub free_id : Subscriptions → Option ℕ
free_id registry = if lacks_room registry 1 then None else Some (next_id registry.given)

-- ---- refusals

-- the reasons to refuse the establishment of a subscription (RFC 8639 section 2.4.2, RFC 8641 section 4.4.1), in their order
abbrev pub reasons_against : List SchemaNode → Policy → Subscriptions → ℕ → Ask → List Reason
reasons_against nodes policy registry by ask =
    (not (may_call policy (user_at registry.users by) Establish), AccessDenied)
    ∷ (not (is_json ask.encoding), EncodingUnsupported)
    ∷ (not (is_operational ask.datastore), DatastoreNotSubscribable)
    ∷ (is_none (asked_by nodes ask.filter), FilterUnsupported)
    ∷ (is_too_short ask.trigger, PeriodUnsupported shortest_period)
    ∷ (lacks_room registry 1, InsufficientResources)
    ∷ []

-- ---- calls

-- the terms that a receiver is given
abbrev pub terms_for : List SchemaNode → Subscriptions → ℕ → Ask → ℕ → Terms
terms_for nodes registry by ask now = record {
  id = next_id registry.given;
  receivers = by ∷ [];
  configured = false;
  asked = asked_for nodes ask.filter;
  trigger = with_anchor now ask.trigger;
}

-- one dynamic subscription more
abbrev pub with_terms : Subscriptions → Terms → Subscriptions
with_terms registry terms = record registry { given = registry.given + 1; live = registry.live ++ terms ∷ [] }

-- the registry after an establishment that is refused, or not
abbrev pub after_refusal : Option Refused → Subscriptions → Terms → Subscriptions
after_refusal (Some refusal) registry terms = registry
after_refusal None registry terms = with_terms registry terms

-- the registry after the establishment of a subscription by the receiver of this number at this tick, and the answer
abbrev pub established : List SchemaNode → Policy → Subscriptions → ℕ → Ask → ℕ → Subscriptions
established nodes policy registry by ask now = after_refusal (first_refusal (reasons_against nodes policy registry by ask)) registry (terms_for nodes registry by ask now)

abbrev pub establish_answer : List SchemaNode → Policy → Subscriptions → ℕ → Ask → ℕ → Result ℕ Refused
establish_answer nodes policy registry by ask now = or_refused (first_refusal (reasons_against nodes policy registry by ask)) (terms_for nodes registry by ask now).id

-- ---- what a call answers

-- an answer of a call is the definition's, but where memory ran out
abbrev pub Answers : Result ℕ Refused → Result ℕ Refused → Type 0
Answers (Ok id) answer = answer ≡ Ok id
Answers (Err refusal) answer = Fails refusal answer

-- ---- registries of a schema

-- each live subscription has terms of the schema, there are no more feeds than may be, and no id is past the last
pub record IsRegistryOf (nodes : List SchemaNode) (registry : Subscriptions) : Type 0 where
  pub terms : AllByRecursion (AreTermsOf nodes (length registry.users)) registry.live
  pub room : feeds registry.live ≤ most_feeds
  pub ids : next_id registry.given ≤ last_id + 1
