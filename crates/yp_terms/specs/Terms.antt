-- What a subscription is asked for and what it is given (RFC 8639 section 2.4.2, RFC 8641 section 4.4.1).
use Rattle.std.specs.Prelude.{◌≡◌, ◌≤◌, ◌<◌, ◌==◌, ℕ, ℤ, pos, List, Bool, true, false, not, ◌&&◌, ◌||◌, nat_lt, Option, Some, None, unwrap_or, Result, Ok, Err, codes}
use Rattle.std.specs.List.{AllByRecursion, list_any}
use Rattle.std.specs.List.Sorted.{IsStrictlyIncreasing}
use Rattle.yp_base.specs.declared.notice.Trigger.{Trigger}
use Rattle.yp_base.specs.declared.notice.Trigger.TheVariants.{Periodic, OnChange}
use Rattle.yp_base.specs.Types.{same_text}
use Rattle.yp_schema.specs.declared.schema.SchemaNode.{SchemaNode}
use Rattle.yp_filter.specs.declared.fault.FilterFault.{FilterFault}
use Rattle.yp_filter.specs.Filters.{Asked, all_rows}
use Rattle.yp_filter.specs.Fits.{filter_fits}
use Rattle.yp_filter.specs.Reading.{filter_in}
use Rattle.yp_time.specs.Ticks.{IsAnchor}
use Rattle.yp_terms.specs.declared.ask.FilterAsk.{FilterAsk}
use Rattle.yp_terms.specs.declared.ask.FilterAsk.TheVariants.{All, Subtree, XPath}

-- the terms of a live subscription: its id, the numbers of the receivers that it is for, whether it was configured, what its filter says, and its trigger, with the anchor of a periodic one
pub record Terms : Type 0 where
  pub id : ℕ
  pub receivers : List ℕ
  pub configured : Bool
  pub asked : Asked
  pub trigger : Trigger

-- whether the receiver of this number established a subscription: one receiver is one session
abbrev pub is_established_by : ℕ → Terms → Bool
is_established_by by terms = not terms.configured && list_any (λ receiver. receiver == by) terms.receivers

-- ---- encodings and datastores

-- whether an encoding is JSON's (RFC 8639 section 4, identity encode-json), by its name alone or with its module's
abbrev pub is_json : List ℕ → Bool
is_json encoding = same_text encoding (codes "encode-json") || same_text encoding (codes "ietf-subscribed-notifications:encode-json")

-- whether a datastore is the operational one (RFC 8342 section 5.3), the only one that can be subscribed to
abbrev pub is_operational : List ℕ → Bool
is_operational datastore = same_text datastore (codes "ietf-datastores:operational")

-- ---- filters

-- what is read, where it has no fault
abbrev pub if_read : Result Asked FilterFault → Option Asked
if_read (Ok asked) = Some asked
if_read (Err fault) = None

-- what a filter that is asked for says: without one all rows are selected; an XPath filter, and a subtree filter that can't be read, say nothing
abbrev pub asked_by : List SchemaNode → FilterAsk → Option Asked
asked_by nodes All = Some all_rows
asked_by nodes (Subtree json) = if_read (filter_in nodes json)
asked_by nodes XPath = None

-- what the filter that is given says
abbrev pub asked_for : List SchemaNode → FilterAsk → Asked
asked_for nodes filter = unwrap_or (asked_by nodes filter) all_rows

-- ---- triggers

-- whether updates are periodic, and not on change
abbrev pub has_period : Trigger → Bool
has_period (Periodic period anchor) = true
has_period (OnChange dampening sync excluded) = false

-- whether one of two triggers is periodic and the other on change
abbrev pub differ_in_kind : Trigger → Trigger → Bool
differ_in_kind (Periodic period anchor) other = not (has_period other)
differ_in_kind (OnChange dampening sync excluded) other = has_period other

-- whether a trigger is on change with a full update at first (sync-on-start of RFC 8641 section 3.1)
abbrev pub has_sync : Trigger → Bool
has_sync (Periodic period anchor) = false
has_sync (OnChange dampening sync excluded) = sync

-- the shortest period, in ticks of a hundredth of a second
abbrev pub shortest_period : ℕ
shortest_period = 10

-- whether a period is shorter than the shortest
abbrev pub is_too_short : Trigger → Bool
is_too_short (Periodic period anchor) = nat_lt period shortest_period
is_too_short (OnChange dampening sync excluded) = false

-- the anchor, which is the present tick where none is given (RFC 8641 section 4.2)
abbrev pub anchored : ℕ → Option ℤ → ℤ
anchored now (Some anchor) = anchor
anchored now None = pos now

-- a trigger with its anchor
abbrev pub with_anchor : ℕ → Trigger → Trigger
with_anchor now (Periodic period anchor) = Periodic period (Some (anchored now anchor))
with_anchor now (OnChange dampening sync excluded) = OnChange dampening sync excluded

-- ---- terms of a schema

-- a trigger that can be followed: a period is no shorter than the shortest, and has its anchor
abbrev pub IsFollowed : Trigger → Type 0
IsFollowed (Periodic period (Some anchor)) = shortest_period ≤ period × IsAnchor anchor
IsFollowed (Periodic period None) = ⊥
IsFollowed (OnChange dampening sync excluded) = Unit {0}

-- terms of a schema with so many receivers: the filter fits the schema, the trigger can be followed, each receiver is there, and they are in the order of their declaration, so none stands twice
pub record AreTermsOf (nodes : List SchemaNode) (count : ℕ) (terms : Terms) : Type 0 where
  pub filter : filter_fits nodes terms.asked ≡ true
  pub trigger : IsFollowed terms.trigger
  pub receivers : AllByRecursion (λ receiver. receiver < count) terms.receivers
  pub in_order : IsStrictlyIncreasing terms.receivers

-- ---- what can be asked

-- an anchor that is given lies within the ticks
abbrev pub HasAnchor : Trigger → Type 0
HasAnchor (Periodic period (Some anchor)) = IsAnchor anchor
HasAnchor (Periodic period None) = Unit {0}
HasAnchor (OnChange dampening sync excluded) = Unit {0}
