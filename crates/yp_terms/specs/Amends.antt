-- What the terms of a live subscription are amended with, and to what (RFC 8639 sections 2.4.3 and 2.5.3, RFC 8641 section 4.4.2).
use Rattle.std.specs.Prelude.{ℕ, List, [], ◌∷◌, Bool, false, Option, Some, None, is_none, option_map, unwrap_or}
use Rattle.yp_base.specs.declared.notice.Trigger.{Trigger}
use Rattle.yp_base.specs.declared.notice.Trigger.TheVariants.{Periodic, OnChange}
use Rattle.yp_filter.specs.Filters.{Asked}
use Rattle.yp_schema.specs.declared.schema.SchemaNode.{SchemaNode}
use Rattle.yp_terms.specs.declared.ask.Amend.{Amend}
use Rattle.yp_terms.specs.declared.ask.FilterAsk.{FilterAsk}
use Rattle.yp_terms.specs.declared.refused.Refused.TheVariants.{FilterUnsupported, PeriodUnsupported, InvalidTrigger}
use Rattle.yp_terms.specs.Terms.{Terms, HasAnchor, asked_by, asked_for, differ_in_kind, is_too_short, shortest_period, with_anchor}
use Rattle.yp_terms.specs.Refusals.{Reason, missing}

-- ---- what is given

-- what the filter says that is given, where one is
abbrev pub given_filter : List SchemaNode → Option FilterAsk → Option Asked
given_filter nodes filter = option_map (asked_for nodes) filter

-- whether a filter is given that says nothing
abbrev pub is_unread : List SchemaNode → Option FilterAsk → Bool
is_unread nodes None = false
is_unread nodes (Some filter) = is_none (asked_by nodes filter)

-- whether a trigger is given whose period is too short
abbrev pub is_given_short : Option Trigger → Bool
is_given_short None = false
is_given_short (Some trigger) = is_too_short trigger

-- an anchor that is given lies within the ticks
abbrev pub HasGivenAnchor : Option Trigger → Type 0
HasGivenAnchor None = Unit {0}
HasGivenAnchor (Some trigger) = HasAnchor trigger

-- whether a trigger is given that is of the other kind than the subscription's
abbrev pub is_other_kind : Option Trigger → Option Terms → Bool
is_other_kind None found = false
is_other_kind (Some trigger) None = false
is_other_kind (Some trigger) (Some terms) = differ_in_kind trigger terms.trigger

-- ---- what becomes of the terms

-- on change, another dampening period alone
abbrev pub with_dampening : ℕ → Trigger → Trigger
with_dampening dampening (Periodic period anchor) = Periodic period anchor
with_dampening dampening (OnChange before sync excluded) = OnChange dampening sync excluded

-- a trigger by one that is given at this tick: it stays of its kind; a period is counted from the anchor that is given, or else from this tick; of one on change the dampening period alone can be amended
abbrev pub renewed_trigger : ℕ → Trigger → Trigger → Trigger
renewed_trigger now (Periodic period anchor) (Periodic before had) = with_anchor now (Periodic period anchor)
renewed_trigger now (Periodic period anchor) (OnChange dampening sync excluded) = OnChange dampening sync excluded
renewed_trigger now (OnChange dampening sync excluded) kept = with_dampening dampening kept

-- a trigger stays as it is, with its anchor, where none is given
abbrev pub amended_trigger : ℕ → Option Trigger → Trigger → Trigger
amended_trigger now None kept = kept
amended_trigger now (Some given) kept = renewed_trigger now given kept

-- terms by what a filter that is given says, and by a trigger that is given: what isn't given stays
abbrev pub with_given : ℕ → Option Asked → Option Trigger → Terms → Terms
with_given now asked trigger terms = record terms { asked = unwrap_or asked terms.asked; trigger = amended_trigger now trigger terms.trigger }

-- terms by what they are amended with at this tick
abbrev pub amended_terms : List SchemaNode → Amend → ℕ → Terms → Terms
amended_terms nodes amend now terms = with_given now (given_filter nodes amend.filter) amend.trigger terms

-- ---- reasons

-- the reasons to refuse an amendment of the subscription that was found, in their order
abbrev pub amend_reasons : List SchemaNode → Amend → Option Terms → List Reason
amend_reasons nodes amend found =
    (is_unread nodes amend.filter, FilterUnsupported)
    ∷ (is_given_short amend.trigger, PeriodUnsupported shortest_period)
    ∷ missing false found
    ∷ (is_other_kind amend.trigger found, InvalidTrigger)
    ∷ []
