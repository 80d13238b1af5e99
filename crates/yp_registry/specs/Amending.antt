-- The calls that amend a live subscription (RFC 8639 sections 2.4.3 and 2.5.3, RFC 8641 section 4.4.2).
use Rattle.std.specs.Prelude.{ℕ, List, [], ◌∷◌, nat_eq, Result, if◌then◌else◌}
use Rattle.yp_nacm.specs.declared.policy.Policy.{Policy}
use Rattle.yp_nacm.specs.declared.execute.Operation.TheVariants.{Modify}
use Rattle.yp_schema.specs.declared.schema.SchemaNode.{SchemaNode}
use Rattle.yp_terms.specs.declared.ask.Amend.{Amend}
use Rattle.yp_terms.specs.declared.refused.Refused.{Refused}
use Rattle.yp_terms.specs.Terms.{Terms}
use Rattle.yp_terms.specs.Refusals.{Reason, first_refusal}
use Rattle.yp_terms.specs.Amends.{amend_reasons, amended_terms}
use Rattle.yp_registry.specs.Registry.{Subscriptions}
use Rattle.yp_registry.specs.Calls.{configured_at, denied, done_unless, left_unless, own_at}

-- the live subscriptions with a change of that of an id
abbrev pub changed_terms : ℕ → (Terms → Terms) → List Terms → List Terms
changed_terms id change [] = []
changed_terms id change (terms ∷ live) = if nat_eq id terms.id then change terms ∷ live else terms ∷ changed_terms id change live

-- the registry with a change of the subscription of an id
abbrev pub with_change : ℕ → (Terms → Terms) → Subscriptions → Subscriptions
with_change id change registry = record registry { live = changed_terms id change registry.live }

-- ---- calls

-- a receiver modifies its own subscription (RFC 8639 section 2.4.3, RFC 8641 section 4.4.2)
abbrev pub modify_reasons : List SchemaNode → Policy → Subscriptions → ℕ → ℕ → Amend → List Reason
modify_reasons nodes policy registry by id amend = denied policy registry by Modify ∷ amend_reasons nodes amend (own_at by id registry.live)

abbrev pub modify_answer : List SchemaNode → Policy → Subscriptions → ℕ → ℕ → Amend → Result Unit Refused
modify_answer nodes policy registry by id amend = done_unless (first_refusal (modify_reasons nodes policy registry by id amend))

abbrev pub modified_by : List SchemaNode → Policy → Subscriptions → ℕ → ℕ → Amend → ℕ → Subscriptions
modified_by nodes policy registry by id amend now = left_unless (first_refusal (modify_reasons nodes policy registry by id amend)) registry (with_change id (amended_terms nodes amend now) registry)

-- a configured subscription is modified (RFC 8639 section 2.5.3)
abbrev pub reconfigure_reasons : List SchemaNode → Subscriptions → ℕ → Amend → List Reason
reconfigure_reasons nodes registry id amend = amend_reasons nodes amend (configured_at id registry.live)

abbrev pub reconfigure_answer : List SchemaNode → Subscriptions → ℕ → Amend → Result Unit Refused
reconfigure_answer nodes registry id amend = done_unless (first_refusal (reconfigure_reasons nodes registry id amend))

abbrev pub reconfigured : List SchemaNode → Subscriptions → ℕ → Amend → ℕ → Subscriptions
reconfigured nodes registry id amend now = left_unless (first_refusal (reconfigure_reasons nodes registry id amend)) registry (with_change id (amended_terms nodes amend now) registry)
