-- When a subscription is live for a receiver: the registry has it, and it is sent to this receiver.
use Rattle.std.specs.Prelude.{◌≡◌, ℕ, ◌==◌, true, List, Option, IsSomeAnd}
use Rattle.std.specs.List.{list_any}
use Rattle.yp_schema.specs.declared.schema.SchemaNode.{SchemaNode}
use Rattle.yp_terms.specs.Terms.{Terms}
use Rattle.yp_registry.specs.Registry.{live_at}
use Rattle.yp_journal.specs.declared.entry.Entry.{Entry}
use Rattle.yp_journal.specs.declared.receiver.ReceiverInfo.{ReceiverInfo}
use Rattle.yp_journal.specs.History.{state_at}

-- there are terms, and they name the receiver of this number
abbrev pub AreTermsFor : ℕ → Option Terms → Type 0
AreTermsFor receiver found = IsSomeAnd found (λ terms. list_any (λ other. other == receiver) terms.receivers ≡ true)

-- at a position of a journal the registry has the subscription of an id, for a receiver
abbrev pub IsLiveAt : List SchemaNode → List ReceiverInfo → List Entry → ℕ → ℕ → ℕ → Type 0
IsLiveAt nodes receivers entries receiver id n = AreTermsFor receiver (live_at id (state_at nodes receivers entries n).registry.live)
