-- What the moments of a journal come to: as many as entries, and at each position what a subscription selects there.
use Rattle.std.proofs.Common.{◌≡◌, ℕ, zero, suc, refl, ap, List, [], ◌∷◌, length, take}
use Rattle.yp_base.specs.declared.row.Row.{Row}
use Rattle.yp_schema.specs.declared.schema.SchemaNode.{SchemaNode}
use Rattle.yp_journal.specs.declared.entry.Entry.{Entry}
use Rattle.yp_journal.specs.declared.receiver.ReceiverInfo.{ReceiverInfo}
use Rattle.yp_journal.specs.History.{JournalState, first_state, next_state, state_of, state_at}
use Rattle.yp_mirror.specs.Stories.{want_after, story_of}
use Rattle.yp_moment.specs.Entries.{selected_at, moments_from, moments_of}

-- a journal has as many moments as entries
pub moments_count : (nodes : List SchemaNode) (state : JournalState) (entries : List Entry) → length (moments_from nodes state entries) ≡ length entries
moments_count nodes state [] = refl
moments_count nodes state (entry ∷ entries) = ap (λ (n : ℕ). suc n) (moments_count nodes (next_state nodes state entry.command) entries)

selected_after : (nodes : List SchemaNode) (state : JournalState) (entries : List Entry) (receiver id n : ℕ) (rows : List Row) → rows ≡ selected_at nodes state id receiver
    → want_after receiver id rows (take n (moments_from nodes state entries)) ≡ selected_at nodes (state_of nodes state (take n entries)) id receiver
selected_after nodes state entries receiver id zero rows is = is
selected_after nodes state [] receiver id (suc n) rows is = is
selected_after nodes state (entry ∷ entries) receiver id (suc n) rows is =
    let next : JournalState = next_state nodes state entry.command in
    selected_after nodes next entries receiver id n (selected_at nodes next id receiver) refl

-- at each position what the subscription selects there; past the last entry, what it selects after that
pub wanted : (nodes : List SchemaNode) (receivers : List ReceiverInfo) (entries : List Entry) (receiver id n : ℕ) → (story_of (moments_of nodes receivers entries) receiver).want id n ≡ selected_at nodes (state_at nodes receivers entries n) id receiver
wanted nodes receivers entries receiver id n = selected_after nodes (first_state receivers) entries receiver id n [] refl
