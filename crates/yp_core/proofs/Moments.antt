-- The moments of the first entries of a journal, and of the one that comes next.
use Rattle.std.proofs.Common.{◌≡◌, ℕ, zero, suc, ◌+◌, refl, ap, subst, ◌∙◌, List, [], ◌∷◌, ◌++◌, take, Some, arith}
use Rattle.std.specs.List.{slice_get}
use Rattle.std.proofs.lemmas.Option.{same_Some, none-some}
use Rattle.yp_schema.specs.declared.schema.SchemaNode.{SchemaNode}
use Rattle.yp_journal.specs.declared.entry.Entry.{Entry}
use Rattle.yp_journal.specs.declared.receiver.ReceiverInfo.{ReceiverInfo}
use Rattle.yp_journal.specs.History.{JournalState, first_state, next_state, state_of}
use Rattle.yp_attempt.specs.Moments.{Moment, MayFollow, AllMayFollow}
use Rattle.yp_moment.specs.Entries.{moment_of, moments_from, moments_of}
use Rattle.yp_core.proofs.Elements.{split_at, take_more}
use Rattle.yp_core.proofs.Steps.{follows_there}

-- one entry more is one moment more
abbrev pub OneMore : Type 0
OneMore = (nodes : List SchemaNode) (receivers : List ReceiverInfo) (entries : List Entry) (entry : Entry)
    → moments_of nodes receivers (entries ++ entry ∷ []) ≡ moments_of nodes receivers entries ++ moment_of nodes (state_of nodes (first_state receivers) entries) entry ∷ []

-- the moment of an entry
pub moment_there : (nodes : List SchemaNode) (state : JournalState) (entries : List Entry) (k : ℕ) (entry : Entry) → slice_get entries k ≡ Some entry
    → slice_get (moments_from nodes state entries) k ≡ Some (moment_of nodes (state_of nodes state (take k entries)) entry)
moment_there nodes state [] k entry e = absurd (none-some entry e)
moment_there nodes state (x ∷ entries) zero entry e = ap (λ (one : Entry). Some (moment_of nodes state one)) (same_Some x entry e)
moment_there nodes state (x ∷ entries) (suc k) entry e = moment_there nodes (next_state nodes state x.command) entries k entry e

-- those before it, it, and those after it
moments_split : (nodes : List SchemaNode) (state : JournalState) (before : List Entry) (entry : Entry) (after : List Entry)
    → moments_from nodes state (before ++ entry ∷ after)
    ≡ moments_from nodes state before ++ moment_of nodes (state_of nodes state before) entry ∷ moments_from nodes (next_state nodes (state_of nodes state before) entry.command) after
moments_split nodes state [] entry after = refl
moments_split nodes state (x ∷ before) entry after = ap (λ (ms : List Moment). moment_of nodes state x ∷ ms) (moments_split nodes (next_state nodes state x.command) before entry after)

-- the moment of an entry may come after those of the entries before it
pub moment_follows : (nodes : List SchemaNode) (receivers : List ReceiverInfo) (entries : List Entry) (journal : List Moment) (k : ℕ) (entry : Entry) → AllMayFollow [] journal → journal ≡ moments_of nodes receivers entries → slice_get entries k ≡ Some entry
    → MayFollow (moments_of nodes receivers (take k entries)) (moment_of nodes (state_of nodes (first_state receivers) (take k entries)) entry)
moment_follows nodes receivers entries journal k entry all is e =
    let before : List Entry = take k entries in
    let parts = split_at entries k entry e in
    let m : Moment = moment_of nodes (state_of nodes (first_state receivers) before) entry in
    let after : List Moment = moments_from nodes (next_state nodes (state_of nodes (first_state receivers) before) entry.command) parts.0 in
    let split : journal ≡ moments_of nodes receivers before ++ m ∷ after =
    is ∙ (ap (λ (es : List Entry). moments_of nodes receivers es) parts.1 ∙ moments_split nodes (first_state receivers) before entry parts.0) in
    follows_there [] (moments_of nodes receivers before) m after (subst (λ (ms : List Moment). AllMayFollow [] ms) split all)

-- the entries up to one that comes next
pub one_entry_more : (entries : List Entry) (k : ℕ) (entry : Entry) → slice_get entries k ≡ Some entry → take (k + 1) entries ≡ take k entries ++ entry ∷ []
one_entry_more entries k entry e = let more : k + 1 ≡ suc k = omega arith in ap (λ (n : ℕ). take n entries) more ∙ take_more entries k entry e
