-- What a legal journal tells a receiver of a subscription: which entries change what is asked for or the rules.
use Rattle.std.proofs.Common.{◌≡◌, ℕ, zero, suc, ◌+◌, ◌≤◌, refl, sym, ap, subst, ◌∙◌, Bool, false, not, ◌||◌, List, [], ◌∷◌, ◌++◌, length, take, arith}
use Rattle.std.proofs.lemmas.Bool.{or_parts}
use Rattle.yp_schema.specs.declared.schema.SchemaNode.{SchemaNode}
use Rattle.yp_nacm.specs.Same.{are_same_rules}
use Rattle.yp_journal.specs.declared.entry.Entry.{Entry}
use Rattle.yp_journal.specs.declared.receiver.ReceiverInfo.{ReceiverInfo}
use Rattle.yp_journal.specs.History.{JournalState, first_state, next_state, state_of, state_at, rules_at}
use Rattle.yp_attempt.specs.Moments.{Moment}
use Rattle.yp_mirror.specs.Stories.{is_control_of, changes_after, story_of}
use Rattle.yp_moment.specs.Entries.{moment_of, moments_from, moments_of}

-- the moments of entries after others come after the moments of these
pub moments_split : (nodes : List SchemaNode) (state : JournalState) (before after : List Entry) → moments_from nodes state (before ++ after) ≡ moments_from nodes state before ++ moments_from nodes (state_of nodes state before) after
moments_split nodes state [] after = refl
moments_split nodes state (first ∷ before) after = ap (λ (moments : List Moment). moment_of nodes state first ∷ moments) (moments_split nodes (next_state nodes state first.command) before after)

pub one_more : (nodes : List SchemaNode) (receivers : List ReceiverInfo) (entries : List Entry) (entry : Entry)
    → moments_of nodes receivers (entries ++ entry ∷ []) ≡ moments_of nodes receivers entries ++ moment_of nodes (state_of nodes (first_state receivers) entries) entry ∷ []
one_more nodes receivers entries entry = moments_split nodes (first_state receivers) entries (entry ∷ [])

-- ---- which entries change what a subscription asks for, or the rules

-- the rules of two states differ for a receiver
abbrev pub differ : ℕ → JournalState → JournalState → Bool
differ receiver before after = not (are_same_rules (rules_at before receiver) (rules_at after receiver))

changed_after : (nodes : List SchemaNode) (state : JournalState) (before : List Entry) (entry : Entry) (after : List Entry) (receiver id : ℕ) (b : Bool)
    → changes_after receiver id b (take (suc (length before)) (moments_from nodes state (before ++ entry ∷ after)))
    ≡ (is_control_of id (moment_of nodes (state_of nodes state before) entry).act || differ receiver (state_of nodes state before) (next_state nodes (state_of nodes state before) entry.command))
changed_after nodes state [] entry after receiver id b = refl
changed_after nodes state (first ∷ before) entry after receiver id b =
    let next : JournalState = next_state nodes state first.command in
    changed_after nodes next before entry after receiver id (is_control_of id (moment_of nodes state first).act || differ receiver state next)

-- by each entry whether it modifies, synchronises again or ends the subscription, or the rules of the receiver's user change
pub changed : (nodes : List SchemaNode) (receivers : List ReceiverInfo) (entries : List Entry) (receiver id : ℕ) (before : List Entry) (entry : Entry) (after : List Entry) → entries ≡ before ++ entry ∷ after
    → (story_of (moments_of nodes receivers entries) receiver).changes id (length before + 1)
    ≡ (is_control_of id (moment_of nodes (state_of nodes (first_state receivers) before) entry).act
    || not (are_same_rules (rules_at (state_of nodes (first_state receivers) before) receiver) (rules_at (next_state nodes (state_of nodes (first_state receivers) before) entry.command) receiver)))
changed nodes receivers entries receiver id before entry after is =
    let same : length before + 1 ≡ suc (length before) = omega arith in
    (λ i. changes_after receiver id false (take (same i) (moments_of nodes receivers (is i))))
    ∙ changed_after nodes (first_state receivers) before entry after receiver id false

-- so where it changes nothing, the rules stay
differ_after : (nodes : List SchemaNode) (state : JournalState) (entries : List Entry) (receiver id n : ℕ) (b : Bool) → suc n ≤ length entries
    → changes_after receiver id b (take (suc n) (moments_from nodes state entries)) ≡ false → differ receiver (state_of nodes state (take n entries)) (state_of nodes state (take (suc n) entries)) ≡ false
differ_after nodes state [] receiver id n b within steady = absurd (omega (arith, within))
differ_after nodes state (entry ∷ entries) receiver id zero b within steady =
    (or_parts (is_control_of id (moment_of nodes state entry).act) (differ receiver state (next_state nodes state entry.command)) steady).1
differ_after nodes state (entry ∷ entries) receiver id (suc n) b within steady =
    let next : JournalState = next_state nodes state entry.command in
    differ_after nodes next entries receiver id n (is_control_of id (moment_of nodes state entry).act || differ receiver state next) (omega (arith, within)) steady

pub steady_rules : (nodes : List SchemaNode) (receivers : List ReceiverInfo) (entries : List Entry) (receiver id n : ℕ) → n + 1 ≤ length entries
    → (story_of (moments_of nodes receivers entries) receiver).changes id (n + 1) ≡ false → differ receiver (state_at nodes receivers entries n) (state_at nodes receivers entries (n + 1)) ≡ false
steady_rules nodes receivers entries receiver id n within steady =
    let same : n + 1 ≡ suc n = omega arith in
    subst (λ (k : ℕ). changes_after receiver id false (take k (moments_of nodes receivers entries)) ≡ false → differ receiver (state_at nodes receivers entries n) (state_at nodes receivers entries k) ≡ false) (sym same)
    (differ_after nodes (first_state receivers) entries receiver id n false (omega (arith, within))) steady
