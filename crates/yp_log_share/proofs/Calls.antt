-- What one more call comes to.
use Rattle.std.proofs.Common.{◌≡◌, ℕ, ◌+◌, List, [], ◌∷◌, ◌++◌, length, length-append, Some, ap, sym, subst, ◌∙◌, arith}
use Rattle.yp_schema.specs.declared.schema.SchemaNode.{SchemaNode}
use Rattle.yp_journal.specs.declared.entry.Entry.{Entry}
use Rattle.yp_journal.specs.History.{JournalState, next_state, state_of}
use Rattle.yp_journal.specs.JournalLaws.{entries_more, position_of}
use Rattle.yp_log_share.specs.declared.seat.Call.{Call}
use Rattle.yp_published.specs.Histories.{Known, Begins, after_op}
use Rattle.yp_log_share.specs.Seats.{StandIn, call_of, calls_by}
use Rattle.yp_log_share.proofs.Seats.{called}

-- ---- the state

-- the state after a command is that of the journal with its entry
pub goes_on : (nodes : List SchemaNode) (opening state next : JournalState) (known after : Known) (entry : Entry) → state ≡ state_of nodes opening known.entries → next ≡ next_state nodes state entry.command
    → after ≡ after_op known (Some entry) → next ≡ state_of nodes opening after.entries
goes_on nodes opening state next known after entry is next_is after_is =
    next_is ∙ (ap (λ s. next_state nodes s entry.command) is ∙ (sym (entries_more nodes opening known.entries entry) ∙ ap (λ k. state_of nodes opening k.entries) (sym after_is)))

-- the position of the next entry
pub position_next : (nodes : List SchemaNode) (opening state : JournalState) (known : Known) → state ≡ state_of nodes opening known.entries → state.position + 1 ≡ opening.position + 1 + length known.entries
position_next nodes opening state known is =
    let here : state.position ≡ opening.position + length known.entries = ap (λ s. s.position) is ∙ position_of nodes opening known.entries in omega arith

pub one_longer : (known after : Known) (entry : Entry) → after ≡ after_op known (Some entry) → length after.entries ≡ length known.entries + 1
one_longer known after entry is = ap (λ k. length k.entries) is ∙ length-append known.entries (entry ∷ [])

-- ---- the seat

-- a call is that of an entry, by its parts
call_is : (call : Call) (position : ℕ) (entry : Entry) → call.index ≡ entry.index → call.position ≡ position → call.command ≡ entry.command → call.reply ≡ entry.reply → call ≡ call_of position entry
call_is call position entry index at command reply = λ i. record { index = index i; position = at i; command = command i; reply = reply i }

-- the calls of a seat stand in the journal with one entry more
pub stands_on : (lane position : ℕ) (calls kept more : List Call) (seen known after : Known) (entry : Entry) (call : Call) → more ≡ kept ++ call ∷ [] → kept ≡ calls → after ≡ after_op known (Some entry)
    → Begins seen known → entry.lane ≡ lane → StandIn calls (calls_by lane position seen.entries)
    → call.index ≡ entry.index → call.position ≡ position + length known.entries → call.command ≡ entry.command → call.reply ≡ entry.reply → StandIn more (calls_by lane position after.entries)
stands_on lane position calls kept more seen known after entry call more_is same after_is begins of_lane stand index at command reply =
    let is = call_is call (position + length known.entries) entry index at command reply in
    let all = called lane position calls seen.entries known.entries entry begins.entries of_lane stand in
    let calls_are : more ≡ calls ++ call_of (position + length known.entries) entry ∷ [] = more_is ∙ (ap (λ cs. cs ++ call ∷ []) same ∙ ap (λ c. calls ++ c ∷ []) is) in
    subst (λ k. StandIn more (calls_by lane position k.entries)) (sym after_is) (subst (λ cs. StandIn cs (calls_by lane position (known.entries ++ entry ∷ []))) (sym calls_are) all)

pub one_call_more : (calls kept more : List Call) (call : Call) → more ≡ kept ++ call ∷ [] → kept ≡ calls → length more ≡ length calls + 1
one_call_more calls kept more call is same = ap length is ∙ (length-append kept (call ∷ []) ∙ ap (λ cs. length cs + 1) same)
