-- What is left of a legal journal.
use Rattle.std.proofs.Common.{◌≡◌, ℕ, ◌+◌, ◌<◌, ap, subst, sym, ◌∙◌, List, [], ◌∷◌, ◌++◌, length, take, drop, get_or, add-one, drop-cons}
use Rattle.std.proofs.Math.Seq.{take-suc}
use Rattle.yp_schema.specs.declared.schema.SchemaNode.{SchemaNode}
use Rattle.yp_journal.specs.declared.entry.Entry.{Entry}
use Rattle.yp_journal.specs.declared.receiver.ReceiverInfo.{ReceiverInfo}
use Rattle.yp_journal.specs.History.{IsLegal, JournalState, first_state, next_state, state_of}

-- a journal that goes on where another ends leaves the state of both
abbrev pub StateBoth : Type 0
StateBoth = (nodes : List SchemaNode) (state : JournalState) (entries more : List Entry) → state_of nodes state (entries ++ more) ≡ state_of nodes (state_of nodes state entries) more

-- what comes after some entries of a legal journal is legal from the state that they leave
pub legal_rest : (nodes : List SchemaNode) (state : JournalState) (entries more : List Entry) → IsLegal nodes state (entries ++ more) → IsLegal nodes (state_of nodes state entries) more
legal_rest nodes state [] more legal = legal
legal_rest nodes state (entry ∷ entries) more legal = legal_rest nodes (next_state nodes state entry.command) entries more legal.1

-- so what a worker has not absorbed yet is legal from its state
pub legal_left : StateBoth → (nodes : List SchemaNode) (opening state : JournalState) (receivers : List ReceiverInfo) (before absorbed fresh got : List Entry) → opening ≡ state_of nodes (first_state receivers) before
    → state ≡ state_of nodes (first_state receivers) (before ++ absorbed) → got ≡ absorbed ++ fresh → IsLegal nodes opening got → IsLegal nodes state fresh
legal_left both nodes opening state receivers before absorbed fresh got goes stands all legal =
    let here : state_of nodes opening absorbed ≡ state =
    ap (λ (s : JournalState). state_of nodes s absorbed) goes ∙ (sym (both nodes (first_state receivers) before absorbed) ∙ sym stands) in
    subst (λ (s : JournalState). IsLegal nodes s fresh) here (legal_rest nodes opening absorbed fresh (subst (λ (those : List Entry). IsLegal nodes opening those) all legal))

-- ---- entries, one after another

left_there : (fresh : List Entry) (index : ℕ) (entry : Entry) → index < length fresh → entry ≡ get_or fresh index entry → drop index fresh ≡ entry ∷ drop (index + 1) fresh
left_there fresh index entry within is = drop-cons fresh index entry within ∙ (λ i. sym is i ∷ drop (sym (add-one index) i) fresh)

-- what is left after one more is legal from the state that this leaves
pub legal_next : (nodes : List SchemaNode) (state next : JournalState) (fresh : List Entry) (index : ℕ) (entry : Entry) → index < length fresh → entry ≡ get_or fresh index entry → IsLegal nodes state (drop index fresh)
    → next ≡ next_state nodes state entry.command → IsLegal nodes next (drop (index + 1) fresh)
legal_next nodes state next fresh index entry within is legal leads =
    let all : IsLegal nodes state (entry ∷ drop (index + 1) fresh) = subst (λ (those : List Entry). IsLegal nodes state those) (left_there fresh index entry within is) legal in
    subst (λ (s : JournalState). IsLegal nodes s (drop (index + 1) fresh)) (sym leads) all.1

-- one more of them
pub one_taken : (fresh : List Entry) (index : ℕ) (entry : Entry) → index < length fresh → entry ≡ get_or fresh index entry → take (index + 1) fresh ≡ take index fresh ++ entry ∷ []
one_taken fresh index entry within is = ap (λ (n : ℕ). take n fresh) (add-one index) ∙ (take-suc fresh index entry within ∙ ap (λ (x : Entry). take index fresh ++ x ∷ []) (sym is))
