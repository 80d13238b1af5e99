-- A worker stands for entries and answers of a journal after each step.
use Rattle.std.proofs.Common.{◌≡◌, ℕ, List, [], ◌∷◌, ◌++◌, None, Some, Option, ap, subst, ◌∙◌}
use Rattle.yp_schema.specs.declared.schema.SchemaNode.{SchemaNode}
use Rattle.yp_journal.specs.declared.entry.Entry.{Entry}
use Rattle.yp_journal.specs.declared.receiver.ReceiverInfo.{ReceiverInfo}
use Rattle.yp_journal.specs.History.{JournalState, first_state, state_of}
use Rattle.yp_attempt.specs.Tracks.{Answer}
use Rattle.yp_slot.specs.Steps.{answer_of}
use Rattle.yp_slot.specs.declared.settling.Settled.{Settled}
use Rattle.yp_worker.specs.declared.offering.Sent.{Sent}
use Rattle.yp_worker.specs.declared.worker.Worker.{Worker}
use Rattle.yp_worker.specs.Workers.{HasFound, HasOffered, IsAtWork, IsIdle, IsIdleWorkerOf, IsOffering, IsWorkerOf}
use Rattle.world_cases.specs.Companions.{Accompanies}

-- what a look finds
abbrev pub Looks : List SchemaNode → Worker → Option Sent → Worker → Type 0
Looks nodes before found after = (start : ℕ) (receivers : List ReceiverInfo) (mine : List ℕ) (entries : List Entry) (answers : List Answer)
    → IsWorkerOf nodes start receivers mine entries answers before → HasFound nodes start receivers mine entries answers found after

-- what an answer makes of a worker whose offer is out
abbrev pub Settles : Settled → Worker → Worker → Type 0
Settles settled before after = (nodes : List SchemaNode) (start : ℕ) (receivers : List ReceiverInfo) (mine : List ℕ) (entries : List Entry) (answers : List Answer) (sent : Sent)
    → HasOffered nodes start receivers mine entries answers sent before → IsWorkerOf nodes start receivers mine entries (answers ++ answer_of settled ∷ []) after

-- what an entry makes of a worker that has nothing to offer
abbrev pub Accepts : List SchemaNode → Entry → Worker → Worker → Type 0
Accepts nodes entry before after = (start : ℕ) (receivers : List ReceiverInfo) (mine : List ℕ) (entries : List Entry) (answers : List Answer)
    → IsIdleWorkerOf nodes start receivers mine entries answers before → IsWorkerOf nodes start receivers mine (entries ++ entry ∷ []) answers after

-- the receivers of a journal stay
abbrev pub ReceiversStay : Type 0
ReceiversStay = (nodes : List SchemaNode) (state : JournalState) (entries : List Entry) → (state_of nodes state entries).receivers ≡ state.receivers

module _ (nodes : List SchemaNode) (receivers : List ReceiverInfo) (before : Worker) (is : Accompanies nodes receivers before) where
  pub at_work : IsAtWork nodes before
  at_work = record { start = is.start; receivers = receivers; mine = is.mine; entries = is.entries; answers = is.answers; stands = is.stands }

  module _ (found : Option Sent) (after : Worker) (looks : Looks nodes before found after) where
    there : (at : Option Sent) → found ≡ at → HasFound nodes is.start receivers is.mine is.entries is.answers at after
    there at e = subst (λ (f : Option Sent). HasFound nodes is.start receivers is.mine is.entries is.answers f after) e (looks is.start receivers is.mine is.entries is.answers is.stands)

    -- ---- where it has something to offer

    pub offering : (sent : Sent) → found ≡ Some sent → IsOffering nodes after
    offering sent e = record { start = is.start; receivers = receivers; mine = is.mine; entries = is.entries; answers = is.answers; sent = sent; offered = there (Some sent) e }

    -- it stands for one answer more
    pub follows_answer : (sent : Sent) → found ≡ Some sent → (settled : Settled) (left : Worker) → Settles settled after left → Accompanies nodes receivers left
    follows_answer sent e settled left settles = record {
      start = is.start;
      mine = is.mine;
      entries = is.entries;
      answers = is.answers ++ answer_of settled ∷ [];
      stands = settles nodes is.start receivers is.mine is.entries is.answers sent (there (Some sent) e);
    }

    -- ---- where it has nothing to offer

    module _ (none : found ≡ None) where
      pub idle : IsIdle nodes after
      idle = record { start = is.start; receivers = receivers; mine = is.mine; entries = is.entries; answers = is.answers; idle = there None none }

      -- it stands for the same
      pub follows_still : Accompanies nodes receivers after
      follows_still =
          let here : IsIdleWorkerOf nodes is.start receivers is.mine is.entries is.answers after = there None none in
          record {
            start = is.start;
            mine = is.mine;
            entries = is.entries;
            answers = is.answers;
            stands = record { followed = here.followed; stands = record { tracks = here.idle.tracks; stands = here.idle.stands; kept = here.idle.kept } };
          }

      -- its state has the receivers of the journal
      pub same_receivers : ReceiversStay → after.state.receivers ≡ receivers
      same_receivers stay =
          let here : IsIdleWorkerOf nodes is.start receivers is.mine is.entries is.answers after = there None none in
          ap (λ (s : JournalState). s.receivers) here.followed.state ∙ stay nodes (first_state receivers) is.entries

      -- it stands for one entry more
      pub follows_entry : (entry : Entry) (left : Worker) → Accepts nodes entry after left → Accompanies nodes receivers left
      follows_entry entry left accepts = record {
        start = is.start;
        mine = is.mine;
        entries = is.entries ++ entry ∷ [];
        answers = is.answers;
        stands = accepts is.start receivers is.mine is.entries is.answers (there None none);
      }
