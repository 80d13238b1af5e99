-- What a worker that follows a journal of threads has done (RFC 8639 sections 2.4 and 2.7, RFC 8641 section 3.1).
use Rattle.std.specs.Prelude.{◌≡◌, ◌≢◌, ℕ, ◌<◌, Bool, true, false, List, [], ◌∷◌, ◌++◌, length, map, slice_index_or}
use Rattle.std.specs.List.{AllByRecursion}
use Rattle.yp_base.specs.Counts.{one_more}
use Rattle.yp_schema.specs.declared.schema.SchemaNode.{SchemaNode}
use Rattle.yp_journal.specs.declared.entry.Entry.{Entry}
use Rattle.yp_journal.specs.declared.receiver.ReceiverInfo.{ReceiverInfo}
use Rattle.yp_journal.specs.History.{IsLegal, JournalState, first_state, state_of}
use Rattle.yp_queue.specs.declared.packet.Packet.{Packet}
use Rattle.yp_queue_share.specs.Sides.{WasFull}
use Rattle.yp_attempt.specs.Attempts.{FillsFirst, answers_in, of_receiver, taken_of}
use Rattle.yp_attempt.specs.Runs.{Reaches, Run}
use Rattle.yp_attempt.specs.Tracks.{Attempt}
use Rattle.yp_moment.specs.Entries.{moments_of}
use Rattle.yp_moment.specs.Windows.{recorded}
use Rattle.yp_slot.specs.declared.settling.Settled.{Settled}
use Rattle.yp_slot.specs.declared.settling.Settled.TheVariants as answers
use Rattle.yp_worker.specs.declared.worker.Worker.{Worker}
use Rattle.yp_worker.specs.Packets.{packet_of}
use Rattle.yp_worker.specs.Workers.{IsIdleWorkerOf, IsWorkerOf}
use Rattle.yp_offer_log.specs.Logs.{logged}
use Rattle.yp_offer_log.specs.declared.logged.Logged.TheVariants as logs
use Rattle.yp_published.specs.Histories.{Known}
use Rattle.yp_followers.specs.declared.outbox.Outbox.{Outbox}

-- ---- outboxes

-- an outbox after an offer at a position: the packet is sent and its line is kept, or the queue was full, and that is kept
abbrev pub IsOffered : Outbox → Packet → ℕ → Settled → Outbox → Type 0
IsOffered before packet at answers.Took after =
    (after.receiver ≡ before.receiver) × (after.log.items ≡ before.log.items ++ logs.Line packet.kind packet.line ∷ []) × (after.send ≡ record before.send { sent = before.send.sent ++ packet ∷ [] })
IsOffered before packet at answers.Full after =
    (after.receiver ≡ before.receiver) × (after.log.items ≡ before.log.items ++ logs.FullAt packet.sub at ∷ []) × (after.send ≡ record before.send { refused = one_more before.send.refused }) × WasFull before.send

-- what an outbox has of the attempts of its worker, of which some were made before its queue was there: its log tells of all that are for its receiver; its queue got the packets of those that it accepted, and was full only after as many as it has places
pub record IsOutboxOf (nodes : List SchemaNode) (start : ℕ) (opened since : List Attempt) (box : Outbox) : Type 0 where
  pub log : box.log.items ≡ map (logged nodes start) (of_receiver box.receiver (opened ++ since))
  pub sent : box.send.sent ≡ map (λ n. packet_of nodes start n.sub n.made) (taken_of (of_receiver box.receiver since))
  pub fulls : FillsFirst box.send.places (of_receiver box.receiver since)

-- the same outbox as before, for the same receiver, with the same queue
pub record IsSameOutbox (before after : Outbox) : Type 0 where
  pub receiver : after.receiver ≡ before.receiver
  pub queue : after.send.queue ≡ before.send.queue
  pub places : after.send.places ≡ before.send.places

-- and so in a list of them
abbrev pub AreSameOutboxes : List Outbox → List Outbox → Type 0
AreSameOutboxes [] [] = Unit {0}
AreSameOutboxes [] (after ∷ afters) = ⊥
AreSameOutboxes (before ∷ befores) [] = ⊥
AreSameOutboxes (before ∷ befores) (after ∷ afters) = IsSameOutbox before after × AreSameOutboxes befores afters

-- the outbox at a place is a receiver's, and no other is
pub record IsOnlyAt (receiver : ℕ) (boxes : List Outbox) (place : ℕ) : Type 0 where
  pub within : place < length boxes
  pub its : (none : Outbox) → (slice_index_or boxes place none).receiver ≡ receiver
  pub others : (other : ℕ) (none : Outbox) → other < length boxes → other ≢ place → (slice_index_or boxes other none).receiver ≢ receiver

-- ---- workers that follow

-- a worker has followed a journal of threads: it stands for the entries that came before its threads and those that it absorbed since, with the answers of a run, which made some attempts before and some since; and each outbox has what the run offered
pub record IsFollowing (nodes : List SchemaNode) (start : ℕ) (receivers : List ReceiverInfo) (mine : List ℕ) (before absorbed : List Entry) (opened : List Attempt) (worker : Worker) (boxes : List Outbox) : Type 0 where
  pub run : Run
  pub since : List Attempt
  pub done : run.done ≡ opened ++ since
  pub stands : IsWorkerOf nodes start receivers mine (before ++ absorbed) (answers_in run.done) worker
  pub reaches : Reaches recorded mine (moments_of nodes receivers (before ++ absorbed)) (answers_in run.done) run
  pub outboxes : AllByRecursion (IsOutboxOf nodes start opened since) boxes

-- it has, and has nothing to offer
pub record IsUpToDate (nodes : List SchemaNode) (start : ℕ) (receivers : List ReceiverInfo) (mine : List ℕ) (before absorbed : List Entry) (opened : List Attempt) (worker : Worker) (boxes : List Outbox) : Type 0 where
  pub run : Run
  pub since : List Attempt
  pub done : run.done ≡ opened ++ since
  pub idle : IsIdleWorkerOf nodes start receivers mine (before ++ absorbed) (answers_in run.done) worker
  pub reaches : Reaches recorded mine (moments_of nodes receivers (before ++ absorbed)) (answers_in run.done) run
  pub outboxes : AllByRecursion (IsOutboxOf nodes start opened since) boxes

-- ---- whatever came before

-- for some journal before the threads, which leaves the state from which theirs goes on
pub record IsReady (nodes : List SchemaNode) (opening : JournalState) (absorbed : List Entry) (worker : Worker) (boxes : List Outbox) : Type 0 where
  pub start : ℕ
  pub receivers : List ReceiverInfo
  pub mine : List ℕ
  pub before : List Entry
  pub opened : List Attempt
  pub legal : IsLegal nodes (first_state receivers) before
  pub begun : opening ≡ state_of nodes (first_state receivers) before
  pub ready : IsUpToDate nodes start receivers mine before absorbed opened worker boxes

-- it has followed some journal
pub record IsOnSomeWay (nodes : List SchemaNode) (worker : Worker) (boxes : List Outbox) : Type 0 where
  pub start : ℕ
  pub receivers : List ReceiverInfo
  pub mine : List ℕ
  pub before : List Entry
  pub absorbed : List Entry
  pub opened : List Attempt
  pub is : IsFollowing nodes start receivers mine before absorbed opened worker boxes

-- it has, and has nothing to offer
pub record IsUpToSome (nodes : List SchemaNode) (worker : Worker) (boxes : List Outbox) : Type 0 where
  pub start : ℕ
  pub receivers : List ReceiverInfo
  pub mine : List ℕ
  pub before : List Entry
  pub absorbed : List Entry
  pub opened : List Attempt
  pub is : IsUpToDate nodes start receivers mine before absorbed opened worker boxes

-- ---- steps, whatever came before

-- an offer was answered, and there may be more; or there was none
abbrev pub FollowsIf : Bool → List SchemaNode → ℕ → List ReceiverInfo → List ℕ → List Entry → List Entry → List Attempt → Worker → List Outbox → Type 0
FollowsIf true nodes start receivers mine before absorbed opened worker boxes = IsFollowing nodes start receivers mine before absorbed opened worker boxes
FollowsIf false nodes start receivers mine before absorbed opened worker boxes = IsUpToDate nodes start receivers mine before absorbed opened worker boxes

-- offers of a worker were answered
abbrev pub AnswersIf : Bool → List SchemaNode → Worker → List Outbox → Worker → List Outbox → Type 0
AnswersIf more nodes worker boxes after left =
    (start : ℕ) (receivers : List ReceiverInfo) (mine : List ℕ) (before absorbed : List Entry) (opened : List Attempt)
    → IsFollowing nodes start receivers mine before absorbed opened worker boxes → FollowsIf more nodes start receivers mine before absorbed opened after left

-- a worker that was up to date is so with these entries more
abbrev pub TakesIn : List SchemaNode → List Entry → Worker → List Outbox → Worker → List Outbox → Type 0
TakesIn nodes fresh worker boxes after left =
    (start : ℕ) (receivers : List ReceiverInfo) (mine : List ℕ) (before absorbed : List Entry) (opened : List Attempt)
    → IsUpToDate nodes start receivers mine before absorbed opened worker boxes → IsUpToDate nodes start receivers mine before (absorbed ++ fresh) opened after left

-- a worker that was up to date with what it had absorbed of a journal that goes on from a state is so with what it has absorbed then
abbrev pub KeepsUp : List SchemaNode → JournalState → List Entry → Worker → List Outbox → List Entry → Worker → List Outbox → Type 0
KeepsUp nodes opening absorbed worker boxes now after left =
    (start : ℕ) (receivers : List ReceiverInfo) (mine : List ℕ) (before : List Entry) (opened : List Attempt) → IsLegal nodes (first_state receivers) before → opening ≡ state_of nodes (first_state receivers) before
    → IsUpToDate nodes start receivers mine before absorbed opened worker boxes → IsUpToDate nodes start receivers mine before now opened after left

-- a job is done: where it is whole it got all of the journal, and is up to date with that
pub record IsDone (nodes : List SchemaNode) (opening : JournalState) (got : Known) (worker : Worker) (boxes : List Outbox) (now : Known) (after : Worker) (left : List Outbox) (whole : Bool) : Type 0 where
  pub ended : whole ≡ true → now.ended ≡ true
  pub same : AreSameOutboxes boxes left
  pub followed : whole ≡ true → KeepsUp nodes opening got.entries worker boxes now.entries after left
