-- The companions of a world's workers: for what they stand, what is kept of their offers, and when they do what those workers did.
use Rattle.std.specs.Prelude.{◌≡◌, ℕ, ◌+◌, ◌-◌, ◌^◌, ◌<◌, List, [], ◌∷◌, ◌++◌, All, length, slice_set, Option, None, Some, IsSomeAnd, unwrap_or}
use Rattle.std.specs.List.{slice_get}
use Rattle.yp_schema.specs.declared.schema.SchemaNode.{SchemaNode}
use Rattle.yp_journal.specs.declared.command.Command.{Command}
use Rattle.yp_journal.specs.declared.entry.Entry.{Entry}
use Rattle.yp_journal.specs.declared.receiver.ReceiverInfo.{ReceiverInfo}
use Rattle.yp_journal.specs.History.{MayCome}
use Rattle.yp_attempt.specs.Tracks.{Answer}
use Rattle.yp_queue.specs.declared.packet.Packet.{Packet}
use Rattle.yp_slot.specs.declared.settling.Settled.{Settled}
use Rattle.yp_slot.specs.declared.settling.Settled.TheVariants as answers
use Rattle.yp_worker.specs.declared.worker.Worker.{Worker}
use Rattle.yp_worker.specs.Workers.{IsWorkerOf}
use Rattle.yp_core.specs.declared.event.Happened.{Happened}
use Rattle.yp_core.specs.declared.event.Happened.TheVariants as told
use Rattle.world_cases.specs.declared.companions.Offer.{Offer}

-- ---- workers

-- a worker has followed a journal of these receivers: it stands for some entries of it and some answers
pub record Accompanies (nodes : List SchemaNode) (receivers : List ReceiverInfo) (worker : Worker) : Type 0 where
  pub start : ℕ
  pub mine : List ℕ
  pub entries : List Entry
  pub answers : List Answer
  pub stands : IsWorkerOf nodes start receivers mine entries answers worker

-- so do workers, and these commands may come in the journal
pub record MayGoOn (nodes : List SchemaNode) (commands : List Command) (workers : List Worker) : Type 0 where
  pub receivers : List ReceiverInfo
  pub accompany : All (Accompanies nodes receivers) workers
  pub may : All (MayCome nodes receivers) commands

-- an entry has the command of its number, from 1 on
pub record HasItsCommand (commands : List Command) (entry : Entry) : Type 0 where
  pub position : ℕ
  pub number : entry.index ≡ position + 1
  pub command : slice_get commands position ≡ Some entry.command

-- ---- what is kept

-- the packets that are kept for the receiver of a number, the oldest first; none where there is no such receiver
abbrev pub kept_for : List (List Packet) → ℕ → List Packet
kept_for kept receiver = unwrap_or (slice_get kept receiver) []

-- what is kept after an answer to a packet for the receiver of a number: one packet more for it where its queue accepted the packet
abbrev pub kept_by : Settled → List (List Packet) → ℕ → Packet → List (List Packet)
kept_by answers.Took kept receiver packet = slice_set kept receiver (kept_for kept receiver ++ packet ∷ [])
kept_by answers.Full kept receiver packet = kept

-- what was offered is kept by the answer to it
abbrev pub KeepsOffer : Settled → Option Offer → List (List Packet) → List (List Packet) → Type 0
KeepsOffer settled None before after = after ≡ before
KeepsOffer settled (Some offer) before after = (packet : Packet) × (packet.sub ≡ offer.sub) × (after ≡ kept_by settled before offer.receiver packet)

-- ---- what is compared

-- the answer that is told of an offer; where none was made, that the queue is full stands for it
abbrev pub answer_told : Happened → Settled
answer_told (told.Appended reply) = answers.Full
answer_told (told.Absorbed position) = answers.Full
answer_told (told.Took receiver position) = answers.Took
answer_told (told.Full receiver sub position) = answers.Full
answer_told (told.Taken packet) = answers.Full
answer_told told.Nothing = answers.Full

-- what an offer comes to, by the answer to it
abbrev pub offer_comes : Settled → Option Offer → Happened
offer_comes settled None = told.Nothing
offer_comes answers.Took (Some offer) = told.Took offer.receiver offer.position
offer_comes answers.Full (Some offer) = told.Full offer.receiver offer.sub offer.position

-- what a take comes to
abbrev pub take_comes : Option Packet → Happened
take_comes None = told.Nothing
take_comes (Some packet) = told.Taken packet

-- two entries of one command have the same number, stamp and reply, and came by the same lane
pub record AreAlike (one other : Entry) : Type 0 where
  pub lane : one.lane ≡ other.lane
  pub index : one.index ≡ other.index
  pub stamp : one.stamp ≡ other.stamp
  pub reply : one.reply ≡ other.reply

-- an entry is like the one of a journal at a position, from 1 on
abbrev pub IsEntryAt : List Entry → ℕ → Entry → Type 0
IsEntryAt entries position made = IsSomeAnd (slice_get entries (position - 1)) (λ entry. AreAlike made entry)

-- a companion makes the entry of its number, which is like the one of a journal at a position
pub record MakesEntry (commands : List Command) (entries : List Entry) (position : ℕ) : Type 0 where
  pub made : Entry
  pub command : HasItsCommand commands made
  pub alike : IsEntryAt entries position made

-- a companion offers what comes to the same in the world, and this is kept by the answer to it
pub record MakesOffer (settled : Settled) (happened : Happened) (before after : List (List Packet)) : Type 0 where
  pub offer : Option Offer
  pub same : happened ≡ offer_comes (answer_told happened) offer
  pub kept : KeepsOffer settled offer before after
