-- The desk of a receiver: what was offered to it, what stands in its queue, and what it holds.
use Rattle.std.specs.Prelude.{ℕ, ◌+◌, min, List, [], ◌∷◌, ◌++◌, length, map, take, drop, Bool, true, false, if◌then◌else◌}
use Rattle.std.specs.List.{flat_map}
use Rattle.yp_base.specs.declared.notice.Notice.{Notice}
use Rattle.yp_base.specs.declared.row.Row.{Row}
use Rattle.yp_schema.specs.declared.schema.SchemaNode.{SchemaNode}
use Rattle.yp_journal.specs.declared.receiver.ReceiverInfo.{ReceiverInfo}
use Rattle.yp_queue.specs.declared.packet.Packet.{Packet}
use Rattle.yp_queue.specs.Queues.{QueueState, has_room, with_packets}
use Rattle.yp_slot.specs.declared.settling.Settled.{Settled}
use Rattle.yp_slot.specs.declared.settling.Settled.TheVariants as answers
use Rattle.yp_serial.specs.Serial.{Served}
use Rattle.yp_worker.specs.Packets.{packet_of}
use Rattle.yp_moment.specs.Notices.{notice_of}
use Rattle.yp_receiver.specs.Held.{hears}
use Rattle.yp_promise.specs.Received.{received}
use Rattle.yp_promise.specs.Shown.{count_taken, got_by, kept_for, offered_to}
use Rattle.yp_offer_log.specs.Logs.{log_text, logged}
use Rattle.yp_offer_log.specs.declared.logged.Logged.{Logged}
use Rattle.yp_offer_log.specs.declared.logged.Logged.TheVariants as logs
use Rattle.yp_report.specs.Report.{tree_text}

-- what a desk has: the receiver's name and whether it takes each packet at once; of each offer the kind and the line that were accepted, or that the queue was full; how many packets it took; its queue, with the notifications of the packets there; and what it holds of each subscription
pub record DeskState : Type 0 where
  pub name : List ℕ
  pub automatic : Bool
  pub log : List Logged
  pub taken : ℕ
  pub queue : QueueState
  pub waiting : List Notice
  pub trees : List (ℕ × List Row)

-- ---- by a serial run

-- the desk of the receiver of a number where a serial run stands
abbrev pub desk_at : List SchemaNode → ℕ → Served → ℕ → ReceiverInfo → DeskState
desk_at nodes start served number receiver = record {
  name = receiver.name;
  automatic = receiver.auto;
  log = map (logged nodes start) (offered_to number served);
  taken = count_taken number served;
  queue = record { packets = map (λ n. packet_of nodes start n.sub n.made) (kept_for number served); places = receiver.places };
  waiting = map (λ n. notice_of n.sub n.made) (kept_for number served);
  trees = received [] (got_by number served);
}

-- the desks of receivers in order, the first of which has this number
abbrev pub desks_at : List SchemaNode → ℕ → Served → ℕ → List ReceiverInfo → List DeskState
desks_at nodes start served number [] = []
desks_at nodes start served number (receiver ∷ receivers) = desk_at nodes start served number receiver ∷ desks_at nodes start served (number + 1) receivers

-- ---- takes

-- what is held after notifications that are taken, in order
abbrev pub hears_all : List Notice → List (ℕ × List Row) → List (ℕ × List Row)
hears_all [] trees = trees
hears_all (notice ∷ notices) trees = hears_all notices (hears notice trees)

-- the receiver takes up to so many packets
abbrev pub desk_took : ℕ → DeskState → DeskState
desk_took count desk = record desk {
  taken = desk.taken + min count (length desk.queue.packets);
  queue = record { packets = drop count desk.queue.packets; places = desk.queue.places };
  waiting = drop count desk.waiting;
  trees = hears_all (take count desk.waiting) desk.trees;
}

-- ---- offers

-- where the receiver takes each packet at once, it takes the oldest one
abbrev pub desk_served : Bool → DeskState → DeskState
desk_served true desk = desk_took 1 desk
desk_served false desk = desk

-- an offer that is accepted: its line is kept, and its packet and its notification are the newest
abbrev pub desk_accepted : Packet → Notice → DeskState → DeskState
desk_accepted packet notice desk = record desk {
  log = desk.log ++ logs.Line packet.kind packet.line ∷ [];
  queue = with_packets desk.queue (desk.queue.packets ++ packet ∷ []);
  waiting = desk.waiting ++ notice ∷ [];
}

-- the desk after an offer at a position, by whether there is room in its queue
abbrev pub desk_offered_by : Bool → Packet → Notice → ℕ → DeskState → DeskState
desk_offered_by true packet notice at desk = desk_served desk.automatic (desk_accepted packet notice desk)
desk_offered_by false packet notice at desk = record desk { log = desk.log ++ logs.FullAt packet.sub at ∷ [] }

abbrev pub desk_offered : Packet → Notice → ℕ → DeskState → DeskState
desk_offered packet notice at desk = desk_offered_by (has_room desk.queue) packet notice at desk

-- what an offer is answered
abbrev pub desk_answer : DeskState → Settled
desk_answer desk = if has_room desk.queue then answers.Took else answers.Full

-- ---- lines

-- the lines of a desk: those of its log, and then what it holds
abbrev pub desk_text : List SchemaNode → DeskState → List ℕ
desk_text nodes desk = log_text desk.name desk.taken desk.log ++ flat_map (tree_text nodes desk.name) desk.trees
