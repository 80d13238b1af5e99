-- A queue of bounded capacity: an offer is accepted while there is room, and what was accepted first is taken first.
use Rattle.std.specs.Prelude.{ℕ, List, [], ◌∷◌, ◌++◌, length, Bool, nat_lt, if◌then◌else◌}
use Rattle.yp_queue.specs.declared.packet.Packet.{Packet}
use Rattle.yp_queue.specs.declared.packet.Offered.{Offered}
use Rattle.yp_queue.specs.declared.packet.Offered.TheVariants.{Took, Full}

-- the packets that stand in a queue, the oldest first, and how many may stand there
pub record QueueState : Type 0 where
  pub packets : List Packet
  pub places : ℕ

-- an empty queue
abbrev pub no_packets : ℕ → QueueState
no_packets places = record { packets = []; places = places }

-- the queue with other packets
abbrev pub with_packets : QueueState → List Packet → QueueState
with_packets queue packets = record { packets = packets; places = queue.places }

-- whether one more may stand there
abbrev pub has_room : QueueState → Bool
has_room queue = nat_lt (length queue.packets) queue.places

-- what an offer is answered
abbrev pub offer_answer : QueueState → Packet → Offered
offer_answer queue packet = if has_room queue then Took else Full packet

-- the queue after an offer
abbrev pub offered : QueueState → Packet → QueueState
offered queue packet = if has_room queue then with_packets queue (queue.packets ++ packet ∷ []) else queue
