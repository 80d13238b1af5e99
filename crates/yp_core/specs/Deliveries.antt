-- What is delivered to a receiver, as it is kept: packets stand for notifications.
use Rattle.std.specs.Prelude.{ℕ, List, [], ◌++◌, map, take, drop, Option, None, Some}
use Rattle.yp_schema.specs.declared.schema.SchemaNode.{SchemaNode}
use Rattle.yp_queue.specs.declared.packet.Packet.{Packet}
use Rattle.yp_queue.specs.Queues.{QueueState, no_packets, with_packets}
use Rattle.yp_attempt.specs.Attempts.{Notification}
use Rattle.yp_attempt.specs.Tracks.{Answer}
use Rattle.yp_worker.specs.Packets.{packet_of}
use Rattle.yp_world.specs.World.{Delivery}

-- the queue of a receiver, the packets that it took, the oldest first, and what the queue answered to each offer
pub record DeliveryState : Type 0 where
  pub queue : QueueState
  pub taken : List Packet
  pub answers : List Answer

-- the packets that a receiver took; none where there is no such receiver
abbrev pub taken_by : Option DeliveryState → List Packet
taken_by None = []
taken_by (Some delivery) = delivery.taken

-- nothing was offered yet, and so many packets may stand in the queue
abbrev pub nothing_delivered : ℕ → DeliveryState
nothing_delivered places = record { queue = no_packets places; taken = []; answers = [] }

-- the oldest packet of the queue, where one stands there, goes last among those that were taken
abbrev pub took_oldest : DeliveryState → DeliveryState
took_oldest delivery = record delivery {
  queue = with_packets delivery.queue (drop 1 delivery.queue.packets);
  taken = delivery.taken ++ take 1 delivery.queue.packets;
}

-- ---- by the world

-- the packet of a notification
abbrev pub packed : List SchemaNode → ℕ → Notification → Packet
packed nodes start notification = packet_of nodes start notification.sub notification.made

-- what is delivered, in packets
abbrev pub delivered : List SchemaNode → ℕ → Delivery → DeliveryState
delivered nodes start delivery = record {
  queue = record { packets = map (packed nodes start) delivery.queue; places = delivery.places };
  taken = map (packed nodes start) delivery.taken;
  answers = delivery.answers;
}
