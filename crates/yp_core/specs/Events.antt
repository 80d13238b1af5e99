-- What the events of a running world are to the journal and to the world, and what they come to.
use Rattle.std.specs.Prelude.{ℕ, ◌+◌, ◌^◌, ◌<◌, List, [], ◌∷◌, ◌++◌, length}
use Rattle.yp_schema.specs.declared.schema.SchemaNode.{SchemaNode}
use Rattle.yp_journal.specs.declared.command.Command.{Command}
use Rattle.yp_journal.specs.declared.entry.Entry.{Entry}
use Rattle.yp_journal.specs.declared.receiver.ReceiverInfo.{ReceiverInfo}
use Rattle.yp_journal.specs.declared.reply.Reply.{Reply}
use Rattle.yp_journal.specs.declared.reply.Reply.TheVariants.{Done}
use Rattle.yp_journal.specs.History.{MayCome, first_state, next_state, reply_to, state_of}
use Rattle.yp_moment.specs.Entries.{moment_of}
use Rattle.yp_world.specs.World.{Event, Append, Absorb, Offer, Take, Happened, Appended, Absorbed, Accepted, MetFull, Taken, Nothing}
use Rattle.yp_core.specs.declared.event.Event.{Event as EventHere}
use Rattle.yp_core.specs.declared.event.Event.TheVariants as events
use Rattle.yp_core.specs.declared.event.Happened.{Happened as HappenedHere}
use Rattle.yp_core.specs.declared.event.Happened.TheVariants as told
use Rattle.yp_core.specs.Deliveries.{packed}

-- ---- the entry of a command

-- the next entry of a journal: it came by no lane, and its number is its position; its stamp and its reply are those of the history
abbrev pub entry_of : List SchemaNode → List ReceiverInfo → List Entry → Command → Entry
entry_of nodes receivers entries command = record {
  lane = 0;
  index = length entries + 1;
  stamp = (next_state nodes (state_of nodes (first_state receivers) entries) command).stamp;
  command = command;
  reply = reply_to nodes (state_of nodes (first_state receivers) entries) command;
}

-- ---- events

-- the entries of the journal after an event
abbrev pub entries_after : List SchemaNode → List ReceiverInfo → List Entry → EventHere → List Entry
entries_after nodes receivers entries (events.Append command) = entries ++ entry_of nodes receivers entries command ∷ []
entries_after nodes receivers entries (events.Absorb worker) = entries
entries_after nodes receivers entries (events.Offer worker) = entries
entries_after nodes receivers entries (events.Take receiver) = entries

-- what an event is to the world
abbrev pub event_of : List SchemaNode → List ReceiverInfo → List Entry → EventHere → Event
event_of nodes receivers entries (events.Append command) = Append (moment_of nodes (state_of nodes (first_state receivers) entries) (entry_of nodes receivers entries command))
event_of nodes receivers entries (events.Absorb worker) = Absorb worker
event_of nodes receivers entries (events.Offer worker) = Offer worker
event_of nodes receivers entries (events.Take receiver) = Take receiver

-- the command of an event may come
abbrev pub MayComeBy : List SchemaNode → List ReceiverInfo → EventHere → Type 0
MayComeBy nodes receivers (events.Append command) = MayCome nodes receivers command
MayComeBy nodes receivers (events.Absorb worker) = Unit {0}
MayComeBy nodes receivers (events.Offer worker) = Unit {0}
MayComeBy nodes receivers (events.Take receiver) = Unit {0}

-- a journal of so many entries has room for that of an event, whose number has 32 bits
abbrev pub HasRoomFor : EventHere → ℕ → Type 0
HasRoomFor (events.Append command) count = count + 1 < 2 ^ 32
HasRoomFor (events.Absorb worker) count = Unit {0}
HasRoomFor (events.Offer worker) count = Unit {0}
HasRoomFor (events.Take receiver) count = Unit {0}

-- ---- what happened

-- the reply to the command of an event; no other event has a reply, and that a command is done stands for it
abbrev pub replied_to : List SchemaNode → List ReceiverInfo → List Entry → EventHere → Reply
replied_to nodes receivers entries (events.Append command) = reply_to nodes (state_of nodes (first_state receivers) entries) command
replied_to nodes receivers entries (events.Absorb worker) = Done
replied_to nodes receivers entries (events.Offer worker) = Done
replied_to nodes receivers entries (events.Take receiver) = Done

-- what happened, with the reply to a command, and with the packet of a notification
abbrev pub happened_of : List SchemaNode → ℕ → Reply → Happened → HappenedHere
happened_of nodes start reply Appended = told.Appended reply
happened_of nodes start reply (Absorbed position) = told.Absorbed position
happened_of nodes start reply (Accepted receiver position) = told.Took receiver position
happened_of nodes start reply (MetFull receiver sub position) = told.Full receiver sub position
happened_of nodes start reply (Taken notification) = told.Taken (packed nodes start notification)
happened_of nodes start reply Nothing = told.Nothing
