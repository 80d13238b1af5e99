-- What lanes, workers and receivers are when threads begin, and what the lanes have written when they have ended.
use Rattle.std.specs.Prelude.{◌≡◌, ℕ, ◌<◌, ◌^◌, All, List, length}
use Rattle.std.specs.List.{AllByRecursion}
use Rattle.yp_schema.specs.declared.schema.SchemaNode.{SchemaNode}
use Rattle.yp_journal.specs.declared.command.Command.{Command}
use Rattle.yp_journal.specs.declared.receiver.ReceiverInfo.{ReceiverInfo}
use Rattle.yp_journal.specs.History.{MayCome}
use Rattle.yp_log_share.specs.Seats.{AreOfLanesFrom, Seat, count_calls}
use Rattle.yp_lanes.specs.Lanes.{AreNumberedFrom, commands_of}
use Rattle.yp_handover.specs.Handover.{Pairs}
use Rattle.yp_handover.specs.declared.group.Group.{Group}

-- ---- before the threads

-- the seats of lanes, from lane 1 on, have no calls yet, and the commands of each lane may come
pub record AreToWrite (nodes : List SchemaNode) (receivers : List ReceiverInfo) (seats : List Seat) (lanes : List (List Command)) : Type 0 where
  pub order : AreOfLanesFrom 1 seats
  pub fresh : count_calls seats ≡ 0
  pub short : AllByRecursion (λ lane. length lane < 2 ^ 32) lanes
  pub may : AllByRecursion (AllByRecursion (MayCome nodes receivers)) lanes

-- the receivers of a worker are of one of so many workers
abbrev pub AreOfWorkers : ℕ → Group → Type 0
AreOfWorkers workers group = All (λ taker. taker.worker < workers) group.takers.items

-- they keep just what their queues gave
abbrev pub AreKeeping : Group → Type 0
AreKeeping group = All (λ taker. taker.taken.items ≡ taker.take.taken) group.takers.items

-- ---- after them

-- the seat of a lane has its commands, each by one call, in order, numbered from 1 on
abbrev pub HasAll : List Command → Seat → Type 0
HasAll commands seat = (commands_of seat ≡ commands) × AreNumberedFrom 1 seat.calls

-- the seats of lanes, from lane 1 on, have all of their commands
pub record HaveAll (lanes : List (List Command)) (seats : List Seat) : Type 0 where
  pub order : AreOfLanesFrom 1 seats
  pub all : Pairs HasAll lanes seats
