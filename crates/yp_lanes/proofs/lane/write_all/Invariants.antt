use Rattle.std.proofs.Common.{◌≡◌, ◌+◌, ◌++◌, length, take}
use Rattle.yp_lanes.specs.Lanes.{AreNumberedFrom, commands_of}
use Rattle.yp_lanes.proofs.lane.write_all.Given as goal

-- the commands so far were accepted, and no others, each by a call with the next number
abbrev pub invariant-loop-command : goal.invariant-loop-command
invariant-loop-command g l = record {
  lane : l.seat.lane ≡ l.fn.seat.lane;
  all : commands_of l.seat ≡ commands_of l.fn.seat ++ take l.command-index l.commands;
  count : length l.seat.calls ≡ length l.fn.seat.calls + l.command-index;
  numbered : AreNumberedFrom 1 l.fn.seat.calls → AreNumberedFrom 1 l.seat.calls;
}
