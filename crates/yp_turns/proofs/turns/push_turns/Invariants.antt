use Rattle.std.proofs.Common.{◌≡◌, ◌+◌, ◌++◌, length}
use Rattle.std.specs.Vec.Iter.{into_iter_items}
use Rattle.yp_turns.specs.Turns.{turns_of}
use Rattle.yp_turns.proofs.turns.push_turns.Given as goal

-- the turns so far and those of the commands that are left are all
abbrev pub invariant-loop-command : goal.invariant-loop-command
invariant-loop-command l = record {
  index : l.index + length (into_iter_items l.command-iterator) ≡ l.fn.first + length l.fn.commands;
  turns : l.turns.items ++ turns_of l.lane l.index (into_iter_items l.command-iterator) ≡ l.fn.turns.items ++ turns_of l.lane l.fn.first l.fn.commands;
}
