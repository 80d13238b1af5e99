use Rattle.std.proofs.Common.{◌≡◌, ◌+◌, ◌++◌, List, length}
use Rattle.std.specs.List.{AllByRecursion}
use Rattle.std.specs.Vec.Iter.{into_iter_items}
use Rattle.yp_journal.specs.declared.entry.Entry.{Entry}
use Rattle.yp_journal.specs.History.{MayCome}
use Rattle.yp_turns.specs.declared.turns.Turn.{Turn}
use Rattle.yp_turns.specs.Turns.{turns_of}
use Rattle.yp_concurrent.specs.Running.{HasTaken, IsAt}
use Rattle.yp_concurrent.proofs.outside.take_all.Given as goal

-- the turns so far and those of the commands that are left are all
abbrev pub invariant-loop-command : goal.invariant-loop-command
invariant-loop-command l = record {
  done : List Turn;
  all : done ++ turns_of 0 l.index (into_iter_items l.command-iterator) ≡ turns_of 0 l.fn.first l.fn.commands;
  taken : (entries : List Entry) → IsAt l.setting.schema.now l.setting.start.now l.setting.receivers.now l.setting.workers entries l.fn.standing
      → HasTaken l.setting.schema.now l.setting.start.now l.setting.receivers.now l.setting.workers entries done l.standing;
  may : AllByRecursion (MayCome l.setting.schema.now l.setting.receivers.now) (into_iter_items l.command-iterator);
  index : l.index + length (into_iter_items l.command-iterator) ≡ l.fn.first + length l.fn.commands;
  room : length l.standing.replies.items + length (into_iter_items l.command-iterator) ≡ length l.fn.standing.replies.items + length l.fn.commands;
}
