use Rattle.std.proofs.Common.{◌≡◌, ◌+◌, ◌++◌, List, length, map}
use Rattle.std.specs.List.{AllByRecursion}
use Rattle.std.specs.Vec.Iter.{into_iter_items}
use Rattle.yp_journal.specs.declared.entry.Entry.{Entry}
use Rattle.yp_turns.specs.Journal.{turn_of}
use Rattle.yp_turns.specs.Turns.{MayTake}
use Rattle.yp_live.specs.Runs.{IsRun}
use Rattle.yp_live.proofs.run.run_turns.Given as goal

-- the turns so far and those that are left are all
abbrev pub invariant-loop-turn : goal.invariant-loop-turn
invariant-loop-turn l = record {
  entries : List Entry;
  run : IsRun l.setting.schema.now l.setting.start.now l.setting.receivers.now entries l.run;
  turns : map turn_of entries ++ into_iter_items l.turn-iterator ≡ l.fn.turns.items;
  may : AllByRecursion (MayTake l.setting.schema.now l.setting.receivers.now) (into_iter_items l.turn-iterator);
  count : length l.run.replies.items + length (into_iter_items l.turn-iterator) ≡ length l.fn.turns.items;
}
