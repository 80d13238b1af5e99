use Rattle.std.proofs.Common.{◌≡◌, [], length}
use Rattle.yp_receiver.specs.Held.{lines_heard}
use Rattle.yp_replay.specs.Replay.{line_texts, first_fault}
use Rattle.yp_replay.proofs.hearing.hear_lines.Given as goal

-- the lines so far have no fault, and what they tell is held
abbrev pub invariant-loop-line : goal.invariant-loop-line
invariant-loop-line l = record {
  heard : lines_heard l.schema l.receiver (line_texts l.lines) ≡ lines_heard l.schema [] (line_texts l.fn.lines);
  fault : first_fault l.schema l.lines ≡ first_fault l.schema l.fn.lines;
}

abbrev pub decreases-loop-line : goal.decreases-loop-line
decreases-loop-line l = length l.lines
