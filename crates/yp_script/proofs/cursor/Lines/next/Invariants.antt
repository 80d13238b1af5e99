use Rattle.std.proofs.Common.{◌≡◌, ◌≤◌, length}
use Rattle.yp_script.specs.Cursor.{lines_left, last_number}
use Rattle.yp_script.proofs.cursor.Lines.next.Given as goal

-- blank lines leave the lines that say something
abbrev pub invariant-loop-alloc : goal.invariant-loop-alloc
invariant-loop-alloc l = record {
  left : lines_left l.self ≡ lines_left l.fn.self;
  last : last_number l.self ≡ last_number l.fn.self;
  shorter : length l.self.rest.now ≤ length l.fn.self.rest.now;
}

abbrev pub decreases-loop-alloc : goal.decreases-loop-alloc
decreases-loop-alloc l = length l.self.rest.now
