use Rattle.std.proofs.Common.{◌≡◌, ◌≤◌, length}
use Rattle.yp_script.specs.Cursor.{texts_left, last_number}
use Rattle.yp_script.proofs.cursor.Lines.next_text.Given as goal

-- blank lines leave the lines that say something
abbrev pub invariant-loop-self : goal.invariant-loop-self
invariant-loop-self l = record {
  left : texts_left l.self ≡ texts_left l.fn.self;
  last : last_number l.self ≡ last_number l.fn.self;
  shorter : length l.self.rest.now ≤ length l.fn.self.rest.now;
}

abbrev pub decreases-loop-self : goal.decreases-loop-self
decreases-loop-self l = length l.self.rest.now
