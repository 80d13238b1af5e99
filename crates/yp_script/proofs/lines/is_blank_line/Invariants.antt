use Rattle.std.proofs.Common.{◌≡◌, drop}
use Rattle.yp_script.specs.Lines.{is_blank}
use Rattle.yp_script.proofs.lines.is_blank_line.Given as goal

abbrev pub invariant-loop-byte : goal.invariant-loop-byte
invariant-loop-byte l = is_blank (drop l.byte-index l.line) ≡ is_blank l.fn.line
