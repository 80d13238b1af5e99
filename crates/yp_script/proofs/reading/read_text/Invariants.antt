use Rattle.std.proofs.Common.{◌≡◌, ◌+◌, length}
use Rattle.yp_base.specs.Results.{◌>>=◌}
use Rattle.yp_script.specs.Cursor.{lines_left, last_number}
use Rattle.yp_script.specs.Readers.{progress_in}
use Rattle.yp_script.specs.Script.{script_from, script_of}
use Rattle.yp_script.proofs.reading.read_text.Given as goal

-- the script of the lines so far and of those that are left is that of the text
abbrev pub invariant-loop-reader : goal.invariant-loop-reader
invariant-loop-reader l = (progress_in l.reader >>= λ progress. script_from (last_number l.lines + 1) progress (lines_left l.lines)) ≡ script_of l.text

abbrev pub decreases-loop-reader : goal.decreases-loop-reader
decreases-loop-reader l = length l.lines.rest.now
