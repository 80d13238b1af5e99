use Rattle.std.proofs.Common.{◌≡◌, length}
use Rattle.yp_script.specs.Cursor.{texts_left}
use Rattle.yp_script.specs.Streams.{stream_by}
use Rattle.yp_script.proofs.stream.take_parts.Given as goal

-- the parts so far are taken, and the stream is the same
abbrev pub invariant-loop-line : goal.invariant-loop-line
invariant-loop-line l = stream_by l.reader (texts_left l.lines) ≡ stream_by l.fn.reader (texts_left l.fn.lines)

abbrev pub decreases-loop-line : goal.decreases-loop-line
decreases-loop-line l = length l.lines.rest.now
