use Rattle.std.proofs.Common.{◌≡◌, ◌∷◌}
use Rattle.std.proofs.lemmas.Result.{err_from_is_err_and}
use Rattle.yp_script.specs.Cursor.{lines_left, seen_line}
use Rattle.yp_script.specs.Script.{script_of}
use Rattle.yp_script.proofs.StepLaws.{walks, walks_fault}
use Rattle.yp_script.proofs.reading.read_text.Goals as goal

pub returns-in_err-take-clause-read : goal.returns-in_err-take-clause-read
returns-in_err-take-clause-read c =
    let found : lines_left c.loop-reader.lines ≡ seen_line c.in-Some.line ∷ lines_left c.next.new.self = rw c.in-Some.is at c.in_ok-line.ensures.found in
    let p = err_from_is_err_and c.from_residual-in_err-take.result c.from_residual-in_err-take.ensures.1 in
    rw (p.1, p.2) (walks_fault c.in_err-take.field-0.0 (script_of c.args.text.now) c.loop-reader.reader c.loop-reader.lines c.next.new.self c.in-Some.line found c.in_err-take.ensures c.loop-reader.invariant)

pub loop-reader-preserved : goal.loop-reader-preserved
loop-reader-preserved c =
    let found : lines_left c.loop-reader.lines ≡ seen_line c.in-Some.line ∷ lines_left c.next.new.self = rw c.in-Some.is at c.in_ok-line.ensures.found in
    walks (script_of c.args.text.now) c.loop-reader.reader c.take.new.self c.loop-reader.lines c.next.new.self c.in-Some.line found c.in_ok-line.ensures.last c.in_ok-take.ensures c.loop-reader.invariant
