use Rattle.std.proofs.Common.{◌+◌}
use Rattle.std.proofs.lemmas.Result.{err_from_is_err_and}
use Rattle.yp_script.specs.Cursor.{texts_left, last_number}
use Rattle.yp_script.proofs.StreamLaws.{first_fails}
use Rattle.yp_script.proofs.stream.open.Goals as goal

pub returns-in_err-take-clause-fault : goal.returns-in_err-take-clause-fault
returns-in_err-take-clause-fault c =
    let p = err_from_is_err_and c.from_residual-in_err-take.result c.from_residual-in_err-take.ensures.1 in
    rw (p.1, p.2)
    (first_fails c.in_err-take.field-0.0 c.at_stage-reader.result c.in_ok-line.line (last_number c.args.lines.now + 1) (texts_left c.args.lines.now) (texts_left c.first_part.new.lines)
    c.in_ok-line.ensures c.at_stage-reader.ensures c.in_err-take.ensures)
