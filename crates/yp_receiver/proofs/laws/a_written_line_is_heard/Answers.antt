use Rattle.std.proofs.Common.{ap, is_some}
use Rattle.yp_receiver.proofs.Lines.{line_again}
use Rattle.yp_receiver.proofs.laws.a_written_line_is_heard.Goals as goal

pub returns : goal.returns
returns c = λ nodes start tick notice schema begins early hearable body.
    line_again nodes schema
    (λ path is texts. c.written_target_is_read.ensures nodes path schema is texts)
    (λ at rows whole. c.written_is_read.ensures nodes at rows schema whole)
    start tick notice (ap is_some (c.what_is_written_is_an_event_time.ensures start tick begins early)) hearable body
