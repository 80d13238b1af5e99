use Rattle.std.proofs.Common.{ap, is_some}
use Rattle.yp_receiver.proofs.Lines.{lines_again}
use Rattle.yp_receiver.proofs.laws.lines_tell_their_notices.Goals as goal

pub returns : goal.returns
returns c = λ nodes start all held schema begins each.
    lines_again nodes schema
    (λ path is texts. c.written_target_is_read.ensures nodes path schema is texts)
    (λ at rows whole. c.written_is_read.ensures nodes at rows schema whole)
    start all held (λ tick early. ap is_some (c.what_is_written_is_an_event_time.ensures start tick begins early)) each
