use Rattle.std.proofs.Common.{ap, is_some}
use Rattle.yp_time.specs.Instants.{event_text}
use Rattle.yp_receiver.proofs.Again.{json_again}
use Rattle.yp_receiver.proofs.laws.the_json_of_a_notice_is_heard.Goals as goal

pub returns : goal.returns
returns c = λ nodes start tick notice schema begins early hearable.
    json_again nodes (event_text start tick) notice
    (λ path is texts. c.written_target_is_read.ensures nodes path schema is texts)
    (λ at rows whole. c.written_is_read.ensures nodes at rows schema whole)
    (ap is_some (c.what_is_written_is_an_event_time.ensures start tick begins early)) hearable
