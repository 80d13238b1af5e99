use Rattle.std.specs.Prelude.{length}
use Rattle.yp_attempt.specs.Workers.{numbers_of}
use Rattle.yp_world.proofs.Serially.{SerialLaws, serial_leads}
use Rattle.yp_world.proofs.laws.a_serial_run_is_a_list_of_events.Goals as goal

pub returns : goal.returns
returns c content lawful q places agree takes journal legal due =
    let receivers = numbers_of 0 1 (length places) in
    let finds = c.the_first_offer_is_found.ensures in
    let laws : SerialLaws finds content q places agree takes = record {
      more = c.a_serial_run_is_a_run.ensures.more content receivers q takes;
      idle = λ journal due. c.a_serial_run_is_a_run.ensures.idle content lawful receivers q takes journal due;
      reaches = λ journal legal due. c.a_serial_run_is_a_run.ensures.reaches content lawful receivers q takes journal legal due;
    } in
    serial_leads finds content q places agree takes laws journal legal due
