use Rattle.yp_concurrent.proofs.Promises.{run_serves}
use Rattle.yp_concurrent.proofs.laws.a_run_by_threads_serves_each_receiver.Goals as goal

pub returns : goal.returns
returns c =
    run_serves (record {
      serve = c.workers_beside_each_other_serve_each_receiver.ensures;
      part = c.a_receivers_part_of_a_run_is_its_own_run.ensures;
      one = c.a_receiver_is_one_of_those_of_its_worker.ensures;
      idle = c.a_worker_offers_what_its_run_offers.ensures.idle;
      finds = c.the_first_offer_is_found.ensures;
      heard = c.every_run_of_a_receiver_is_heard.ensures.heard;
      mirrors = c.every_run_of_a_receiver_is_heard.ensures.mirrors;
      utf8 = c.a_scripts_commands_have_utf8.ensures;
    })
