use Rattle.yp_traces.proofs.Served.{ServedLaws, served_beside}
use Rattle.yp_traces.proofs.laws.workers_beside_each_other_serve_each_receiver.Goals as goal

pub returns : goal.returns
returns c nodes receivers entries schema legal places runs some work =
    let laws : ServedLaws = record {
      traces = c.what_workers_did_is_a_list_of_events.ensures;
      serves = c.every_interleaving_serves_each_receiver.ensures;
      one = c.a_receiver_is_one_of_those_of_its_worker.ensures;
      part = c.a_receivers_part_of_a_run_is_its_own_run.ensures;
      replays = c.what_is_reached_is_what_replaying_gives.ensures;
    } in
    served_beside laws nodes receivers entries schema legal places runs some (c.entries_of_a_legal_journal_may_follow.ensures nodes receivers entries schema legal) work
