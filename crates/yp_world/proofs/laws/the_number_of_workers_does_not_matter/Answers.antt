use Rattle.yp_world.proofs.Parts.{RunLaws, own_run_of, same_sent, same_tracks}
use Rattle.yp_world.proofs.laws.the_number_of_workers_does_not_matter.Goals as goal

pub returns : goal.returns
returns c =
    let runs : RunLaws = record {
      part = c.a_receivers_part_of_a_run_is_its_own_run.ensures;
      replays = c.what_is_reached_is_what_replaying_gives.ensures;
    } in
    record {
      part = λ setup world holds receiver small delivery standing are. own_run_of setup world holds receiver delivery standing are runs small;
      sent = same_sent runs;
      tracks = same_tracks runs;
    }
