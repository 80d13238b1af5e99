use Rattle.yp_mirror.proofs.Keeping.{all_begun, all_kept, all_steady, all_updated}
use Rattle.yp_mirror.proofs.laws.what_a_feed_owes_tells_what_it_keeps.Goals as goal

pub returns : goal.returns
returns c =
    let laws = c.every_run_of_a_receiver_is_linked.ensures in
    record { kept = all_kept laws; steady = all_steady laws; base = all_updated laws; begins = all_begun laws }
