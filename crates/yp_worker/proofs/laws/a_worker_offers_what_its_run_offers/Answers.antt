use Rattle.yp_worker.proofs.Offered.{feeds_of_run, idle_with_run, sent_by_run}
use Rattle.yp_worker.proofs.laws.a_worker_offers_what_its_run_offers.Goals as goal

pub returns-clause-offers : goal.returns-clause-offers
returns-clause-offers c = λ nodes start receivers mine entries answers sent worker offered run reaches.
    sent_by_run (record { lawful = c.what_feeds_know_of_selections_is_lawful.ensures; replayed = c.what_is_reached_is_what_replaying_gives.ensures; first = c.the_first_offer_is_found.ensures; finds = c.a_worker_finds_what_its_run_offers.ensures })
    nodes start receivers mine entries answers worker run reaches sent offered

pub returns-clause-idle : goal.returns-clause-idle
returns-clause-idle c = λ nodes start receivers mine entries answers worker idle run reaches.
    idle_with_run (record { lawful = c.what_feeds_know_of_selections_is_lawful.ensures; replayed = c.what_is_reached_is_what_replaying_gives.ensures; first = c.the_first_offer_is_found.ensures; finds = c.a_worker_finds_what_its_run_offers.ensures })
    nodes start receivers mine entries answers worker run reaches idle

pub returns-clause-feeds : goal.returns-clause-feeds
returns-clause-feeds c = λ nodes start receivers mine entries answers worker stands run reaches.
    feeds_of_run (record { lawful = c.what_feeds_know_of_selections_is_lawful.ensures; replayed = c.what_is_reached_is_what_replaying_gives.ensures; first = c.the_first_offer_is_found.ensures; finds = c.a_worker_finds_what_its_run_offers.ensures })
    nodes start receivers mine entries answers worker run reaches stands
