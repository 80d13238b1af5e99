use Rattle.yp_serial.specs.Posts.{first_post}
use Rattle.yp_listeners.proofs.Ending.{EndingLaws, fewer_left}
use Rattle.yp_listeners.proofs.laws.offers_come_to_an_end.Goals as goal

pub returns-clause-fewer : goal.returns-clause-fewer
returns-clause-fewer c =
    let laws : EndingLaws = record {
      lawful = c.what_feeds_know_of_selections_is_lawful.ensures;
      finds = c.the_first_offer_is_found.ensures;
      followed = c.what_feeds_are_handed_can_be_followed.ensures;
      anchored = c.an_anchored_trigger_has_due_ticks.ensures;
      entry = c.due_ticks_stay.ensures.entry;
      offer = c.due_ticks_stay.ensures.offer;
      fewer = c.each_answer_leaves_fewer_offers.ensures.run;
    } in
    fewer_left laws

pub returns-clause-most : goal.returns-clause-most
returns-clause-most c = λ run. c.a_serial_run_goes_on_offer_by_offer.ensures.most (record { run = run; posts = λ receiver. first_post })
