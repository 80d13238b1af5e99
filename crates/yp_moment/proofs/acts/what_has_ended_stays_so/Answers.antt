use Rattle.yp_moment.proofs.Ended.{OtherLaws, live_given, none_next, none_selected}
use Rattle.yp_moment.proofs.acts.what_has_ended_stays_so.Goals as goal

pub returns : goal.returns
returns c =
    let amends = c.an_amendment_changes_one_subscription.ensures in
    let ends = c.an_end_takes_one_subscription_away.ensures in
    let once = c.no_id_is_given_twice.ensures in
    let laws : OtherLaws = record {
      establish = c.an_establishment_adds_one_subscription.ensures.others;
      amend = amends.found;
      amend_others = amends.others;
      end = ends.found;
      end_others = ends.others;
      configure_others = c.a_configuration_adds_one_subscription.ensures.others;
      configure_new = once.configured;
      stays = once.stays;
    } in
    record {
      given = live_given;
      ended = λ nodes state command id given none. none_next laws nodes id state given none command;
      selected = λ nodes state entries id receiver given none. none_selected laws nodes id state entries receiver given none;
    }
