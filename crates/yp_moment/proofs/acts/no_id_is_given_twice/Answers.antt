use Rattle.std.proofs.Common.{sym}
use Rattle.yp_registry.specs.Configuring.{configure_answer}
use Rattle.yp_registry.specs.Registry.{establish_answer}
use Rattle.yp_moment.proofs.Doing.{done_ok, given_ok}
use Rattle.yp_moment.proofs.Ids.{GivenLaws, configured_new, established_new, given_stays}
use Rattle.yp_moment.proofs.acts.no_id_is_given_twice.Goals as goal

pub returns : goal.returns
returns c =
    let once = c.an_id_is_given_once.ensures in
    let chosen = c.an_id_is_configured_once.ensures in
    let others = c.other_calls_leave_what_is_taken.ensures in
    let laws : GivenLaws = record {
      next = once.next;
      never_falls = once.never_falls;
      taken = chosen.taken;
      stays = chosen.stays;
      establish = others.established;
      modify = others.modified;
      reconfigure = others.reconfigured;
      delete = others.deleted;
      kill = others.killed;
      unconfigure = others.unconfigured;
    } in
    record {
      stays = λ nodes state command id given. given_stays laws nodes state id command given;
      established = λ nodes state by ask id is. established_new laws nodes state.policy state.registry by ask state.stamp id (given_ok (establish_answer nodes state.policy state.registry by ask state.stamp) id (sym is));
      configured = λ nodes state id names ask is. configured_new laws nodes state.policy state.registry id names ask state.stamp (done_ok (configure_answer nodes state.registry id names ask) (sym is));
    }
