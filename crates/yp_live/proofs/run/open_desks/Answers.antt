use Rattle.std.proofs.Common.{◌≡◌, ◌∷◌, ◌+◌, ◌≤◌, List, drop, subst}
use Rattle.std.specs.List.{AllByRecursion}
use Rattle.yp_journal.specs.declared.receiver.ReceiverInfo.{ReceiverInfo}
use Rattle.yp_serial.specs.Serial.{first_served}
use Rattle.yp_live.specs.Desks.{desks_at}
use Rattle.yp_live.proofs.Turning.{next_receiver, one_desk}
use Rattle.yp_live.proofs.run.open_desks.Goals as goal

pub loop-receiver-preserved : goal.loop-receiver-preserved
loop-receiver-preserved c =
    let receivers : List ReceiverInfo = c.args.receivers.now in
    let index = c.loop-receiver.receiver-index in
    let receiver = c.receiver-item.result in
    let inv = c.loop-receiver.invariant in
    let next : drop index receivers ≡ receiver ∷ drop (index + 1) receivers = next_receiver receivers index receiver c.loop-receiver-test.true c.receiver-item.is in
    record {
      places = (subst (AllByRecursion (λ (one : ReceiverInfo). 1 ≤ one.places)) next inv.places).1;
      desks = λ nodes start. one_desk nodes start first_served receivers index receiver c.loop-receiver.desks.items c.push.new.self.items (desks_at nodes start first_served 0 receivers) c.in_ok-new.field-0 next
          (c.in_ok-new.ensures nodes start index) c.in_ok-push.ensures.items (inv.desks nodes start);
    }
