use Rattle.std.proofs.Common.{◌≡◌, ◌∙◌, false, Some, refl, sym, ap, subst, Option, arith}
use Rattle.std.specs.Prelude.{slice_set}
use Rattle.std.specs.List.{slice_get}
use Rattle.std.specs.Vec.{with_item}
use Rattle.std.proofs.lemmas.Option.{slice_get_read}
use Rattle.yp_queue.specs.declared.packet.Packet.{Packet}
use Rattle.yp_core.specs.declared.event.Event.TheVariants as events
use Rattle.yp_core.specs.Deliveries.{DeliveryState}
use Rattle.yp_core.specs.Worlds.{HasStepped}
use Rattle.yp_core.proofs.Taken.{taken, taken_as}
use Rattle.yp_core.proofs.world.World.take.Goals as goal

pub returns-in-Some-clause-stepped : goal.returns-in-Some-clause-stepped
returns-in-Some-clause-stepped c = λ nodes start receivers workers entries world is.
    let core = c.args.self.now in
    let d : DeliveryState = c.index_mut.result.now in
    let there : slice_get core.deliveries.items c.args.receiver ≡ Some d = slice_get_read core.deliveries.items c.len.result c.args.receiver d (omega (arith, c.len.ensures, core.deliveries.ok.0)) c.if-number-len.false c.index_mut.ensures.value in
    let left = record core { deliveries = with_item core.deliveries c.args.receiver c.take.new.self; spent = false } in
    subst (λ (o : Option Packet). HasStepped nodes start receivers workers entries world (events.Take c.args.receiver) (taken_as o) left) (sym c.in_ok-packet.ensures.oldest ∙ c.in-Some.is)
    (taken nodes start receivers workers entries world core is c.args.receiver left refl refl refl refl c.every_list_of_events_keeps_what_holds.ensures.step (omega (arith, c.len.ensures, core.deliveries.ok.0, c.if-number-len.false)) d there
    (ap (λ (k : DeliveryState). slice_set core.deliveries.items c.args.receiver k) c.in_ok-packet.ensures.state))

pub returns-in-None-clause-stepped : goal.returns-in-None-clause-stepped
returns-in-None-clause-stepped c = λ nodes start receivers workers entries world is.
    let core = c.args.self.now in
    let d : DeliveryState = c.index_mut.result.now in
    let there : slice_get core.deliveries.items c.args.receiver ≡ Some d = slice_get_read core.deliveries.items c.len.result c.args.receiver d (omega (arith, c.len.ensures, core.deliveries.ok.0)) c.if-number-len.false c.index_mut.ensures.value in
    let left = record core { deliveries = with_item core.deliveries c.args.receiver c.take.new.self; spent = false } in
    subst (λ (o : Option Packet). HasStepped nodes start receivers workers entries world (events.Take c.args.receiver) (taken_as o) left) (sym c.in_ok-packet.ensures.oldest ∙ c.in-None.is)
    (taken nodes start receivers workers entries world core is c.args.receiver left refl refl refl refl c.every_list_of_events_keeps_what_holds.ensures.step (omega (arith, c.len.ensures, core.deliveries.ok.0, c.if-number-len.false)) d there
    (ap (λ (k : DeliveryState). slice_set core.deliveries.items c.args.receiver k) c.in_ok-packet.ensures.state))
