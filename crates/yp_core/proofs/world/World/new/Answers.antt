use Rattle.std.proofs.Common.{[], false, refl}
use Rattle.yp_core.proofs.Opened.{opens}
use Rattle.yp_core.proofs.world.World.new.Goals as goal

pub returns-clause-opens : goal.returns-clause-opens
returns-clause-opens c =
    opens c.every_list_of_events_keeps_what_holds.ensures.first c.args.schema.now c.args.start.now c.args.receivers.now c.args.workers
    (record { entries = c.new.result; state = c.in_ok-new.field-0; seats = c.in_ok-open_seats.field-0; deliveries = c.in_ok-open_deliveries.field-0; spent = false })
    c.stands.ensures c.requires.workers c.new.ensures.items c.in_ok-new.ensures.opening c.in_ok-open_seats.ensures.count c.in_ok-open_seats.ensures.opened c.in_ok-open_deliveries.ensures refl

pub returns-clause-world : goal.returns-clause-world
returns-clause-world c = record {
  start = c.args.start.now;
  receivers = c.args.receivers.now;
  workers = c.args.workers;
  entries = [];
  events = [];
  is = opens c.every_list_of_events_keeps_what_holds.ensures.first c.args.schema.now c.args.start.now c.args.receivers.now c.args.workers
      (record { entries = c.new.result; state = c.in_ok-new.field-0; seats = c.in_ok-open_seats.field-0; deliveries = c.in_ok-open_deliveries.field-0; spent = false })
      c.stands.ensures c.requires.workers c.new.ensures.items c.in_ok-new.ensures.opening c.in_ok-open_seats.ensures.count c.in_ok-open_seats.ensures.opened c.in_ok-open_deliveries.ensures refl;
}
