use Rattle.yp_attempt.specs.Runs.{opened}
use Rattle.yp_crews.proofs.crew.Crew.open.Goals as goal

pub returns : goal.returns
returns c = record {
  served = record {
    idle = c.in_ok-open.ensures.idle;
    reaches = opened;
    each = c.in_ok-open_listeners.ensures.opened c.args.schema.now c.args.start.now;
  };
  each = c.in_ok-open_listeners.ensures.each;
}
