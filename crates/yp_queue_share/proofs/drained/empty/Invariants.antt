use Rattle.std.proofs.Common.{◌≡◌, ◌≤◌, ◌++◌, true, length}
use Rattle.std.specs.Prelude.{vec_capacity}
use Rattle.crossbeam_queue.specs.Passes.{view as knows, IsPassOf, ruled_capacity}
use Rattle.yp_queue_share.specs.Sides.{side}
use Rattle.yp_queue_share.proofs.drained.empty.Given as goal

-- as many packets were taken as turns were made
abbrev pub invariant-loop : goal.invariant-loop
invariant-loop g l = record {
  queue : IsPassOf l.line l.pass;
  both : knows l.pass ≡ side true true (knows l.fn.pass).sent ((knows l.fn.pass).taken ++ l.rest.items);
  turns : length l.rest.items ≡ l.counter;
  room : ruled_capacity l.line ≤ vec_capacity l.rest;
}
