use Rattle.std.proofs.Common.{◌≡◌, ◌++◌, ◌<◌, ℕ, List}
use Rattle.std.specs.Vec.Iter.{into_iter_items}
use Rattle.yp_listeners.specs.declared.listener.Listener.{Listener}
use Rattle.yp_handover.specs.Handover.{AreSidesOf, Triples}
use Rattle.yp_handover.proofs.handing.all_sides.Given as goal

-- the listeners so far have their sides, and those that are left come after them
abbrev pub invariant-loop-listener : goal.invariant-loop-listener
invariant-loop-listener l = record {
  done : List Listener;
  all : done ++ into_iter_items l.listener-iterator ≡ l.fn.listeners.items;
  sides : (workers : ℕ) → l.fn.worker < workers → Triples (AreSidesOf l.fn.receivers workers) done l.outboxes.items l.takers.items;
}
