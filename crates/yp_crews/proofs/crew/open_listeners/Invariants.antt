use Rattle.std.proofs.Common.{◌≡◌, ℕ, List, []}
use Rattle.std.specs.List.{AllByRecursion}
use Rattle.yp_schema.specs.declared.schema.SchemaNode.{SchemaNode}
use Rattle.yp_attempt.specs.Workers.{numbers_of}
use Rattle.yp_listeners.specs.Listeners.{IsListenerOf, numbers_in}
use Rattle.yp_crews.proofs.crew.open_listeners.Given as goal

-- those so far
abbrev pub invariant-loop-number : goal.invariant-loop-number
invariant-loop-number l = record {
  each : numbers_in l.listeners.items ≡ numbers_of l.worker l.workers l.number;
  opened : (nodes : List SchemaNode) (start : ℕ) → AllByRecursion (IsListenerOf nodes start []) l.listeners.items;
}
