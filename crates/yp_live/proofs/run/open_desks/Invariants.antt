use Rattle.std.proofs.Common.{◌≡◌, ◌++◌, ◌≤◌, ℕ, List, drop}
use Rattle.std.specs.List.{AllByRecursion}
use Rattle.yp_schema.specs.declared.schema.SchemaNode.{SchemaNode}
use Rattle.yp_serial.specs.Serial.{first_served}
use Rattle.yp_live.specs.Desks.{desks_at}
use Rattle.yp_live.proofs.run.open_desks.Given as goal

-- those so far and those of the receivers that are left are all
abbrev pub invariant-loop-receiver : goal.invariant-loop-receiver
invariant-loop-receiver l = record {
  places : AllByRecursion (λ receiver. 1 ≤ receiver.places) (drop l.receiver-index l.receivers);
  desks : (nodes : List SchemaNode) (start : ℕ) → l.desks.items ++ desks_at nodes start first_served l.receiver-index (drop l.receiver-index l.receivers) ≡ desks_at nodes start first_served 0 l.fn.receivers;
}
