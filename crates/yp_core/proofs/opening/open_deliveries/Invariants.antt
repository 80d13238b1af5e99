use Rattle.std.proofs.Common.{◌≡◌, map, take}
use Rattle.yp_core.specs.Deliveries.{nothing_delivered}
use Rattle.yp_core.proofs.opening.open_deliveries.Given as goal

abbrev pub invariant-loop-receiver : goal.invariant-loop-receiver
invariant-loop-receiver l = l.deliveries.items ≡ map (λ receiver. nothing_delivered receiver.places) (take l.receiver-index l.receivers)
