use Rattle.std.proofs.Common.{◌≡◌, map, take}
use Rattle.yp_journal.specs.declared.receiver.ReceiverInfo.{ReceiverInfo}
use Rattle.yp_journal.proofs.state.first_registry.Given as goal

-- the users and the names of the receivers so far
abbrev pub invariant-loop-receiver : goal.invariant-loop-receiver
invariant-loop-receiver l = record {
  users : l.users.items ≡ map (λ (receiver : ReceiverInfo). receiver.user) (take l.receiver-index l.receivers);
  names : l.names.items ≡ map (λ (receiver : ReceiverInfo). receiver.name) (take l.receiver-index l.receivers);
}
