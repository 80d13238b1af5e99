-- What a receiver took on, and what it holds by that.
use Rattle.std.specs.Prelude.{◌≡◌, true, List, ◌++◌, map}
use Rattle.yp_schema.specs.declared.schema.SchemaNode.{SchemaNode}
use Rattle.yp_queue.specs.declared.packet.Packet.{Packet}
use Rattle.yp_receiver.specs.Held.{lines_heard}
use Rattle.yp_takers.specs.declared.taker.TakerJob.{TakerJob}

-- a receiver is the same after it took on, and keeps just what its queue gave, in which some packets are more than before; where it is whole, it goes on from what it held by their lines
pub record HasTakenOn (nodes : List SchemaNode) (before after : TakerJob) : Type 0 where
  pub receiver : after.receiver ≡ before.receiver
  pub worker : after.worker ≡ before.worker
  pub queue : after.take.queue ≡ before.take.queue
  pub kept : after.taken.items ≡ after.take.taken
  pub more : List Packet
  pub took : after.taken.items ≡ before.taken.items ++ more
  pub heard : after.whole ≡ true → after.heard ≡ lines_heard nodes before.heard (map (λ packet. packet.line) more)
