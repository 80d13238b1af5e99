use Rattle.std.proofs.Common.{ℕ, List, sym, subst, Result, Ok, Err}
use Rattle.std.specs.Prelude.{IfOk}
use Rattle.yp_base.specs.declared.memory.NoMemory.{NoMemory}
use Rattle.yp_schema.specs.declared.schema.SchemaNode.{SchemaNode}
use Rattle.yp_journal.specs.declared.entry.Entry.{Entry}
use Rattle.yp_journal.specs.declared.receiver.ReceiverInfo.{ReceiverInfo}
use Rattle.yp_world.specs.World.{World}
use Rattle.yp_core.specs.declared.event.Event.{Event}
use Rattle.yp_core.specs.declared.event.Event.TheVariants as events
use Rattle.yp_core.specs.declared.event.Happened.{Happened}
use Rattle.yp_core.specs.declared.world.World.{World as Core}
use Rattle.yp_core.specs.Worlds.{HasStepped, IsWorldAt}
use Rattle.yp_core.proofs.world.World.go_on.Goals as goal

-- what a step promises
abbrev Steps : List SchemaNode → Core → Core → Event → Happened → Type 0
Steps nodes core left event happened =
    (start : ℕ) (receivers : List ReceiverInfo) (workers : ℕ) (entries : List Entry) (world : World) → IsWorldAt nodes start receivers workers entries world core → HasStepped nodes start receivers workers entries world event happened left

-- that of a take, of one schema
of_schema : (core left : Core) (event : Event) (result : Result Happened NoMemory) → IfOk result (λ happened. (nodes : List SchemaNode) → Steps nodes core left event happened) → (nodes : List SchemaNode) → IfOk result (Steps nodes core left event)
of_schema core left event (Ok happened) all nodes = all nodes
of_schema core left event (Err e) all nodes = tt

pub returns-in-Append-clause-stepped : goal.returns-in-Append-clause-stepped
returns-in-Append-clause-stepped c = subst (λ (e : Event). IfOk c.append.result (Steps c.args.schema.now c.args.self.now c.append.new.self e)) (sym c.in-Append.is) c.append.ensures.stepped

pub returns-in-Absorb-clause-stepped : goal.returns-in-Absorb-clause-stepped
returns-in-Absorb-clause-stepped c = subst (λ (e : Event). IfOk c.absorb.result (Steps c.args.schema.now c.args.self.now c.absorb.new.self e)) (sym c.in-Absorb.is) c.absorb.ensures.stepped

pub returns-in-Offer-clause-stepped : goal.returns-in-Offer-clause-stepped
returns-in-Offer-clause-stepped c = subst (λ (e : Event). IfOk c.offer.result (Steps c.args.schema.now c.args.self.now c.offer.new.self e)) (sym c.in-Offer.is) c.offer.ensures.stepped

pub returns-in-Take-clause-stepped : goal.returns-in-Take-clause-stepped
returns-in-Take-clause-stepped c =
    subst (λ (e : Event). IfOk c.take.result (Steps c.args.schema.now c.args.self.now c.take.new.self e)) (sym c.in-Take.is)
    (of_schema c.args.self.now c.take.new.self (events.Take c.in-Take.receiver) c.take.result c.take.ensures.stepped c.args.schema.now)
