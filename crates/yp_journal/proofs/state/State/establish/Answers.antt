use Rattle.std.proofs.Common.{◌≡◌, length, OnOk, ap, subst, ◌∙◌}
use Rattle.yp_registry.specs.Registry.{Subscriptions}
use Rattle.yp_journal.specs.History.{JournalState, after_establish}
use Rattle.yp_journal.specs.JournalLaws.{established_users}
use Rattle.yp_journal.proofs.Refusals.{refused_state}
use Rattle.yp_journal.proofs.state.State.establish.Goals as goal

pub invariant_of-self : goal.invariant_of-self
invariant_of-self c = (
  c.self.invariant.0,
  ap (λ (registry : Subscriptions). length registry.users) c.in-Ok.ensures.state
      ∙ ap length (established_users c.args.schema.now c.self.inside.policy c.self.inside.registry c.args.by c.args.ask.now c.self.inside.stamp)
      ∙ c.self.invariant.1,
)

pub returns-in-Err-clause-state : goal.returns-in-Err-clause-state
returns-in-Err-clause-state c =
    let nodes = c.args.schema.now in
    let by = c.args.by in
    let ask = c.args.ask.now in
    let inside = c.self.inside in
    let state : JournalState = record { rows = inside.tree; policy = inside.policy; stamp = inside.stamp; position = inside.position; registry = inside.registry; receivers = inside.receivers } in
    subst (λ (s : JournalState). OnOk c.refuse.result (c.refuse.new.self ≡ after_establish nodes s by ask)) c.self.view_is
    (refused_state c.refuse.result nodes state c.refuse.new.self c.establish.new.self by ask c.in-Err.refusal c.in-Err.ensures.answer c.refuse.ensures.told c.in-Err.ensures.unchanged c.refuse.ensures.state)
