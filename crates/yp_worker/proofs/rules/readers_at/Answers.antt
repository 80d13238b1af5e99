use Rattle.std.proofs.Common.{ap, ◌∙◌}
use Rattle.yp_journal.specs.History.{JournalState}
use Rattle.yp_registry.specs.Registry.{Subscriptions}
use Rattle.yp_slot.specs.Readers.{rules_of_users}
use Rattle.yp_worker.proofs.States.{rules_are}
use Rattle.yp_worker.proofs.rules.readers_at.Goals as goal

pub returns : goal.returns
returns c =
    let state : JournalState = c.args.state.now in
    rules_are state c.in_ok-readers.readers c.requires
    (c.in_ok-readers.ensures ∙ (λ i. rules_of_users (c.policy.ensures.policy i) ((c.users.ensures ∙ ap (λ (r : Subscriptions). r.users) c.registry.ensures.registry) i)))
