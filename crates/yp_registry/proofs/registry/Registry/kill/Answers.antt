use Rattle.std.proofs.Common.{sym, subst}
use Rattle.yp_registry.specs.Registry.{Subscriptions, IsRegistryOf}
use Rattle.yp_registry.proofs.Keeping.{end_kept}
use Rattle.yp_registry.proofs.registry.Registry.kill.Goals as goal

pub returns-clause-kept : goal.returns-clause-kept
returns-clause-kept c nodes before =
    let after : Subscriptions → Type 0 = λ registry. IsRegistryOf nodes registry in
    subst after (sym c.end.ensures) (end_kept nodes c.args.self.now c.args.id before)
