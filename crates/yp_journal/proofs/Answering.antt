-- Calls that give nothing: their answers, and the registry that they leave.
use Rattle.std.proofs.Common.{◌≡◌, ◌≢◌, List, Option, Some, None, Result, Ok, Err, OnOk, OnErr, sym, ap, subst, ◌∙◌}
use Rattle.yp_schema.specs.declared.schema.SchemaNode.{SchemaNode}
use Rattle.yp_terms.specs.declared.refused.Refused.{Refused}
use Rattle.yp_terms.specs.declared.refused.Refused.TheVariants.{Memory}
use Rattle.yp_registry.specs.Calls.{done_unless, left_unless}
use Rattle.yp_terms.specs.Refusals.{Gives}
use Rattle.yp_registry.specs.Registry.{Subscriptions, IsRegistryOf}
use Rattle.yp_journal.specs.declared.state.Outcome.{Outcome}
use Rattle.yp_journal.specs.History.{JournalState, with_registry}
use Rattle.yp_journal.specs.JournalLaws.{call_users}
use Rattle.yp_journal.proofs.Refusals.{refused_is}

-- what the registry answers is the definition's, but where memory ran out
pub told : (answer said : Result Unit Refused) → Gives (λ done. done) answer said → answer ≢ Err Memory → answer ≡ said
told (Ok done) said gives other = sym gives
told (Err refusal) said gives other = sym (refused_is refusal said (λ is. other (ap Err is)) gives)

-- and so is the registry that it leaves
left : (answer : Result Unit Refused) (found : Option Refused) (new before after : Subscriptions) → answer ≡ done_unless found → OnOk answer (new ≡ left_unless found before after) → OnErr answer (new ≡ before) → new ≡ left_unless found before after
left (Ok done) found new before after is state same = state
left (Err refusal) (Some other) new before after is state same = same
left (Err refusal) None new before after is state same = cc

-- a call that is replied to leaves the state with that registry
pub left_state : {E : Type 0} (r : Result Outcome E) (answer : Result Unit Refused) (found : Option Refused) (state new : JournalState) (registry after : Subscriptions) → Gives (λ done. done) answer (done_unless found) → OnOk r (answer ≢ Err Memory)
    → OnOk answer (registry ≡ left_unless found state.registry after) → OnErr answer (registry ≡ state.registry) → OnOk r (new ≡ with_registry state registry) → OnOk r (new ≡ with_registry state (left_unless found state.registry after))
left_state (Ok outcome) answer found state new registry after gives other done same is =
    is ∙ ap (λ (registry : Subscriptions). with_registry state registry) (left answer found registry state.registry after (told answer (done_unless found) gives other) done same)
left_state (Err e) answer found state new registry after gives other done same is = tt

-- a call leaves the users of the receivers
pub left_users : (answer : Result Unit Refused) (found : Option Refused) (new before after : Subscriptions) → OnOk answer (new ≡ left_unless found before after) → OnErr answer (new ≡ before) → after.users ≡ before.users → new.users ≡ before.users
left_users (Ok done) found new before after state same users = ap (λ (registry : Subscriptions). registry.users) state ∙ call_users before found after users
left_users (Err refusal) found new before after state same users = ap (λ (registry : Subscriptions). registry.users) same

-- a call that keeps a registry of the schema one leaves one
pub kept : (nodes : List SchemaNode) (old held made new : Subscriptions) → held ≡ old → (IsRegistryOf nodes held → IsRegistryOf nodes made) → new ≡ made → IsRegistryOf nodes old → IsRegistryOf nodes new
kept nodes old held made new same keeps is registry = subst (IsRegistryOf nodes) (sym is) (keeps (subst (IsRegistryOf nodes) (sym same) registry))
