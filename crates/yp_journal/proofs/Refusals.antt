-- What a refused command leaves.
use Rattle.std.proofs.Common.{◌≡◌, ◌≢◌, ℕ, List, [], true, Option, Some, None, Result, Ok, Err, IfOk, OnOk, refl, sym, ap, ◌∙◌}
use Rattle.yp_schema.specs.declared.schema.SchemaNode.{SchemaNode}
use Rattle.yp_terms.specs.declared.ask.Ask.{Ask}
use Rattle.yp_terms.specs.declared.refused.Refused.{Refused}
use Rattle.yp_terms.specs.declared.refused.Refused.TheVariants.{AccessDenied, EncodingUnsupported, DatastoreNotSubscribable, FilterUnsupported, PeriodUnsupported, NoSuchSubscription, OnChangeSyncUnsupported, InvalidTrigger, InvalidId, InvalidReceiver, InsufficientResources, Memory}
use Rattle.yp_terms.specs.Terms.{Terms}
use Rattle.yp_terms.specs.Refusals.{first_refusal, or_refused, Fails}
use Rattle.yp_registry.specs.Registry.{Subscriptions, reasons_against, terms_for, after_refusal, establish_answer}
use Rattle.yp_journal.specs.declared.command.Command.{Command}
use Rattle.yp_journal.specs.declared.state.Outcome.{Outcome}
use Rattle.yp_journal.specs.History.{JournalState, one_further, with_registry, after_establish, next_state, reply_to, is_refusal}
use Rattle.yp_journal.specs.JournalLaws.{refusal_alone}

-- a refusal that is answered is the definition's
pub refused_is : {X : Type 0} (refusal : Refused) (answer : Result X Refused) → refusal ≢ Memory → Fails refusal answer → answer ≡ Err refusal
refused_is AccessDenied answer other fails = fails
refused_is EncodingUnsupported answer other fails = fails
refused_is DatastoreNotSubscribable answer other fails = fails
refused_is FilterUnsupported answer other fails = fails
refused_is (PeriodUnsupported hint) answer other fails = fails
refused_is (NoSuchSubscription resync) answer other fails = fails
refused_is OnChangeSyncUnsupported answer other fails = fails
refused_is InvalidTrigger answer other fails = fails
refused_is InvalidId answer other fails = fails
refused_is InvalidReceiver answer other fails = fails
refused_is InsufficientResources answer other fails = fails
refused_is Memory answer other fails = absurd (other refl)

-- where something is refused, the registry stays
stays : (found : Option Refused) (id : ℕ) (refusal : Refused) (registry : Subscriptions) (terms : Terms) → or_refused found id ≡ Err refusal → after_refusal found registry terms ≡ registry
stays (Some other) id refusal registry terms is = refl
stays None id refusal registry terms is = cc

-- an establishment that is refused moves the position alone
pub refused_state : {E : Type 0} (r : Result Outcome E) (nodes : List SchemaNode) (state new : JournalState) (registry : Subscriptions) (by : ℕ) (ask : Ask) (refusal : Refused) → Fails refusal (establish_answer nodes state.policy state.registry by ask state.stamp)
    → OnOk r (refusal ≢ Memory) → registry ≡ state.registry → OnOk r (new ≡ with_registry state registry) → OnOk r (new ≡ after_establish nodes state by ask)
refused_state (Ok outcome) nodes state new registry by ask refusal fails other same is =
    let terms : Terms = terms_for nodes state.registry by ask state.stamp in
    let answer : establish_answer nodes state.policy state.registry by ask state.stamp ≡ Err refusal = refused_is refusal (establish_answer nodes state.policy state.registry by ask state.stamp) other fails in
    is ∙ ap (λ (registry : Subscriptions). with_registry state registry) (same ∙ sym (stays (first_refusal (reasons_against nodes state.policy state.registry by ask)) terms.id refusal state.registry terms answer))
refused_state (Err e) nodes state new registry by ask refusal fails other same is = tt

-- a command whose reply is a refusal moves the position alone
pub alone_by : {E : Type 0} (r : Result Outcome E) (nodes : List SchemaNode) (new old : JournalState) (command : Command) → OnOk r (new ≡ next_state nodes old command)
    → IfOk r (λ outcome. outcome ≡ record { stamp = old.stamp; reply = reply_to nodes old command; changed = [] }) → IfOk r (λ outcome. is_refusal outcome.reply ≡ true → new ≡ one_further old)
alone_by (Ok outcome) nodes new old command state is = λ refused. state ∙ refusal_alone nodes old command (ap (λ (o : Outcome). is_refusal o.reply) (sym is) ∙ refused)
alone_by (Err e) nodes new old command state is = tt
