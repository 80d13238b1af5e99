-- What each state of a legal journal has, and the own rules of the receivers' users there.
use Rattle.std.proofs.Common.{◌≡◌, ℕ, zero, suc, ◌<◌, refl, ap, ◌∙◌, List, [], ◌∷◌, map, length, Some, arith}
use Rattle.std.specs.List.{slice_get}
use Rattle.std.specs.Prelude.{IfSome}
use Rattle.std.proofs.lemmas.List.{length-map}
use Rattle.yp_schema.specs.declared.schema.SchemaNode.{SchemaNode}
use Rattle.yp_nacm.specs.declared.compile.UserRules.{UserRules}
use Rattle.yp_nacm.specs.declared.policy.Policy.{Policy}
use Rattle.yp_nacm.specs.Own.{own_rules}
use Rattle.yp_terms.specs.declared.ask.Amend.{Amend}
use Rattle.yp_terms.specs.declared.ask.Ask.{Ask}
use Rattle.yp_registry.specs.Amending.{modified_by, reconfigured}
use Rattle.yp_registry.specs.Calls.{deleted_by, killed_by, unconfigured}
use Rattle.yp_registry.specs.Configuring.{newly_configured}
use Rattle.yp_registry.specs.Ids.{HasRisingIds}
use Rattle.yp_registry.specs.Registry.{Subscriptions, established}
use Rattle.yp_changes.specs.Changes.{changed_rows}
use Rattle.yp_journal.specs.declared.command.Command.{Command}
use Rattle.yp_journal.specs.declared.command.Command.TheVariants.{Tick, Edit, Rules, Establish, Modify, Delete, Kill, Resync, Configure, Reconfigure, Unconfigure, Take}
use Rattle.yp_journal.specs.declared.receiver.ReceiverInfo.{ReceiverInfo}
use Rattle.yp_journal.specs.History.{JournalState, next_state, reply_to, user_of}
use Rattle.yp_slot.specs.declared.following.Entered.{Entered}
use Rattle.yp_slot.specs.Readers.{rules_of_users}
use Rattle.yp_slot.specs.Slots.{AreRulesAt}
use Rattle.yp_slot.specs.Steps.{IsEntered}
use Rattle.yp_worker.specs.Workers.{IsStateOf}

-- the laws of ids that are rested on
pub record IdsRise : Type 0 where
  pub established : (nodes : List SchemaNode) (policy : Policy) (registry : Subscriptions) (by : ℕ) (ask : Ask) (now : ℕ) → HasRisingIds registry → HasRisingIds (established nodes policy registry by ask now)
  pub modified : (nodes : List SchemaNode) (policy : Policy) (registry : Subscriptions) (by id : ℕ) (amend : Amend) (now : ℕ) → HasRisingIds registry → HasRisingIds (modified_by nodes policy registry by id amend now)
  pub reconfigured : (nodes : List SchemaNode) (registry : Subscriptions) (id : ℕ) (amend : Amend) (now : ℕ) → HasRisingIds registry → HasRisingIds (reconfigured nodes registry id amend now)
  pub deleted : (policy : Policy) (registry : Subscriptions) (by id : ℕ) → HasRisingIds registry → HasRisingIds (deleted_by policy registry by id)
  pub killed : (policy : Policy) (registry : Subscriptions) (by id : ℕ) → HasRisingIds registry → HasRisingIds (killed_by policy registry by id)
  pub unconfigured : (registry : Subscriptions) (id : ℕ) → HasRisingIds registry → HasRisingIds (unconfigured registry id)
  pub configured : (nodes : List SchemaNode) (registry : Subscriptions) (id : ℕ) (receivers : List (List ℕ)) (ask : Ask) (now : ℕ) → HasRisingIds registry → HasRisingIds (newly_configured nodes registry id receivers ask now)

-- each command keeps the rise of the ids
pub ids_kept : IdsRise → (nodes : List SchemaNode) (state : JournalState) (command : Command) → HasRisingIds state.registry → HasRisingIds (next_state nodes state command).registry
ids_kept laws nodes state (Tick tick) ids = ids
ids_kept laws nodes state (Edit patch) ids = ids
ids_kept laws nodes state (Rules policy) ids = ids
ids_kept laws nodes state (Take receiver count) ids = ids
ids_kept laws nodes state (Establish by ask) ids = laws.established nodes state.policy state.registry by ask state.stamp ids
ids_kept laws nodes state (Modify by id amend) ids = laws.modified nodes state.policy state.registry by id amend state.stamp ids
ids_kept laws nodes state (Delete by id) ids = laws.deleted state.policy state.registry by id ids
ids_kept laws nodes state (Kill by id) ids = laws.killed state.policy state.registry by id ids
ids_kept laws nodes state (Resync by id) ids = ids
ids_kept laws nodes state (Configure id names ask) ids = laws.configured nodes state.registry id names ask state.stamp ids
ids_kept laws nodes state (Reconfigure id amend) ids = laws.reconfigured nodes state.registry id amend state.stamp ids
ids_kept laws nodes state (Unconfigure id) ids = laws.unconfigured state.registry id ids

-- the rules of each receiver's user, one by one
each_rule : (policy : Policy) (receivers : List ReceiverInfo) (number : ℕ) → number < length receivers → slice_get (map (own_rules policy) (map (λ receiver. receiver.user) receivers)) number ≡ Some (own_rules policy (user_of number receivers))
each_rule policy [] number within = absurd (omega (arith, within))
each_rule policy (one ∷ receivers) zero within = refl
each_rule policy (one ∷ receivers) (suc number) within = each_rule policy receivers number (omega (arith, within))

-- the rules of the users that the registry has are those of the receivers
pub rules_are : (state : JournalState) (rules : List UserRules) → state.registry.users ≡ map (λ receiver. receiver.user) state.receivers → rules ≡ rules_of_users state.policy state.registry.users → AreRulesAt state rules
rules_are state rules users is =
    let same : rules ≡ map (own_rules state.policy) (map (λ receiver. receiver.user) state.receivers) = is ∙ ap (map (own_rules state.policy)) users in
    let count : length rules ≡ length state.receivers = ap length same ∙ (length-map (map (λ receiver. receiver.user) state.receivers) (own_rules state.policy) ∙ length-map state.receivers (λ receiver. receiver.user)) in
    record {
      count = count;
      each = λ number within. ap (λ (list : List UserRules). slice_get list number) same ∙ each_rule state.policy state.receivers number (omega (arith, within, count));
    }

-- each command but a policy leaves the rules
pub rules_stay : (nodes : List SchemaNode) (before : JournalState) (rules : List UserRules) (command : Command) → ((policy : Policy) → command ≡ Rules policy → ⊥) → AreRulesAt before rules → AreRulesAt (next_state nodes before command) rules
rules_stay nodes before rules (Rules policy) other are = absurd (other policy refl)
rules_stay nodes before rules (Tick tick) other are = record { count = are.count; each = are.each }
rules_stay nodes before rules (Edit patch) other are = record { count = are.count; each = are.each }
rules_stay nodes before rules (Establish by ask) other are = record { count = are.count; each = are.each }
rules_stay nodes before rules (Modify by id amend) other are = record { count = are.count; each = are.each }
rules_stay nodes before rules (Delete by id) other are = record { count = are.count; each = are.each }
rules_stay nodes before rules (Kill by id) other are = record { count = are.count; each = are.each }
rules_stay nodes before rules (Resync by id) other are = record { count = are.count; each = are.each }
rules_stay nodes before rules (Configure id names ask) other are = record { count = are.count; each = are.each }
rules_stay nodes before rules (Reconfigure id amend) other are = record { count = are.count; each = are.each }
rules_stay nodes before rules (Unconfigure id) other are = record { count = are.count; each = are.each }
rules_stay nodes before rules (Take receiver count) other are = record { count = are.count; each = are.each }

-- an entry that was taken, by what it found and left
pub is_entered : (e : Entered) (before : JournalState) → IsStateOf e.present.schema.now before → IsStateOf e.present.schema.now e.present.state.now
    → e.present.state.now ≡ next_state e.present.schema.now before e.entry.now.command → e.entry.now.reply ≡ reply_to e.present.schema.now before e.entry.now.command
    → IfSome e.before (λ tree. tree.now ≡ before.rows) → AreRulesAt before e.rules.now → AreRulesAt e.present.state.now e.present.readers.now → e.changed.now ≡ changed_rows before.rows e.present.state.now.rows → IsEntered e before
is_entered e before found left after reply rows own present changed = record {
  present = record { datastore = left.datastore; own = present };
  after = after;
  reply = reply;
  datastore = found.datastore;
  rows = rows;
  own = own;
  changed = changed;
  ids = found.ids;
  registry = left.registry;
  users = ap length left.users ∙ length-map e.present.state.now.receivers (λ receiver. receiver.user);
}
