-- What follows of journals: of one more entry, of refusals, and of the rows that commands leave.
use Rattle.std.proofs.Common.{◌≡◌, ℕ, ◌+◌, List, [], ◌∷◌, ◌++◌, length, true, true≢false, Option, Some, None, Result, Ok, Err, ◌≢◌, refl, sym, ◌∙◌, arith}
use Rattle.yp_base.specs.declared.row.Row.{Row}
use Rattle.yp_base.specs.RowLaws.{none_order}
use Rattle.yp_schema.specs.declared.schema.SchemaNode.{SchemaNode}
use Rattle.yp_schema.specs.Datastore.{IsDatastore}
use Rattle.yp_terms.specs.declared.ask.Ask.{Ask}
use Rattle.yp_terms.specs.declared.refused.Refused.{Refused}
use Rattle.yp_terms.specs.Amends.{amended_terms}
use Rattle.yp_registry.specs.Amending.{modify_reasons, reconfigure_reasons, with_change}
use Rattle.yp_registry.specs.Calls.{delete_reasons, done_unless, kill_reasons, left_unless, unconfigure_reasons, with_end}
use Rattle.yp_registry.specs.Configuring.{configure_reasons, configured_terms, with_configured}
use Rattle.yp_terms.specs.Refusals.{first_refusal, or_refused}
use Rattle.yp_registry.specs.Registry.{Subscriptions, established, reasons_against, terms_for, after_refusal}
use Rattle.yp_nacm.specs.declared.policy.Policy.{Policy}
use Rattle.yp_edit.specs.Patches.{RefusedEdit, applied}
use Rattle.yp_journal.specs.declared.command.Command.{Command}
use Rattle.yp_journal.specs.declared.command.Command.TheVariants.{Tick, Edit, Rules, Establish, Modify, Delete, Kill, Resync, Configure, Reconfigure, Unconfigure, Take}
use Rattle.yp_journal.specs.declared.entry.Entry.{Entry}
use Rattle.yp_journal.specs.declared.receiver.ReceiverInfo.{ReceiverInfo}
use Rattle.yp_journal.specs.History.{JournalState, first_state, one_further, rows_after, patch_reply, reply_by, call_reply, with_registry, next_state, reply_to, is_refusal, state_after, state_of, MayFollow, IsLegal}

-- a call that gives nothing and is refused leaves all but the position
call_alone : (state : JournalState) (found : Option Refused) (after : Subscriptions) → is_refusal (call_reply (done_unless found)) ≡ true → with_registry state (left_unless found state.registry after) ≡ one_further state
call_alone state (Some refusal) after h = refl
call_alone state None after h = cc

-- a refused command leaves all but the position
pub refusal_alone : (nodes : List SchemaNode) (state : JournalState) (command : Command) → is_refusal (reply_to nodes state command) ≡ true → next_state nodes state command ≡ one_further state
refusal_alone nodes state (Tick tick) h = cc
refusal_alone nodes state (Rules policy) h = cc
refusal_alone nodes state (Take receiver count) h = cc
refusal_alone nodes state (Modify by id amend) h =
    call_alone state (first_refusal (modify_reasons nodes state.policy state.registry by id amend)) (with_change id (amended_terms nodes amend state.stamp) state.registry) h
refusal_alone nodes state (Delete by id) h = call_alone state (first_refusal (delete_reasons state.policy state.registry by id)) (with_end id state.registry) h
refusal_alone nodes state (Kill by id) h = call_alone state (first_refusal (kill_reasons state.policy state.registry by id)) (with_end id state.registry) h
refusal_alone nodes state (Resync by id) h = refl
refusal_alone nodes state (Configure id receivers ask) h =
    call_alone state (first_refusal (configure_reasons nodes state.registry id receivers ask)) (with_configured state.registry (configured_terms nodes state.registry id receivers ask state.stamp)) h
refusal_alone nodes state (Reconfigure id amend) h =
    call_alone state (first_refusal (reconfigure_reasons nodes state.registry id amend)) (with_change id (amended_terms nodes amend state.stamp) state.registry) h
refusal_alone nodes state (Unconfigure id) h = call_alone state (first_refusal (unconfigure_reasons state.registry id)) (with_end id state.registry) h
refusal_alone nodes state (Establish by ask) h =
    let terms = terms_for nodes state.registry by ask state.stamp in
    elim (first_refusal (reasons_against nodes state.policy state.registry by ask)) as (λ (found : Option Refused). is_refusal (reply_by (or_refused found terms.id)) ≡ true → with_registry state (after_refusal found state.registry terms) ≡ one_further state) [
      | Some refusal ↦ λ g. refl
      | None ↦ λ g. cc
    ] h
refusal_alone nodes state (Edit patch) h =
    elim (applied nodes state.rows patch) as (λ (after : Result (List Row) RefusedEdit). is_refusal (patch_reply patch after) ≡ true → record (one_further state) { rows = rows_after state.rows after } ≡ one_further state) [
      | Ok after ↦ λ g. cc
      | Err fault ↦ λ g. refl
    ] h

-- the state after one command more is the one that it leaves of the state before
pub state_more : (nodes : List SchemaNode) (state : JournalState) (commands : List Command) (command : Command) → state_after nodes state (commands ++ command ∷ []) ≡ next_state nodes (state_after nodes state commands) command
state_more nodes state [] command = refl
state_more nodes state (first ∷ commands) command = state_more nodes (next_state nodes state first) commands command

-- the same of a journal's entries
pub entries_more : (nodes : List SchemaNode) (state : JournalState) (entries : List Entry) (entry : Entry) → state_of nodes state (entries ++ entry ∷ []) ≡ next_state nodes (state_of nodes state entries) entry.command
entries_more nodes state [] entry = refl
entries_more nodes state (first ∷ entries) entry = entries_more nodes (next_state nodes state first.command) entries entry

-- a legal journal stays legal with an entry that may follow
pub legal_more : (nodes : List SchemaNode) (state : JournalState) (entries : List Entry) (entry : Entry) → IsLegal nodes state entries → MayFollow nodes (state_of nodes state entries) entry → IsLegal nodes state (entries ++ entry ∷ [])
legal_more nodes state [] entry legal follows = (follows, tt)
legal_more nodes state (first ∷ entries) entry legal follows = (legal.0, legal_more nodes (next_state nodes state first.command) entries entry legal.1 follows)

-- the state after two lists of entries
pub state_both : (nodes : List SchemaNode) (state : JournalState) (entries more : List Entry) → state_of nodes state (entries ++ more) ≡ state_of nodes (state_of nodes state entries) more
state_both nodes state [] more = refl
state_both nodes state (first ∷ entries) more = state_both nodes (next_state nodes state first.command) entries more

-- two legal journals, of which the one goes on where the other ends, are one
pub legal_both : (nodes : List SchemaNode) (state : JournalState) (entries more : List Entry) → IsLegal nodes state entries → IsLegal nodes (state_of nodes state entries) more → IsLegal nodes state (entries ++ more)
legal_both nodes state [] more legal goes_on = goes_on
legal_both nodes state (first ∷ entries) more legal goes_on = (legal.0, legal_both nodes (next_state nodes state first.command) entries more legal.1 goes_on)

-- each entry of a legal journal may follow those before it
pub legal_at : (nodes : List SchemaNode) (state : JournalState) (before : List Entry) (entry : Entry) (after : List Entry) → IsLegal nodes state (before ++ entry ∷ after) → MayFollow nodes (state_of nodes state before) entry
legal_at nodes state [] entry after legal = legal.0
legal_at nodes state (first ∷ before) entry after legal = legal_at nodes (next_state nodes state first.command) before entry after legal.1

-- each command is one position further
next_position : (nodes : List SchemaNode) (state : JournalState) (command : Command) → (next_state nodes state command).position ≡ state.position + 1
next_position nodes state (Tick tick) = refl
next_position nodes state (Edit patch) = refl
next_position nodes state (Rules policy) = refl
next_position nodes state (Establish by ask) = refl
next_position nodes state (Modify by id amend) = refl
next_position nodes state (Delete by id) = refl
next_position nodes state (Kill by id) = refl
next_position nodes state (Resync by id) = refl
next_position nodes state (Configure id receivers ask) = refl
next_position nodes state (Reconfigure id amend) = refl
next_position nodes state (Unconfigure id) = refl
next_position nodes state (Take receiver count) = refl

pub position_of : (nodes : List SchemaNode) (state : JournalState) (entries : List Entry) → (state_of nodes state entries).position ≡ state.position + length entries
position_of nodes state [] = let same : state.position ≡ state.position + 0 = omega arith in same
position_of nodes state (entry ∷ entries) =
    let one : (next_state nodes state entry.command).position ≡ state.position + 1 = next_position nodes state entry.command in
    let rest : (state_of nodes (next_state nodes state entry.command) entries).position ≡ (next_state nodes state entry.command).position + length entries = position_of nodes (next_state nodes state entry.command) entries in
    omega arith

-- no command changes the receivers
next_receivers : (nodes : List SchemaNode) (state : JournalState) (command : Command) → (next_state nodes state command).receivers ≡ state.receivers
next_receivers nodes state (Tick tick) = refl
next_receivers nodes state (Edit patch) = refl
next_receivers nodes state (Rules policy) = refl
next_receivers nodes state (Establish by ask) = refl
next_receivers nodes state (Modify by id amend) = refl
next_receivers nodes state (Delete by id) = refl
next_receivers nodes state (Kill by id) = refl
next_receivers nodes state (Resync by id) = refl
next_receivers nodes state (Configure id receivers ask) = refl
next_receivers nodes state (Reconfigure id amend) = refl
next_receivers nodes state (Unconfigure id) = refl
next_receivers nodes state (Take receiver count) = refl

pub receivers_stay : (nodes : List SchemaNode) (state : JournalState) (entries : List Entry) → (state_of nodes state entries).receivers ≡ state.receivers
receivers_stay nodes state [] = refl
receivers_stay nodes state (entry ∷ entries) = receivers_stay nodes (next_state nodes state entry.command) entries ∙ next_receivers nodes state entry.command

-- nor the users and the names in the registry
module _ (nodes : List SchemaNode) (policy : Policy) (registry : Subscriptions) (by : ℕ) (ask : Ask) (now : ℕ) where
  pub established_users : (established nodes policy registry by ask now).users ≡ registry.users
  established_users =
      elim (first_refusal (reasons_against nodes policy registry by ask)) as (λ (found : Option Refused). (after_refusal found registry (terms_for nodes registry by ask now)).users ≡ registry.users) [
        | Some refusal ↦ refl
        | None ↦ refl
      ]

  established_names : (established nodes policy registry by ask now).names ≡ registry.names
  established_names =
      elim (first_refusal (reasons_against nodes policy registry by ask)) as (λ (found : Option Refused). (after_refusal found registry (terms_for nodes registry by ask now)).names ≡ registry.names) [
        | Some refusal ↦ refl
        | None ↦ refl
      ]

-- a call that gives nothing leaves users that it leaves where it is done
pub call_users : (before : Subscriptions) (found : Option Refused) (after : Subscriptions) → after.users ≡ before.users → (left_unless found before after).users ≡ before.users
call_users before (Some refusal) after same = refl
call_users before None after same = same

pub next_users : (nodes : List SchemaNode) (state : JournalState) (command : Command) → (next_state nodes state command).registry.users ≡ state.registry.users
next_users nodes state (Tick tick) = refl
next_users nodes state (Edit patch) = refl
next_users nodes state (Rules policy) = refl
next_users nodes state (Establish by ask) = established_users nodes state.policy state.registry by ask state.stamp
next_users nodes state (Modify by id amend) = call_users state.registry (first_refusal (modify_reasons nodes state.policy state.registry by id amend)) (with_change id (amended_terms nodes amend state.stamp) state.registry) refl
next_users nodes state (Delete by id) = call_users state.registry (first_refusal (delete_reasons state.policy state.registry by id)) (with_end id state.registry) refl
next_users nodes state (Kill by id) = call_users state.registry (first_refusal (kill_reasons state.policy state.registry by id)) (with_end id state.registry) refl
next_users nodes state (Resync by id) = refl
next_users nodes state (Configure id receivers ask) = call_users state.registry (first_refusal (configure_reasons nodes state.registry id receivers ask)) (with_configured state.registry (configured_terms nodes state.registry id receivers ask state.stamp)) refl
next_users nodes state (Reconfigure id amend) = call_users state.registry (first_refusal (reconfigure_reasons nodes state.registry id amend)) (with_change id (amended_terms nodes amend state.stamp) state.registry) refl
next_users nodes state (Unconfigure id) = call_users state.registry (first_refusal (unconfigure_reasons state.registry id)) (with_end id state.registry) refl
next_users nodes state (Take receiver count) = refl

-- a call that gives nothing leaves names that it leaves where it is done
call_names : (before : Subscriptions) (found : Option Refused) (after : Subscriptions) → after.names ≡ before.names → (left_unless found before after).names ≡ before.names
call_names before (Some refusal) after same = refl
call_names before None after same = same

pub next_names : (nodes : List SchemaNode) (state : JournalState) (command : Command) → (next_state nodes state command).registry.names ≡ state.registry.names
next_names nodes state (Tick tick) = refl
next_names nodes state (Edit patch) = refl
next_names nodes state (Rules policy) = refl
next_names nodes state (Establish by ask) = established_names nodes state.policy state.registry by ask state.stamp
next_names nodes state (Modify by id amend) = call_names state.registry (first_refusal (modify_reasons nodes state.policy state.registry by id amend)) (with_change id (amended_terms nodes amend state.stamp) state.registry) refl
next_names nodes state (Delete by id) = call_names state.registry (first_refusal (delete_reasons state.policy state.registry by id)) (with_end id state.registry) refl
next_names nodes state (Kill by id) = call_names state.registry (first_refusal (kill_reasons state.policy state.registry by id)) (with_end id state.registry) refl
next_names nodes state (Resync by id) = refl
next_names nodes state (Configure id receivers ask) = call_names state.registry (first_refusal (configure_reasons nodes state.registry id receivers ask)) (with_configured state.registry (configured_terms nodes state.registry id receivers ask state.stamp)) refl
next_names nodes state (Reconfigure id amend) = call_names state.registry (first_refusal (reconfigure_reasons nodes state.registry id amend)) (with_change id (amended_terms nodes amend state.stamp) state.registry) refl
next_names nodes state (Unconfigure id) = call_names state.registry (first_refusal (unconfigure_reasons state.registry id)) (with_end id state.registry) refl
next_names nodes state (Take receiver count) = refl

pub users_stay : (nodes : List SchemaNode) (state : JournalState) (entries : List Entry) → (state_of nodes state entries).registry.users ≡ state.registry.users
users_stay nodes state [] = refl
users_stay nodes state (entry ∷ entries) = users_stay nodes (next_state nodes state entry.command) entries ∙ next_users nodes state entry.command

pub names_stay : (nodes : List SchemaNode) (state : JournalState) (entries : List Entry) → (state_of nodes state entries).registry.names ≡ state.registry.names
names_stay nodes state [] = refl
names_stay nodes state (entry ∷ entries) = names_stay nodes (next_state nodes state entry.command) entries ∙ next_names nodes state entry.command

-- a command other than a policy leaves the policy
pub policy_stays : (nodes : List SchemaNode) (state : JournalState) (command : Command) → ((policy : Policy) → command ≢ Rules policy) → (next_state nodes state command).policy ≡ state.policy
policy_stays nodes state (Tick tick) other = refl
policy_stays nodes state (Edit patch) other = refl
policy_stays nodes state (Rules policy) other = absurd (other policy refl)
policy_stays nodes state (Establish by ask) other = refl
policy_stays nodes state (Modify by id amend) other = refl
policy_stays nodes state (Delete by id) other = refl
policy_stays nodes state (Kill by id) other = refl
policy_stays nodes state (Resync by id) other = refl
policy_stays nodes state (Configure id receivers ask) other = refl
policy_stays nodes state (Reconfigure id amend) other = refl
policy_stays nodes state (Unconfigure id) other = refl
policy_stays nodes state (Take receiver count) other = refl

-- no rows are a datastore
pub opening_datastore : (nodes : List SchemaNode) (receivers : List ReceiverInfo) → IsDatastore nodes (first_state receivers).rows
opening_datastore nodes receivers = record {
  in_order = none_order;
  of_schema = tt;
  entries = λ above rest within entry there. absurd (true≢false (sym there));
}

-- the statement of a law: a command leaves a datastore a datastore
abbrev pub CommandsKeepDatastores : Type 0
CommandsKeepDatastores = (nodes : List SchemaNode) (state : JournalState) (command : Command) → IsDatastore nodes state.rows → IsDatastore nodes (next_state nodes state command).rows
