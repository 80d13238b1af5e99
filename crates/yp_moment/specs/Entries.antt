-- What the entries of a journal are to feeds (RFC 8639 sections 2.4 and 2.5, RFC 8641 sections 3.3 and 4.4).
use Rattle.std.specs.Prelude.{ℕ, ◌≡◌, ◌==◌, List, [], ◌∷◌, Bool, true, false, not, Option, Some, None}
use Rattle.std.specs.List.{list_any}
use Rattle.yp_base.specs.declared.row.Row.{Row}
use Rattle.yp_schema.specs.declared.schema.SchemaNode.{SchemaNode}
use Rattle.yp_nacm.specs.Same.{are_same_rules}
use Rattle.yp_terms.specs.declared.ask.Ask.{Ask}
use Rattle.yp_registry.specs.Registry.{live_at}
use Rattle.yp_terms.specs.Terms.{Terms}
use Rattle.yp_kept.specs.Selection.{selection}
use Rattle.yp_journal.specs.declared.command.Command.{Command}
use Rattle.yp_journal.specs.declared.command.Command.TheVariants.{Tick, Edit, Rules, Establish, Modify, Delete, Kill, Resync, Configure, Reconfigure, Unconfigure, Take}
use Rattle.yp_journal.specs.declared.entry.Entry.{Entry}
use Rattle.yp_journal.specs.declared.receiver.ReceiverInfo.{ReceiverInfo}
use Rattle.yp_journal.specs.declared.reply.Reply.{Reply}
use Rattle.yp_journal.specs.declared.reply.Reply.TheVariants.{Done, Id, Registry, Edit as EditRefused}
use Rattle.yp_journal.specs.History.{JournalState, first_state, next_state, rules_at, may_read}
use Rattle.yp_feed.specs.declared.item.Control.TheVariants as feeds
use Rattle.yp_attempt.specs.Moments.{Moment, Act, Quiet, Starts, Controls, Drops}

-- ---- what is selected

-- what terms select for the receiver of this number at a state: of what its user may read what the filter keeps; without terms nothing
abbrev pub selected_by : List SchemaNode → JournalState → ℕ → Option Terms → List Row
selected_by nodes state receiver None = []
selected_by nodes state receiver (Some terms) = selection nodes terms.asked (may_read nodes state receiver) state.rows

-- what the subscription of an id selects for a receiver; one that isn't live selects nothing
abbrev pub selected_at : List SchemaNode → JournalState → ℕ → ℕ → List Row
selected_at nodes state id receiver = selected_by nodes state receiver (live_at id state.registry.live)

-- ---- what is done to subscriptions

-- a subscription starts with its terms, for each receiver that these name
abbrev pub starts_with : Option Terms → Act
starts_with None = Quiet
starts_with (Some terms) = Starts terms.id terms.trigger terms.configured (λ receiver. list_any (λ other. other == receiver) terms.receivers)

-- where a subscription was given, it starts with the terms that the registry has for it then
abbrev pub given_by : Reply → JournalState → Act
given_by Done after = Quiet
given_by (Id id) after = starts_with (live_at id after.registry.live)
given_by (Registry refusal) after = Quiet
given_by (EditRefused edit_id tag path) after = Quiet

-- the subscription of an id goes on by other terms, and its receivers are told so or not
abbrev pub goes_on_with : ℕ → Bool → Option Terms → Act
goes_on_with id told None = Quiet
goes_on_with id told (Some terms) = Controls id (feeds.Modify terms.trigger told)

-- what a call that gives no id does, where it isn't refused
abbrev pub where_done : Reply → Act → Act
where_done Done act = act
where_done (Id id) act = Quiet
where_done (Registry refusal) act = Quiet
where_done (EditRefused edit_id tag path) act = Quiet

-- what a command does to subscriptions by the reply to it, where this state is left: receivers are told that a configured subscription was modified, and that one ended which its receiver didn't delete (RFC 8639 sections 2.7.2 and 2.7.3)
abbrev pub act_of : Command → Reply → JournalState → Act
act_of (Tick tick) reply after = Quiet
act_of (Edit patch) reply after = Quiet
act_of (Rules policy) reply after = Quiet
act_of (Establish by ask) reply after = given_by reply after
act_of (Modify by id amend) reply after = where_done reply (goes_on_with id false (live_at id after.registry.live))
act_of (Delete by id) reply after = where_done reply (Drops id)
act_of (Kill by id) reply after = where_done reply (Controls id feeds.End)
act_of (Resync by id) reply after = where_done reply (Controls id feeds.Resync)
act_of (Configure id receivers ask) reply after = where_done reply (starts_with (live_at id after.registry.live))
act_of (Reconfigure id amend) reply after = where_done reply (goes_on_with id true (live_at id after.registry.live))
act_of (Unconfigure id) reply after = where_done reply (Controls id feeds.End)
act_of (Take receiver count) reply after = Quiet

-- an entry gives a subscription of this id by what was asked for: a receiver established it, or it was configured
pub data Grants (entry : Entry) (id : ℕ) (ask : Ask) : Type 0 where
  by_receiver : (by : ℕ) → entry.command ≡ Establish by ask → entry.reply ≡ Id id → Grants entry id ask
  by_configuration : (receivers : List (List ℕ)) → entry.command ≡ Configure id receivers ask → entry.reply ≡ Done → Grants entry id ask

-- ---- entries

-- an entry that found one state and left another
abbrev pub moment_between : List SchemaNode → JournalState → Entry → JournalState → Moment
moment_between nodes before entry after = record {
  stamp = after.stamp;
  act = act_of entry.command entry.reply after;
  rules = λ receiver. not (are_same_rules (rules_at before receiver) (rules_at after receiver));
  selection = λ id receiver. selected_at nodes after id receiver;
}

-- an entry that found a state
abbrev pub moment_of : List SchemaNode → JournalState → Entry → Moment
moment_of nodes before entry = moment_between nodes before entry (next_state nodes before entry.command)

-- the entries of a journal that goes on from a state
abbrev pub moments_from : List SchemaNode → JournalState → List Entry → List Moment
moments_from nodes state [] = []
moments_from nodes state (entry ∷ entries) = moment_of nodes state entry ∷ moments_from nodes (next_state nodes state entry.command) entries

-- the entries of a journal
abbrev pub moments_of : List SchemaNode → List ReceiverInfo → List Entry → List Moment
moments_of nodes receivers entries = moments_from nodes (first_state receivers) entries
