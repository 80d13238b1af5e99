-- The history of a publisher: the state as the fold of its commands, the replies, and which journals are legal (RFC 8072 for patches, RFC 8341 for access control, RFC 8639 and RFC 8641 for subscriptions).
use Rattle.std.specs.Prelude.{◌≡◌, ℕ, ◌+◌, ◌<◌, ◌≤◌, ◌^◌, max, map, List, [], ◌∷◌, length, take, Bool, true, false, Option, Some, None, Result, Ok, Err, slice_index_or}
use Rattle.std.specs.List.{slice_get}
use Rattle.serde_json.specs.Data.{Data}
use Rattle.yp_base.specs.declared.path.Seg.{Seg}
use Rattle.yp_base.specs.declared.row.Row.{Row}
use Rattle.yp_schema.specs.declared.schema.SchemaNode.{SchemaNode}
use Rattle.yp_nacm.specs.declared.compile.UserRules.{UserRules}
use Rattle.yp_nacm.specs.declared.policy.Policy.{Policy}
use Rattle.yp_nacm.specs.Decision.{is_readable}
use Rattle.yp_nacm.specs.Own.{own_rules}
use Rattle.yp_nacm.specs.Policies.{opening_policy, IsPolicyOf}
use Rattle.yp_terms.specs.declared.ask.Ask.{Ask}
use Rattle.yp_terms.specs.declared.refused.Refused.{Refused}
use Rattle.yp_terms.specs.Amends.{HasGivenAnchor}
use Rattle.yp_registry.specs.Amending.{modified_by, modify_answer, reconfigured, reconfigure_answer}
use Rattle.yp_registry.specs.Calls.{deleted_by, delete_answer, killed_by, kill_answer, resync_answer, unconfigured, unconfigure_answer}
use Rattle.yp_registry.specs.Configuring.{newly_configured, configure_answer}
use Rattle.yp_registry.specs.Registry.{Subscriptions, no_subscriptions, established, establish_answer}
use Rattle.yp_terms.specs.Terms.{HasAnchor}
use Rattle.yp_patch.specs.declared.patch.Edit.{Edit as PatchEdit}
use Rattle.yp_patch.specs.declared.patch.Patch.{Patch}
use Rattle.yp_edit.specs.Patches.{RefusedEdit, applied}
use Rattle.yp_patch.specs.Shapes.{ids_of, patch_in}
use Rattle.yp_time.specs.Ticks.{tick_limit}
use Rattle.yp_journal.specs.declared.command.Command.{Command}
use Rattle.yp_journal.specs.declared.command.Command.TheVariants.{Tick, Edit, Rules, Establish, Modify, Delete, Kill, Resync, Configure, Reconfigure, Unconfigure, Take}
use Rattle.yp_journal.specs.declared.entry.Entry.{Entry}
use Rattle.yp_journal.specs.declared.receiver.ReceiverInfo.{ReceiverInfo}
use Rattle.yp_journal.specs.declared.reply.Reply.{Reply}
use Rattle.yp_journal.specs.declared.reply.Reply.TheVariants.{Done, Id, Registry, Edit as EditRefused}

-- ---- the state

-- what a command finds: the rows of the datastore, the policy of access control, the tick, how many commands came before, the registry of subscriptions, and the receivers, which stay as they were declared
pub record JournalState : Type 0 where
  pub rows : List Row
  pub policy : Policy
  pub stamp : ℕ
  pub position : ℕ
  pub registry : Subscriptions
  pub receivers : List ReceiverInfo

-- the registry that the first command finds: the users and the names of the receivers, and no subscription
abbrev pub first_registry : List ReceiverInfo → Subscriptions
first_registry receivers = no_subscriptions (map (λ receiver. receiver.user) receivers) (map (λ receiver. receiver.name) receivers)

-- what the first command finds
abbrev pub first_state : List ReceiverInfo → JournalState
first_state receivers = record { rows = []; policy = opening_policy; stamp = 0; position = 0; registry = first_registry receivers; receivers = receivers }

-- the state one position further, with all else as it was
abbrev pub one_further : JournalState → JournalState
one_further state = record state { position = state.position + 1 }

-- time goes on to a tick, and never back
abbrev pub with_tick : JournalState → ℕ → JournalState
with_tick state tick = record (one_further state) { stamp = max state.stamp tick }

-- ---- patches

-- the rows after a patch; one that is refused leaves those that it found
abbrev pub rows_after : List Row → Result (List Row) RefusedEdit → List Row
rows_after rows (Ok after) = after
rows_after rows (Err refusal) = rows

-- the id of the edit of this number, from 0 on
abbrev pub id_at : ℕ → List PatchEdit → List ℕ
id_at number edits = slice_index_or (ids_of edits) number []

-- the reply to a patch
abbrev pub patch_reply : Patch → Result (List Row) RefusedEdit → Reply
patch_reply patch (Ok after) = Done
patch_reply patch (Err refusal) = EditRefused (id_at refusal.number patch.edits) refusal.tag refusal.path

-- ---- access control

-- another policy in place of the old one
abbrev pub with_policy : JournalState → Policy → JournalState
with_policy state policy = record (one_further state) { policy = policy }

-- the user of a receiver, where there is one
abbrev pub user_in : Option ReceiverInfo → List ℕ
user_in None = []
user_in (Some receiver) = receiver.user

-- the user of the receiver of this number
abbrev pub user_of : ℕ → List ReceiverInfo → List ℕ
user_of number receivers = user_in (slice_get receivers number)

-- the own rules of the user of the receiver of this number (RFC 8341 section 3.4.5)
abbrev pub rules_at : JournalState → ℕ → UserRules
rules_at state receiver = own_rules state.policy (user_of receiver state.receivers)

-- whether that user may read a path
abbrev pub may_read : List SchemaNode → JournalState → ℕ → List Seg → Bool
may_read nodes state receiver path = is_readable nodes (rules_at state receiver) path

-- ---- subscriptions

-- another registry in place of the old one
abbrev pub with_registry : JournalState → Subscriptions → JournalState
with_registry state registry = record (one_further state) { registry = registry }

-- the reply to a call that asks for a subscription
abbrev pub reply_by : Result ℕ Refused → Reply
reply_by (Ok id) = Id id
reply_by (Err refusal) = Registry refusal

-- the reply to a call that gives nothing
abbrev pub call_reply : Result Unit Refused → Reply
call_reply (Ok done) = Done
call_reply (Err refusal) = Registry refusal

-- the state after the establishment of a subscription, and the reply (RFC 8639 section 2.4.2, RFC 8641 section 4.4.1)
abbrev pub after_establish : List SchemaNode → JournalState → ℕ → Ask → JournalState
after_establish nodes state by ask = with_registry state (established nodes state.policy state.registry by ask state.stamp)

abbrev pub establish_reply : List SchemaNode → JournalState → ℕ → Ask → Reply
establish_reply nodes state by ask = reply_by (establish_answer nodes state.policy state.registry by ask state.stamp)

-- ---- commands

-- the state after a command, and the reply to it
abbrev pub accepted : List SchemaNode → JournalState → Command → JournalState × Reply
accepted nodes state (Tick tick) = (with_tick state tick, Done)
accepted nodes state (Edit patch) =
    (record (one_further state) { rows = rows_after state.rows (applied nodes state.rows patch) }, patch_reply patch (applied nodes state.rows patch))
accepted nodes state (Rules policy) = (with_policy state policy, Done)
accepted nodes state (Establish by ask) = (after_establish nodes state by ask, establish_reply nodes state by ask)
accepted nodes state (Modify by id amend) =
    (with_registry state (modified_by nodes state.policy state.registry by id amend state.stamp), call_reply (modify_answer nodes state.policy state.registry by id amend))
accepted nodes state (Delete by id) = (with_registry state (deleted_by state.policy state.registry by id), call_reply (delete_answer state.policy state.registry by id))
accepted nodes state (Kill by id) = (with_registry state (killed_by state.policy state.registry by id), call_reply (kill_answer state.policy state.registry by id))
accepted nodes state (Resync by id) = (one_further state, call_reply (resync_answer state.policy state.registry by id))
accepted nodes state (Configure id receivers ask) =
    (with_registry state (newly_configured nodes state.registry id receivers ask state.stamp), call_reply (configure_answer nodes state.registry id receivers ask))
accepted nodes state (Reconfigure id amend) = (with_registry state (reconfigured nodes state.registry id amend state.stamp), call_reply (reconfigure_answer nodes state.registry id amend))
accepted nodes state (Unconfigure id) = (with_registry state (unconfigured state.registry id), call_reply (unconfigure_answer state.registry id))
accepted nodes state (Take receiver count) = (one_further state, Done)

abbrev pub next_state : List SchemaNode → JournalState → Command → JournalState
next_state nodes state command = (accepted nodes state command).0

abbrev pub reply_to : List SchemaNode → JournalState → Command → Reply
reply_to nodes state command = (accepted nodes state command).1

-- whether a reply refuses its command
abbrev pub is_refusal : Reply → Bool
is_refusal Done = false
is_refusal (Id id) = false
is_refusal (Registry refusal) = true
is_refusal (EditRefused edit_id tag path) = true

-- the state after commands, in order
abbrev pub state_after : List SchemaNode → JournalState → List Command → JournalState
state_after nodes state [] = state
state_after nodes state (command ∷ commands) = state_after nodes (next_state nodes state command) commands

-- ---- journals

abbrev pub commands_of : List Entry → List Command
commands_of entries = map (λ entry. entry.command) entries

-- the state after the entries of a journal
abbrev pub state_of : List SchemaNode → JournalState → List Entry → JournalState
state_of nodes state entries = state_after nodes state (commands_of entries)

-- the state that the entries up to a position leave
abbrev pub state_at : List SchemaNode → List ReceiverInfo → List Entry → ℕ → JournalState
state_at nodes receivers entries n = state_of nodes (first_state receivers) (take n entries)

-- a patch that can be read from JSON, with fewer edits than numbers of 32 bits
pub record IsRead (patch : Patch) : Type 0 where
  pub json : Data
  pub read : patch_in json ≡ Some patch
  pub few : length patch.edits < 2 ^ 32

-- how many packets a receiver takes at most by one command
abbrev pub take_limit : ℕ
take_limit = 32

-- a receiver of this number takes up to so many packets by a command: it is one that doesn't take each by itself
pub record IsTakeOf (receivers : List ReceiverInfo) (receiver count : ℕ) : Type 0 where
  pub info : ReceiverInfo
  pub there : slice_get receivers receiver ≡ Some info
  pub by_command : info.auto ≡ false
  pub some : 0 < count
  pub few : count ≤ take_limit

-- a command that can come of a script that declares these receivers
abbrev pub MayCome : List SchemaNode → List ReceiverInfo → Command → Type 0
MayCome nodes receivers (Tick tick) = tick ≤ tick_limit
MayCome nodes receivers (Edit patch) = IsRead patch
MayCome nodes receivers (Rules policy) = IsPolicyOf nodes policy
MayCome nodes receivers (Establish by ask) = (by < length receivers) × HasAnchor ask.trigger
MayCome nodes receivers (Modify by id amend) = (by < length receivers) × HasGivenAnchor amend.trigger
MayCome nodes receivers (Delete by id) = by < length receivers
MayCome nodes receivers (Kill by id) = by < length receivers
MayCome nodes receivers (Resync by id) = by < length receivers
MayCome nodes receivers (Configure id asked ask) = (length receivers < 2 ^ 32) × HasAnchor ask.trigger
MayCome nodes receivers (Reconfigure id amend) = HasGivenAnchor amend.trigger
MayCome nodes receivers (Unconfigure id) = Unit {0}
MayCome nodes receivers (Take receiver count) = IsTakeOf receivers receiver count

-- an entry that may follow where the journal has this state: its command may come, and its reply and its stamp are those of the fold
pub record MayFollow (nodes : List SchemaNode) (state : JournalState) (entry : Entry) : Type 0 where
  pub command : MayCome nodes state.receivers entry.command
  pub reply : entry.reply ≡ reply_to nodes state entry.command
  pub stamp : entry.stamp ≡ (next_state nodes state entry.command).stamp

-- the entries of a legal journal that goes on from a state
abbrev pub IsLegal : List SchemaNode → JournalState → List Entry → Type 0
IsLegal nodes state [] = Unit {0}
IsLegal nodes state (entry ∷ entries) = MayFollow nodes state entry × IsLegal nodes (next_state nodes state entry.command) entries
