-- A worker of the program: the entries of a journal and the answers that it stands for, and the offer that is out.
use Rattle.std.specs.Prelude.{◌≡◌, ℕ, List, map, Option, Some, None, IfSome}
use Rattle.yp_base.specs.declared.row.Row.{Row}
use Rattle.yp_schema.specs.declared.schema.SchemaNode.{SchemaNode}
use Rattle.yp_schema.specs.Datastore.{IsDatastore}
use Rattle.yp_schema.specs.WellFormed.{IsSchema}
use Rattle.yp_changes.specs.declared.changed.ChangedRow.{ChangedRow}
use Rattle.yp_changes.specs.Changes.{changed_rows}
use Rattle.yp_nacm.specs.declared.compile.UserRules.{UserRules}
use Rattle.yp_registry.specs.Ids.{HasRisingIds}
use Rattle.yp_registry.specs.Registry.{IsRegistryOf}
use Rattle.yp_journal.specs.declared.entry.Entry.{Entry}
use Rattle.yp_journal.specs.declared.receiver.ReceiverInfo.{ReceiverInfo}
use Rattle.yp_journal.specs.History.{JournalState, first_state, next_state, state_of, IsLegal, MayFollow}
use Rattle.yp_attempt.specs.Runs.{Found, Run, waits}
use Rattle.yp_attempt.specs.Tracks.{Answer, item_made}
use Rattle.yp_moment.specs.Entries.{moments_of}
use Rattle.yp_moment.specs.Notices.{notice_of}
use Rattle.yp_moment.specs.Windows.{recorded}
use Rattle.yp_roster.specs.declared.roster.Offer.{Offer}
use Rattle.yp_roster.specs.Rosters.{IsClassed, IsRosterAt, IsIdleAt, IsFoundAt}
use Rattle.yp_slot.specs.Slots.{AreRulesAt}
use Rattle.yp_worker.specs.declared.offering.Sent.{Sent}
use Rattle.yp_worker.specs.declared.worker.Worker.{Worker}
use Rattle.yp_worker.specs.Contents.{AreSelected}
use Rattle.yp_worker.specs.Packets.{packet_of}

-- ---- the rules of receivers' users

-- the rules after an entry: new ones where it brought some, and else those before it
abbrev pub rules_left : List UserRules → Option (List UserRules) → List UserRules
rules_left rules None = rules
rules_left rules (Some others) = others

-- ---- states

-- what each state of a legal journal has: its rows are a datastore, its registry is one of the schema with rising ids, and has the user of each receiver
pub record IsStateOf (nodes : List SchemaNode) (state : JournalState) : Type 0 where
  pub datastore : IsDatastore nodes state.rows
  pub registry : IsRegistryOf nodes state.registry
  pub ids : HasRisingIds state.registry
  pub users : state.registry.users ≡ map (λ receiver. receiver.user) state.receivers

-- a second tree, where one is kept, has these rows
abbrev pub IsFormer : List Row → Option (List Row) → Type 0
IsFormer rows former = IfSome former (λ tree. tree ≡ rows)

-- ---- workers

-- a worker for some of these receivers has followed a legal journal: its state is the one that the entries leave, with the own rules of each receiver's user, its second tree has the rows, the slots of its roster have their classes, and what it keeps of them is selected there
pub record HasFollowed (nodes : List SchemaNode) (start : ℕ) (receivers : List ReceiverInfo) (mine : List ℕ) (entries : List Entry) (worker : Worker) : Type 0 where
  pub schema : IsSchema nodes
  pub legal : IsLegal nodes (first_state receivers) entries
  pub begun : worker.start ≡ start
  pub served : worker.mine.items ≡ mine
  pub state : worker.state ≡ state_of nodes (first_state receivers) entries
  pub sound : IsStateOf nodes worker.state
  pub rules : AreRulesAt worker.state worker.readers
  pub former : IsFormer worker.state.rows worker.former
  pub classed : IsClassed nodes worker.state worker.roster
  pub contents : AreSelected nodes worker.state worker.contents.items

-- it stands for the entries and answers
pub record IsWorkerOf (nodes : List SchemaNode) (start : ℕ) (receivers : List ReceiverInfo) (mine : List ℕ) (entries : List Entry) (answers : List Answer) (worker : Worker) : Type 0 where
  pub followed : HasFollowed nodes start receivers mine entries worker
  pub stands : IsRosterAt nodes worker.state mine (moments_of nodes receivers entries) answers worker.roster.slots.items

-- it does, and has nothing to offer
pub record IsIdleWorkerOf (nodes : List SchemaNode) (start : ℕ) (receivers : List ReceiverInfo) (mine : List ℕ) (entries : List Entry) (answers : List Answer) (worker : Worker) : Type 0 where
  pub followed : HasFollowed nodes start receivers mine entries worker
  pub idle : IsIdleAt nodes worker.state mine (moments_of nodes receivers entries) answers worker.roster.slots.items

-- it does, and its offer is out: what it found first is sent, to the receiver of its track, in its packet and as its notification
pub record HasOffered (nodes : List SchemaNode) (start : ℕ) (receivers : List ReceiverInfo) (mine : List ℕ) (entries : List Entry) (answers : List Answer) (sent : Sent) (worker : Worker) : Type 0 where
  pub followed : HasFollowed nodes start receivers mine entries worker
  pub offer : Offer
  pub found : IsFoundAt nodes worker.state mine (moments_of nodes receivers entries) answers offer worker.roster.slots.items
  pub out : worker.out ≡ Some (record { place = offer.place; item = offer.item })
  pub to : sent.receiver ≡ found.track.feed.receiver
  pub made : sent.packet ≡ packet_of nodes start found.track.feed.sub (item_made recorded found.track offer.item worker.state.position worker.state.stamp)
  pub notice : sent.notice ≡ notice_of found.track.feed.sub (item_made recorded found.track offer.item worker.state.position worker.state.stamp)

-- ---- whatever the entries and answers

-- it stands for some entries and answers
pub record IsAtWork (nodes : List SchemaNode) (worker : Worker) : Type 0 where
  pub start : ℕ
  pub receivers : List ReceiverInfo
  pub mine : List ℕ
  pub entries : List Entry
  pub answers : List Answer
  pub stands : IsWorkerOf nodes start receivers mine entries answers worker

-- it does, and has nothing to offer
pub record IsIdle (nodes : List SchemaNode) (worker : Worker) : Type 0 where
  pub start : ℕ
  pub receivers : List ReceiverInfo
  pub mine : List ℕ
  pub entries : List Entry
  pub answers : List Answer
  pub idle : IsIdleWorkerOf nodes start receivers mine entries answers worker

-- it does, and its offer is out
pub record IsOffering (nodes : List SchemaNode) (worker : Worker) : Type 0 where
  pub start : ℕ
  pub receivers : List ReceiverInfo
  pub mine : List ℕ
  pub entries : List Entry
  pub answers : List Answer
  pub sent : Sent
  pub offered : HasOffered nodes start receivers mine entries answers sent worker

-- ---- offers

-- what a look found: the first offer, as it is sent, and none exactly where nothing is offered
abbrev pub HasFound : List SchemaNode → ℕ → List ReceiverInfo → List ℕ → List Entry → List Answer → Option Sent → Worker → Type 0
HasFound nodes start receivers mine entries answers None worker = IsIdleWorkerOf nodes start receivers mine entries answers worker
HasFound nodes start receivers mine entries answers (Some sent) worker = HasOffered nodes start receivers mine entries answers sent worker

-- what is sent is what a run offers first: to the receiver of its track, in the packet and the notification of what is made of its item
pub record IsSentBy (nodes : List SchemaNode) (start : ℕ) (run : Run) (sent : Sent) : Type 0 where
  pub found : Found
  pub waits : waits recorded run ≡ Some found
  pub to : sent.receiver ≡ found.track.feed.receiver
  pub packet : sent.packet ≡ packet_of nodes start found.track.feed.sub (item_made recorded found.track found.item run.standing.position run.standing.stamp)
  pub notice : sent.notice ≡ notice_of found.track.feed.sub (item_made recorded found.track found.item run.standing.position run.standing.stamp)

-- ---- an entry that is taken

-- a worker that was idle takes an entry: its state is already the one that the entry leaves, and all else is still as it was before
pub record IsTaking (nodes : List SchemaNode) (start : ℕ) (receivers : List ReceiverInfo) (mine : List ℕ) (entries : List Entry) (answers : List Answer) (entry : Entry) (changed : List ChangedRow) (worker : Worker) : Type 0 where
  pub schema : IsSchema nodes
  pub legal : IsLegal nodes (first_state receivers) entries
  pub follows : MayFollow nodes (state_of nodes (first_state receivers) entries) entry
  pub begun : worker.start ≡ start
  pub served : worker.mine.items ≡ mine
  pub before : IsStateOf nodes (state_of nodes (first_state receivers) entries)
  pub state : worker.state ≡ next_state nodes (state_of nodes (first_state receivers) entries) entry.command
  pub sound : IsStateOf nodes worker.state
  pub rules : AreRulesAt (state_of nodes (first_state receivers) entries) worker.readers
  pub former : IsFormer (state_of nodes (first_state receivers) entries).rows worker.former
  pub classed : IsClassed nodes (state_of nodes (first_state receivers) entries) worker.roster
  pub contents : AreSelected nodes (state_of nodes (first_state receivers) entries) worker.contents.items
  pub differ : changed ≡ changed_rows (state_of nodes (first_state receivers) entries).rows worker.state.rows
  pub idle : IsIdleAt nodes (state_of nodes (first_state receivers) entries) mine (moments_of nodes receivers entries) answers worker.roster.slots.items

-- it takes an entry, whatever the entries and answers before it
pub record TakesEntry (nodes : List SchemaNode) (entry : Entry) (changed : List ChangedRow) (worker : Worker) : Type 0 where
  pub start : ℕ
  pub receivers : List ReceiverInfo
  pub mine : List ℕ
  pub entries : List Entry
  pub answers : List Answer
  pub taking : IsTaking nodes start receivers mine entries answers entry changed worker
