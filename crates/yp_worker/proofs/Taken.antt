-- A worker that went on by an entry.
use Rattle.std.proofs.Common.{◌≡◌, ◌∙◌, ℕ, sym, ap, subst, Bool, true, List, ◌++◌, ◌∷◌, []}
use Rattle.yp_schema.specs.declared.schema.SchemaNode.{SchemaNode}
use Rattle.yp_schema.specs.WellFormed.{IsSchema}
use Rattle.yp_journal.specs.declared.entry.Entry.{Entry}
use Rattle.yp_journal.specs.declared.receiver.ReceiverInfo.{ReceiverInfo}
use Rattle.yp_changes.specs.declared.changed.ChangedRow.{ChangedRow}
use Rattle.yp_changes.specs.Changes.{changed_rows}
use Rattle.yp_journal.specs.History.{JournalState, IsLegal, MayFollow, first_state, next_state, state_of}
use Rattle.yp_attempt.specs.Moments.{Moment, MayFollow as FollowsMoments}
use Rattle.yp_attempt.specs.Tracks.{Answer, Track}
use Rattle.yp_moment.specs.Entries.{moments_of}
use Rattle.yp_slot.specs.declared.following.Entered.{Entered}
use Rattle.yp_roster.specs.declared.roster.Roster.{Roster}
use Rattle.yp_slot.specs.declared.slot.Slot.{Slot}
use Rattle.yp_roster.specs.Rosters.{IsClassed, IsIdleAt, IsRosterAt}
use Rattle.yp_slot.specs.Slots.{AreRulesAt}
use Rattle.yp_roster.specs.Ordered.{AreSlotsOf}
use Rattle.yp_slot.specs.Steps.{IsEntered, entered_moment}
use Rattle.yp_worker.specs.declared.worker.Worker.{Worker}
use Rattle.yp_worker.specs.Contents.{AreSelected}
use Rattle.yp_worker.specs.Workers.{IsFormer, IsIdleWorkerOf, IsStateOf, IsTaking, IsWorkerOf}

-- a roster stands as an entry has to find it
abbrev pub IsFoundBy : Entered → Roster → Type 0
IsFoundBy e roster = (before : JournalState) × IsEntered e before × IsClassed e.present.schema.now before roster × ((tracks : List Track) × AreSlotsOf e.present.schema.now before roster.slots.items tracks)

-- a roster went on by an entry to another
abbrev pub Enters : Entered → List ℕ → Roster → Roster → Type 0
Enters e numbers old new = (before : JournalState) (past : List Moment) (answers : List Answer) → IsEntered e before → IsClassed e.present.schema.now before old
    → IsIdleAt e.present.schema.now before numbers past answers old.slots.items → FollowsMoments past (entered_moment e before)
    → IsRosterAt e.present.schema.now e.present.state.now numbers (past ++ entered_moment e before ∷ []) answers new.slots.items

-- the slots of these receivers, by another name of their numbers
pub for_those : {past : List Moment} (nodes : List SchemaNode) (state : JournalState) (numbers mine : List ℕ) (answers : List Answer) (slots : List Slot) → numbers ≡ mine → IsRosterAt nodes state numbers past answers slots → IsRosterAt nodes state mine past answers slots
for_those {past} nodes state numbers mine answers slots same roster = subst (λ (those : List ℕ). IsRosterAt nodes state those past answers slots) same roster

-- it stands for the journal with this entry more, where its parts do
pub went_on : (nodes : List SchemaNode) (start : ℕ) (receivers : List ReceiverInfo) (mine : List ℕ) (entries : List Entry) (answers : List Answer) (worker : Worker)
    → IsSchema nodes → IsLegal nodes (first_state receivers) entries → worker.start ≡ start → worker.mine.items ≡ mine → worker.state ≡ state_of nodes (first_state receivers) entries
    → IsStateOf nodes worker.state → AreRulesAt worker.state worker.readers → IsFormer worker.state.rows worker.former → IsClassed nodes worker.state worker.roster → AreSelected nodes worker.state worker.contents.items
    → IsRosterAt nodes (state_of nodes (first_state receivers) entries) mine (moments_of nodes receivers entries) answers worker.roster.slots.items
    → IsWorkerOf nodes start receivers mine entries answers worker
went_on nodes start receivers mine entries answers worker schema legal begun served state sound rules former classed contents roster = record {
  followed = record { schema = schema; legal = legal; begun = begun; served = served; state = state; sound = sound; rules = rules; former = former; classed = classed; contents = contents };
  stands = subst (λ (s : JournalState). IsRosterAt nodes s mine (moments_of nodes receivers entries) answers worker.roster.slots.items) (sym state) roster;
}

module _ (nodes : List SchemaNode) (start : ℕ) (receivers : List ReceiverInfo) (mine : List ℕ) (entries : List Entry) (answers : List Answer) where
  -- it does whether or not memory is said to have run out
  pub unspent : (worker : Worker) (spent : Bool) → IsWorkerOf nodes start receivers mine entries answers worker → IsWorkerOf nodes start receivers mine entries answers (record worker { spent = spent })
  unspent worker spent is =
      let f = is.followed in
      record {
        followed = record { schema = f.schema; legal = f.legal; begun = f.begun; served = f.served; state = f.state; sound = f.sound; rules = f.rules; former = f.former; classed = f.classed; contents = f.contents };
        stands = is.stands;
      }

  -- one that is idle, once its state has taken an entry
  pub taken : (worker : Worker) (entry : Entry) (changed : List ChangedRow) (after : JournalState) → IsIdleWorkerOf nodes start receivers mine entries answers worker → MayFollow nodes worker.state entry
      → after ≡ next_state nodes worker.state entry.command → IsStateOf nodes after → changed ≡ changed_rows worker.state.rows after.rows
      → IsTaking nodes start receivers mine entries answers entry changed (record worker { state = after; spent = true })
  taken worker entry changed after is follows left sound differ =
      let f = is.followed in
      record {
        schema = f.schema;
        legal = f.legal;
        follows = subst (λ (s : JournalState). MayFollow nodes s entry) f.state follows;
        begun = f.begun;
        served = f.served;
        before = subst (λ (s : JournalState). IsStateOf nodes s) f.state f.sound;
        state = left ∙ ap (λ (s : JournalState). next_state nodes s entry.command) f.state;
        sound = sound;
        rules = subst (λ (s : JournalState). AreRulesAt s worker.readers) f.state f.rules;
        former = subst (λ (s : JournalState). IsFormer s.rows worker.former) f.state f.former;
        classed = subst (λ (s : JournalState). IsClassed nodes s worker.roster) f.state f.classed;
        contents = subst (λ (s : JournalState). AreSelected nodes s worker.contents.items) f.state f.contents;
        differ = differ ∙ ap (λ (s : JournalState). changed_rows s.rows after.rows) f.state;
        idle = subst (λ (s : JournalState). IsIdleAt nodes s mine (moments_of nodes receivers entries) answers worker.roster.slots.items) f.state is.idle;
      }

-- each entry of a legal journal may follow those before it
pub may_follow_there : (nodes : List SchemaNode) (state : JournalState) (entries : List Entry) (entry : Entry) (more : List Entry) → IsLegal nodes state (entries ++ entry ∷ more) → MayFollow nodes (state_of nodes state entries) entry
may_follow_there nodes state [] entry more legal = legal.0
may_follow_there nodes state (one ∷ entries) entry more legal = may_follow_there nodes (next_state nodes state one.command) entries entry more legal.1
