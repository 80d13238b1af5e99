-- A run that goes on, outside of lanes and in them.
use Rattle.std.proofs.Common.{◌≡◌, ℕ, suc, ◌+◌, List, [], ◌∷◌, ◌++◌, length, map, append-nil, append_assoc, refl, sym, ap, subst, ◌∙◌, arith}
use Rattle.std.specs.List.{AllByRecursion}
use Rattle.std.proofs.lemmas.List.{length-map, map-append, nil_from_length}
use Rattle.yp_schema.specs.declared.schema.SchemaNode.{SchemaNode}
use Rattle.yp_journal.specs.declared.command.Command.{Command}
use Rattle.yp_journal.specs.declared.entry.Entry.{Entry}
use Rattle.yp_journal.specs.declared.receiver.ReceiverInfo.{ReceiverInfo}
use Rattle.yp_journal.specs.History.{JournalState, IsLegal, MayCome, MayFollow, first_state, next_state, state_of}
use Rattle.yp_attempt.specs.Runs.{Run}
use Rattle.yp_crews.specs.declared.crew.Crew.{Crew}
use Rattle.yp_crews.specs.Crews.{AreCrews, AreCrewsOn, AreReady}
use Rattle.yp_handover.specs.Handover.{AreCrewsBeside}
use Rattle.yp_report.specs.declared.replied.Replied.{Replied}
use Rattle.yp_report.specs.Replies.{replied_of}
use Rattle.yp_turns.specs.declared.turns.Turn.{Turn}
use Rattle.yp_turns.specs.Journal.{Interleaves, turn_of}
use Rattle.yp_turns.specs.Turns.{turns_of}
use Rattle.yp_concurrent.specs.declared.outside.Standing.{Standing}
use Rattle.yp_concurrent.specs.Running.{HasTaken, HasTakenLanes, IsAt}
use Rattle.yp_concurrent.proofs.Filling.{only_count, only_filled, went_count, went_filled}

-- what laws say of journals
abbrev pub OneMore : Type 0
OneMore = (nodes : List SchemaNode) (state : JournalState) (entries : List Entry) (entry : Entry) → state_of nodes state (entries ++ entry ∷ []) ≡ next_state nodes (state_of nodes state entries) entry.command

abbrev pub LegalMore : Type 0
LegalMore = (nodes : List SchemaNode) (state : JournalState) (entries : List Entry) (entry : Entry) → IsLegal nodes state entries → MayFollow nodes (state_of nodes state entries) entry → IsLegal nodes state (entries ++ entry ∷ [])

abbrev pub StateBoth : Type 0
StateBoth = (nodes : List SchemaNode) (state : JournalState) (entries more : List Entry) → state_of nodes state (entries ++ more) ≡ state_of nodes (state_of nodes state entries) more

abbrev pub LegalBoth : Type 0
LegalBoth = (nodes : List SchemaNode) (state : JournalState) (entries more : List Entry) → IsLegal nodes state entries → IsLegal nodes (state_of nodes state entries) more → IsLegal nodes state (entries ++ more)

abbrev pub Positions : Type 0
Positions = (nodes : List SchemaNode) (state : JournalState) (entries : List Entry) → (state_of nodes state entries).position ≡ state.position + length entries

abbrev pub ReceiversStay : Type 0
ReceiversStay = (nodes : List SchemaNode) (state : JournalState) (entries : List Entry) → (state_of nodes state entries).receivers ≡ state.receivers

-- there is a crew for each run
pub crews_count : (nodes : List SchemaNode) (start : ℕ) (receivers : List ReceiverInfo) (workers worker : ℕ) (entries : List Entry) (runs : List Run) (crews : List Crew) → AreCrews nodes start receivers workers worker entries runs crews
    → length crews ≡ length runs
crews_count nodes start receivers workers worker entries [] [] are = refl
crews_count nodes start receivers workers worker entries [] (crew ∷ crews) are = absurd are
crews_count nodes start receivers workers worker entries (run ∷ runs) [] are = absurd are
crews_count nodes start receivers workers worker entries (run ∷ runs) (crew ∷ crews) are = ap suc (crews_count nodes start receivers workers (worker + 1) entries runs crews are.1)

module _ (nodes : List SchemaNode) (start : ℕ) (receivers : List ReceiverInfo) (workers : ℕ) where
  -- ---- where it stands

  pub replies_count : (entries : List Entry) (standing : Standing) → IsAt nodes start receivers workers entries standing → length standing.replies.items ≡ length entries
  replies_count entries standing is = ap (λ (those : List Replied). length those) is.replies ∙ length-map entries replied_of

  pub position_is : Positions → (entries : List Entry) (standing : Standing) → IsAt nodes start receivers workers entries standing → standing.state.position ≡ length standing.replies.items
  position_is positions entries standing is =
      let there : standing.state.position ≡ (state_of nodes (first_state receivers) entries).position = ap (λ (s : JournalState). s.position) is.state in
      let count : (state_of nodes (first_state receivers) entries).position ≡ 0 + length entries = positions nodes (first_state receivers) entries in
      let replies = replies_count entries standing is in
      omega (arith, there, count, replies)

  pub receivers_are : ReceiversStay → (entries : List Entry) (standing : Standing) → IsAt nodes start receivers workers entries standing → standing.state.receivers ≡ receivers
  receivers_are stay entries standing is = ap (λ (s : JournalState). s.receivers) is.state ∙ stay nodes (first_state receivers) entries

  pub may_come : ReceiversStay → (entries : List Entry) (standing : Standing) → IsAt nodes start receivers workers entries standing → (command : Command) → MayCome nodes receivers command → MayCome nodes standing.state.receivers command
  may_come stay entries standing is command may = subst (λ (those : List ReceiverInfo). MayCome nodes those command) (sym (receivers_are stay entries standing is)) may

  pub all_may_come : ReceiversStay → (entries : List Entry) (standing : Standing) → IsAt nodes start receivers workers entries standing → (lanes : List (List Command)) → AllByRecursion (AllByRecursion (MayCome nodes receivers)) lanes
      → AllByRecursion (AllByRecursion (MayCome nodes standing.state.receivers)) lanes
  all_may_come stay entries standing is lanes may = subst (λ (those : List ReceiverInfo). AllByRecursion (AllByRecursion (MayCome nodes those)) lanes) (sym (receivers_are stay entries standing is)) may

  pub is_ready : (entries : List Entry) (standing : Standing) → IsAt nodes start receivers workers entries standing → AreReady nodes standing.state standing.crews.items
  is_ready entries standing is = record { start = start; receivers = receivers; workers = workers; worker = 0; entries = entries; runs = is.runs; leaves = is.state; are = is.crews }

  pub workers_are : (entries : List Entry) (standing : Standing) → IsAt nodes start receivers workers entries standing → length standing.crews.items ≡ workers
  workers_are entries standing is = crews_count nodes start receivers workers 0 entries is.runs standing.crews.items is.crews ∙ is.count

  -- ---- outside of lanes

  pub one_taken : OneMore → LegalMore → (entries : List Entry) (before after : Standing) (entry : Entry) (index : ℕ) (command : Command) → (at : IsAt nodes start receivers workers entries before)
      → entry.lane ≡ 0 → entry.index ≡ index → entry.command ≡ command → MayFollow nodes before.state entry → after.state ≡ next_state nodes before.state command
      → AreCrewsOn nodes start receivers workers 0 (entries ++ entry ∷ []) at.runs after.crews.items → after.replies.items ≡ before.replies.items ++ replied_of entry ∷ []
      → HasTaken nodes start receivers workers entries (turns_of 0 index (command ∷ [])) after
  one_taken one_more legal_more entries before after entry index command at lane number its follows state on replies = record {
    more = entry ∷ [];
    turns = λ i. record { lane = lane i; index = number i; command = its i } ∷ [];
    is = record {
      legal = legal_more nodes (first_state receivers) entries entry at.legal (subst (λ (s : JournalState). MayFollow nodes s entry) at.state follows);
      state = state ∙ ((λ i. next_state nodes (at.state i) (sym its i)) ∙ sym (one_more nodes (first_state receivers) entries entry));
      replies = replies ∙ (ap (λ (those : List Replied). those ++ replied_of entry ∷ []) at.replies ∙ sym (map-append replied_of entries (entry ∷ [])));
      runs = on.runs;
      count = only_count at.runs on.runs on.only ∙ at.count;
      crews = on.are;
      filled = only_filled receivers workers 0 at.runs on.runs on.only at.filled;
    };
  }

  pub nothing_taken : (entries : List Entry) (standing : Standing) → IsAt nodes start receivers workers entries standing → HasTaken nodes start receivers workers entries [] standing
  nothing_taken entries standing is = record { more = []; turns = refl; is = subst (λ (those : List Entry). IsAt nodes start receivers workers those standing) (sym (append-nil entries)) is }

  pub taken_both : (entries : List Entry) (done next : List Turn) (before after : Standing) → HasTaken nodes start receivers workers entries done before
      → ((entries : List Entry) → IsAt nodes start receivers workers entries before → HasTaken nodes start receivers workers entries next after) → HasTaken nodes start receivers workers entries (done ++ next) after
  taken_both entries done next before after have on =
      let then : HasTaken nodes start receivers workers (entries ++ have.more) next after = on (entries ++ have.more) have.is in
      record {
        more = have.more ++ then.more;
        turns = map-append turn_of have.more then.more ∙ (λ i. have.turns i ++ then.turns i);
        is = subst (λ (those : List Entry). IsAt nodes start receivers workers those after) (append_assoc entries have.more then.more) then.is;
      }

  -- ---- in lanes

  pub beside_taken : StateBoth → LegalBoth → (entries more : List Entry) (lanes : List (List Command)) (before after : Standing) → (at : IsAt nodes start receivers workers entries before) → IsLegal nodes before.state more
      → after.state ≡ state_of nodes before.state more → Interleaves lanes (map turn_of more) → AreCrewsBeside nodes start receivers workers 0 (entries ++ more) at.runs after.crews.items
      → after.replies.items ≡ before.replies.items ++ map replied_of more → HasTakenLanes nodes start receivers workers entries lanes after
  beside_taken state_both legal_both entries more lanes before after at legal state lane beside replies = record {
    middle = map turn_of more;
    interleaves = lane;
    taken = record {
      more = more;
      turns = refl;
      is = record {
        legal = legal_both nodes (first_state receivers) entries more at.legal (subst (λ (s : JournalState). IsLegal nodes s more) at.state legal);
        state = state ∙ (ap (λ (s : JournalState). state_of nodes s more) at.state ∙ sym (state_both nodes (first_state receivers) entries more));
        replies = replies ∙ (ap (λ (those : List Replied). those ++ map replied_of more) at.replies ∙ sym (map-append replied_of entries more));
        runs = beside.runs;
        count = went_count receivers workers 0 at.runs beside.runs beside.went ∙ at.count;
        crews = beside.are;
        filled = went_filled receivers workers 0 at.runs beside.runs beside.went at.filled;
      };
    };
  }

  -- where there are none
  no_lanes : Interleaves [] []
  no_lanes = record { each = λ place commands there. absurd cc; others = tt }

  pub none_taken : (entries : List Entry) (lanes : List (List Command)) (standing : Standing) → length lanes ≡ 0 → IsAt nodes start receivers workers entries standing → HasTakenLanes nodes start receivers workers entries lanes standing
  none_taken entries lanes standing none is =
      subst (λ (those : List (List Command)). HasTakenLanes nodes start receivers workers entries those standing) (sym (nil_from_length lanes none))
      (record { middle = []; interleaves = no_lanes; taken = nothing_taken entries standing is })
