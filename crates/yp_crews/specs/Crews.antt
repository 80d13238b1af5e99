-- Workers that follow a journal outside of its lanes, each with the receivers that it serves (RFC 8639 sections 2.4 and 2.7, RFC 8641 section 3.1).
use Rattle.std.specs.Prelude.{◌≡◌, ℕ, ◌+◌, List, [], ◌∷◌, length}
use Rattle.yp_schema.specs.declared.schema.SchemaNode.{SchemaNode}
use Rattle.yp_journal.specs.declared.entry.Entry.{Entry}
use Rattle.yp_journal.specs.declared.receiver.ReceiverInfo.{ReceiverInfo}
use Rattle.yp_journal.specs.History.{JournalState, first_state, state_of}
use Rattle.yp_attempt.specs.Runs.{Run}
use Rattle.yp_attempt.specs.Workers.{numbers_of}
use Rattle.yp_listeners.specs.Listeners.{IsServed, OnlyTook, numbers_in}
use Rattle.yp_crews.specs.declared.crew.Crew.{Crew}

-- ---- one worker

-- a worker for these receivers has served them over entries by a run: it has nothing to offer, and just one listener for each
pub record IsCrewOf (nodes : List SchemaNode) (start : ℕ) (receivers : List ReceiverInfo) (mine : List ℕ) (entries : List Entry) (run : Run) (crew : Crew) : Type 0 where
  pub served : IsServed nodes start receivers mine entries run crew.worker crew.listeners.items
  pub each : numbers_in crew.listeners.items ≡ mine

-- so it has by a run that went on from another by attempts that were all accepted
pub record IsCrewOn (nodes : List SchemaNode) (start : ℕ) (receivers : List ReceiverInfo) (mine : List ℕ) (entries : List Entry) (before : Run) (crew : Crew) : Type 0 where
  pub run : Run
  pub only : OnlyTook before run
  pub is : IsCrewOf nodes start receivers mine entries run crew

-- ---- several workers

-- so have several workers, of this number altogether, the first of which has this number
abbrev pub AreCrews : List SchemaNode → ℕ → List ReceiverInfo → ℕ → ℕ → List Entry → List Run → List Crew → Type 0
AreCrews nodes start receivers workers worker entries [] [] = Unit {0}
AreCrews nodes start receivers workers worker entries [] (crew ∷ crews) = ⊥
AreCrews nodes start receivers workers worker entries (run ∷ runs) [] = ⊥
AreCrews nodes start receivers workers worker entries (run ∷ runs) (crew ∷ crews) =
    IsCrewOf nodes start receivers (numbers_of worker workers (length receivers)) entries run crew × AreCrews nodes start receivers workers (worker + 1) entries runs crews

-- each run went on from another by attempts that were all accepted
abbrev pub OnlyTookEach : List Run → List Run → Type 0
OnlyTookEach [] [] = Unit {0}
OnlyTookEach [] (after ∷ afters) = ⊥
OnlyTookEach (before ∷ befores) [] = ⊥
OnlyTookEach (before ∷ befores) (after ∷ afters) = OnlyTook before after × OnlyTookEach befores afters

-- the workers have served these entries by runs that went on from others by attempts that were all accepted
pub record AreCrewsOn (nodes : List SchemaNode) (start : ℕ) (receivers : List ReceiverInfo) (workers worker : ℕ) (entries : List Entry) (before : List Run) (crews : List Crew) : Type 0 where
  pub runs : List Run
  pub only : OnlyTookEach before runs
  pub are : AreCrews nodes start receivers workers worker entries runs crews

-- ---- whatever the entries

-- workers are ready for the next entry where the journal has this state: they have served some entries that leave it
pub record AreReady (nodes : List SchemaNode) (state : JournalState) (crews : List Crew) : Type 0 where
  pub start : ℕ
  pub receivers : List ReceiverInfo
  pub workers : ℕ
  pub worker : ℕ
  pub entries : List Entry
  pub runs : List Run
  pub leaves : state ≡ state_of nodes (first_state receivers) entries
  pub are : AreCrews nodes start receivers workers worker entries runs crews
