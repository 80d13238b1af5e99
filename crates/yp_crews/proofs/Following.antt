-- Workers that follow an entry one after another: of which the first ones have, and the others not yet.
use Rattle.std.proofs.Common.{◌≡◌, ℕ, zero, suc, ◌+◌, ◌<◌, ◌≤◌, List, [], ◌∷◌, ◌++◌, length, take, get_or, slice_set, sym, ap, subst, ◌∙◌, arith}
use Rattle.std.proofs.Math.Seq.{take-append_seam}
use Rattle.yp_schema.specs.declared.schema.SchemaNode.{SchemaNode}
use Rattle.yp_journal.specs.declared.entry.Entry.{Entry}
use Rattle.yp_journal.specs.declared.receiver.ReceiverInfo.{ReceiverInfo}
use Rattle.yp_journal.specs.History.{JournalState, MayFollow, first_state, next_state, state_of}
use Rattle.yp_attempt.specs.Runs.{Run}
use Rattle.yp_attempt.specs.Workers.{numbers_of}
use Rattle.yp_listeners.specs.Listeners.{IsReady}
use Rattle.yp_crews.specs.declared.crew.Crew.{Crew}
use Rattle.yp_crews.specs.Crews.{AreCrews, AreCrewsOn, AreReady, IsCrewOf, IsCrewOn}

-- ---- those that have followed an entry

-- a worker has served entries, for some of these receivers and by some run
pub record IsSomeCrew (nodes : List SchemaNode) (start : ℕ) (receivers : List ReceiverInfo) (entries : List Entry) (crew : Crew) : Type 0 where
  pub mine : List ℕ
  pub run : Run
  pub is : IsCrewOf nodes start receivers mine entries run crew

-- so many workers have followed an entry, and the others not yet
abbrev pub HaveFollowed : List SchemaNode → Entry → ℕ → List ReceiverInfo → ℕ → List Entry → ℕ → ℕ → List Run → List Crew → Type 0
HaveFollowed nodes entry start receivers workers entries worker zero runs crews = AreCrews nodes start receivers workers worker entries runs crews
HaveFollowed nodes entry start receivers workers entries worker (suc place) [] [] = Unit {0}
HaveFollowed nodes entry start receivers workers entries worker (suc place) [] (crew ∷ crews) = ⊥
HaveFollowed nodes entry start receivers workers entries worker (suc place) (run ∷ runs) [] = ⊥
HaveFollowed nodes entry start receivers workers entries worker (suc place) (run ∷ runs) (crew ∷ crews) =
    IsCrewOn nodes start receivers (numbers_of worker workers (length receivers)) (entries ++ entry ∷ []) run crew × HaveFollowed nodes entry start receivers workers entries (worker + 1) place runs crews

module _ (nodes : List SchemaNode) (entry : Entry) (start : ℕ) (receivers : List ReceiverInfo) (workers : ℕ) (entries : List Entry) where
  -- the next worker has served the entries before
  pub next_one : (worker place : ℕ) (runs : List Run) (crews : List Crew) (d : Crew) → place < length crews → HaveFollowed nodes entry start receivers workers entries worker place runs crews
      → IsSomeCrew nodes start receivers entries (get_or crews place d)
  next_one worker place runs [] d below have = absurd (omega (arith, below))
  next_one worker zero [] (crew ∷ crews) d below have = absurd have
  next_one worker zero (run ∷ runs) (crew ∷ crews) d below have = record { mine = numbers_of worker workers (length receivers); run = run; is = have.0 }
  next_one worker (suc place) [] (crew ∷ crews) d below have = absurd have
  next_one worker (suc place) (run ∷ runs) (crew ∷ crews) d below have = next_one (worker + 1) place runs crews d (omega (arith, below)) have.1

  -- once it has followed the entry, one more has
  pub one_more : (worker place : ℕ) (runs : List Run) (crews : List Crew) (d after : Crew) → place < length crews
      → ((mine : List ℕ) (run : Run) → IsCrewOf nodes start receivers mine entries run (get_or crews place d) → IsCrewOn nodes start receivers mine (entries ++ entry ∷ []) run after)
      → HaveFollowed nodes entry start receivers workers entries worker place runs crews → HaveFollowed nodes entry start receivers workers entries worker (suc place) runs (slice_set crews place after)
  one_more worker place runs [] d after below follows have = absurd (omega (arith, below))
  one_more worker zero [] (crew ∷ crews) d after below follows have = absurd have
  one_more worker zero (run ∷ runs) (crew ∷ crews) d after below follows have = (follows (numbers_of worker workers (length receivers)) run have.0, have.1)
  one_more worker (suc place) [] (crew ∷ crews) d after below follows have = absurd have
  one_more worker (suc place) (run ∷ runs) (crew ∷ crews) d after below follows have = (have.0, one_more (worker + 1) place runs crews d after (omega (arith, below)) follows have.1)

  -- at the end all have
  pub all_followed : (worker place : ℕ) (runs : List Run) (crews : List Crew) → length crews ≤ place → HaveFollowed nodes entry start receivers workers entries worker place runs crews
      → AreCrewsOn nodes start receivers workers worker (entries ++ entry ∷ []) runs crews
  all_followed worker zero [] [] all have = record { runs = []; only = tt; are = tt }
  all_followed worker zero [] (crew ∷ crews) all have = absurd have
  all_followed worker zero (run ∷ runs) [] all have = absurd have
  all_followed worker zero (run ∷ runs) (crew ∷ crews) all have = absurd (omega (arith, all))
  all_followed worker (suc place) [] [] all have = record { runs = []; only = tt; are = tt }
  all_followed worker (suc place) [] (crew ∷ crews) all have = absurd have
  all_followed worker (suc place) (run ∷ runs) [] all have = absurd have
  all_followed worker (suc place) (run ∷ runs) (crew ∷ crews) all have =
      let rest : AreCrewsOn nodes start receivers workers (worker + 1) (entries ++ entry ∷ []) runs crews = all_followed (worker + 1) place runs crews (omega (arith, all)) have.1 in
      record { runs = have.0.run ∷ rest.runs; only = (have.0.only, rest.only); are = (have.0.is, rest.are) }

-- ---- where the journal has a state

-- a worker can follow an entry, where a position is below a limit
pub record CanFollow (nodes : List SchemaNode) (entry : Entry) (limit : ℕ) (crew : Crew) : Type 0 where
  pub entry_follows : MayFollow nodes crew.worker.state entry
  pub position : crew.worker.state.position < limit
  pub ready : IsReady nodes crew.worker crew.listeners.items

-- the next of workers that are ready can
pub next_can : (nodes : List SchemaNode) (entry : Entry) (limit : ℕ) (state : JournalState) (first : List Crew) (ready : AreReady nodes state first) → MayFollow nodes state entry → state.position < limit
    → (place : ℕ) (crews : List Crew) (d : Crew) → place < length crews → HaveFollowed nodes entry ready.start ready.receivers ready.workers ready.entries ready.worker place ready.runs crews
    → CanFollow nodes entry limit (get_or crews place d)
next_can nodes entry limit state first ready follows small place crews d below have =
    let one : IsSomeCrew nodes ready.start ready.receivers ready.entries (get_or crews place d) =
    next_one nodes entry ready.start ready.receivers ready.workers ready.entries ready.worker place ready.runs crews d below have in
    let same : state ≡ (get_or crews place d).worker.state = ready.leaves ∙ sym one.is.served.idle.followed.state in
    record {
      entry_follows = subst (λ (s : JournalState). MayFollow nodes s entry) same follows;
      position = subst (λ (s : JournalState). s.position < limit) same small;
      ready = record { start = ready.start; receivers = ready.receivers; mine = one.mine; entries = ready.entries; run = one.run; served = one.is.served };
    }

-- an entry more leaves the next state
abbrev pub OneMore : Type 0
OneMore = (nodes : List SchemaNode) (state : JournalState) (entries : List Entry) (entry : Entry) → state_of nodes state (entries ++ entry ∷ []) ≡ next_state nodes (state_of nodes state entries) entry.command

-- workers that were ready and have followed an entry are ready for the next
pub still_ready : OneMore → (nodes : List SchemaNode) (entry : Entry) (state : JournalState) (first crews : List Crew) (ready : AreReady nodes state first)
    → AreCrewsOn nodes ready.start ready.receivers ready.workers ready.worker (ready.entries ++ entry ∷ []) ready.runs crews → AreReady nodes (next_state nodes state entry.command) crews
still_ready one_more nodes entry state first crews ready on =
    record {
      start = ready.start;
      receivers = ready.receivers;
      workers = ready.workers;
      worker = ready.worker;
      entries = ready.entries ++ entry ∷ [];
      runs = on.runs;
      leaves = ap (λ (s : JournalState). next_state nodes s entry.command) ready.leaves ∙ sym (one_more nodes (first_state ready.receivers) ready.entries entry);
      are = on.are;
    }

-- ---- the list

-- what stands in a vector after all of its places were written
pub all_written : (len : ℕ) (written rest : List Crew) → length written ≡ len → take len (written ++ rest) ≡ written
all_written len written rest same = ap (λ (n : ℕ). take n (written ++ rest)) (sym same) ∙ take-append_seam written rest
