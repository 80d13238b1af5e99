-- Crews that go on by threads.
use Rattle.std.proofs.Common.{◌≡◌, ℕ, ◌+◌, true, List, [], ◌∷◌, ◌++◌, length, append-nil, refl, sym, ap, subst, ◌∙◌}
use Rattle.std.specs.List.{AllByRecursion}
use Rattle.yp_schema.specs.declared.schema.SchemaNode.{SchemaNode}
use Rattle.yp_journal.specs.declared.entry.Entry.{Entry}
use Rattle.yp_journal.specs.declared.receiver.ReceiverInfo.{ReceiverInfo}
use Rattle.yp_journal.specs.History.{IsLegal, JournalState, first_state, state_of}
use Rattle.yp_attempt.specs.Attempts.{answers_in}
use Rattle.yp_attempt.specs.Runs.{Reaches, Run}
use Rattle.yp_attempt.specs.Workers.{numbers_of}
use Rattle.yp_moment.specs.Entries.{moments_of}
use Rattle.yp_moment.specs.Windows.{recorded}
use Rattle.yp_worker.specs.declared.worker.Worker.{Worker}
use Rattle.yp_worker.specs.Workers.{IsIdleWorkerOf}
use Rattle.yp_crews.specs.declared.crew.Crew.{Crew}
use Rattle.yp_crews.specs.Crews.{AreCrews, AreReady, IsCrewOf}
use Rattle.yp_published.specs.Histories.{Begins, Known}
use Rattle.yp_published.specs.Reads.{Reading}
use Rattle.yp_followers.specs.declared.outbox.Outbox.{Outbox}
use Rattle.yp_followers.specs.Followers.{IsOutboxOf, IsUpToDate}
use Rattle.yp_handover.specs.declared.closing.Followed.{Followed}
use Rattle.yp_handover.specs.declared.group.Group.{Group}
use Rattle.yp_handover.specs.Handover.{AreBack, AreCrewsBeside, AreHandedBack, AreJobsOf, Follower, GoesOnByThreads, HasServedOn, HaveTaken, IsFollowedBy, IsHandedBack, IsMadeOf, IsOfOneQueue, IsReadyToFollow, IsTakenOut, Pairs, Triples}
use Rattle.yp_handover.proofs.Sides.{AreSidesAfter, FillsIts, ListensOn, all_after, all_begin, all_fill, all_have, all_listen, all_of_one, numbers_stay}

-- ---- before threads

module _ (nodes : List SchemaNode) (start : ℕ) (receivers others : List ReceiverInfo) (workers : ℕ) (before : List Entry) where
  -- the job of a worker is up to date with what came before the threads
  begins_up : (mine : List ℕ) (run : Run) (crew : Crew) (follower : Follower) (group : Group) → AreJobsOf others workers crew follower group → IsCrewOf nodes start receivers mine before run crew
      → IsUpToDate nodes start receivers mine before follower.reader.got.entries run.done follower.worker follower.boxes
  begins_up mine run crew follower group jobs is =
      let none : follower.reader.got.entries ≡ [] = ap (λ (reader : Reading). reader.got.entries) jobs.reader in
      let same : before ≡ before ++ [] = sym (append-nil before) in
      let up : IsUpToDate nodes start receivers mine before [] run.done crew.worker follower.boxes =
      record {
        run = run;
        since = [];
        done = sym (append-nil run.done);
        idle = subst (λ (entries : List Entry). IsIdleWorkerOf nodes start receivers mine entries (answers_in run.done) crew.worker) same is.served.idle;
        reaches = subst (λ (entries : List Entry). Reaches recorded mine (moments_of nodes receivers entries) (answers_in run.done) run) same is.served.reaches;
        outboxes = all_begin nodes start others workers run.done crew.listeners.items follower.boxes group.takers.items jobs.sides is.served.each;
      } in
      subst (λ (worker : Worker). IsUpToDate nodes start receivers mine before follower.reader.got.entries run.done worker follower.boxes) (sym jobs.worker)
      (subst (λ (entries : List Entry). IsUpToDate nodes start receivers mine before entries run.done crew.worker follower.boxes) (sym none) up)

  module _ (state : JournalState) (dealt : ℕ) (is : state ≡ state_of nodes (first_state receivers) before) where
    each_ready : (worker : ℕ) (runs : List Run) (crews : List Crew) (followers : List Follower) (groups : List Group) → AreCrews nodes start receivers dealt worker before runs crews → Triples (AreJobsOf others workers) crews followers groups
        → AllByRecursion (IsReadyToFollow nodes state) followers
    each_ready worker runs [] [] [] are jobs = tt
    each_ready worker runs [] [] (group ∷ groups) are jobs = absurd jobs
    each_ready worker runs [] (follower ∷ followers) groups are jobs = absurd jobs
    each_ready worker runs (crew ∷ crews) [] groups are jobs = absurd jobs
    each_ready worker runs (crew ∷ crews) (follower ∷ followers) [] are jobs = absurd jobs
    each_ready worker [] (crew ∷ crews) (follower ∷ followers) (group ∷ groups) are jobs = absurd are
    each_ready worker (run ∷ runs) (crew ∷ crews) (follower ∷ followers) (group ∷ groups) are jobs = (
      record {
        start = start;
        receivers = receivers;
        mine = numbers_of worker dealt (length receivers);
        before = before;
        opened = run.done;
        legal = are.0.served.idle.followed.legal;
        begun = is;
        ready = begins_up (numbers_of worker dealt (length receivers)) run crew follower group jobs.0 are.0;
      },
      each_ready (worker + 1) runs crews followers groups are.1 jobs.1,
    )

pub all_ready : (nodes : List SchemaNode) (state : JournalState) (receivers : List ReceiverInfo) (workers : ℕ) (crews : List Crew) (followers : List Follower) (groups : List Group) → AreReady nodes state crews
    → Triples (AreJobsOf receivers workers) crews followers groups → AllByRecursion (IsReadyToFollow nodes state) followers
all_ready nodes state receivers workers crews followers groups ready jobs =
    each_ready nodes ready.start ready.receivers receivers workers ready.entries state ready.workers ready.leaves ready.worker ready.runs crews followers groups ready.are jobs

-- ---- after them

module _ (nodes : List SchemaNode) (opening : JournalState) (receivers : List ReceiverInfo) (workers : ℕ) (fresh : List Entry) where
  -- the sides of the queues of a crew
  sides_after : (crew : Crew) (followed : Followed) (group : Group) → (h : IsHandedBack nodes opening receivers workers fresh crew followed group)
      → Triples (AreSidesAfter nodes receivers workers) crew.listeners.items followed.outboxes.items group.takers.items
  sides_after crew followed group h =
      subst (λ (boxes : List Outbox). Triples (AreSidesAfter nodes receivers workers) crew.listeners.items boxes group.takers.items) (sym h.out.boxes)
      (all_after nodes receivers workers crew.listeners.items h.first.boxes h.last.boxes h.begun.takers.items group.takers.items h.jobs.sides h.follows.same h.took.on h.took.whole)

  of_one_queue : (crew : Crew) (followed : Followed) (group : Group) → IsHandedBack nodes opening receivers workers fresh crew followed group → Pairs IsOfOneQueue followed.outboxes.items group.takers.items
  of_one_queue crew followed group h = all_of_one nodes receivers workers crew.listeners.items followed.outboxes.items group.takers.items (sides_after crew followed group h)

  goes_on : (crew after : Crew) (followed : Followed) (group : Group) → IsHandedBack nodes opening receivers workers fresh crew followed group → IsMadeOf nodes followed group after → GoesOnByThreads nodes opening receivers fresh crew after
  goes_on crew after followed group h made start mine before run legal begun is =
      let up : IsUpToDate nodes start receivers mine before h.last.reader.got.entries run.done h.last.worker h.last.boxes =
      h.follows.followed h.out.whole start receivers mine before run.done legal begun (begins_up nodes start receivers receivers workers before mine run crew h.first h.begun h.jobs is) in
      let all : h.last.reader.got.entries ≡ fresh = sym (ap (λ (reader : Reading). reader.got.entries) h.out.same) ∙ h.got in
      let worker : h.last.worker ≡ after.worker = sym h.out.worker ∙ sym made.worker in
      let now : IsUpToDate nodes start receivers mine before fresh run.done after.worker h.last.boxes =
      subst (λ (w : Worker). IsUpToDate nodes start receivers mine before fresh run.done w h.last.boxes) worker
      (subst (λ (entries : List Entry). IsUpToDate nodes start receivers mine before entries run.done h.last.worker h.last.boxes) all up) in
      let boxes : AllByRecursion (IsOutboxOf nodes start run.done now.since) followed.outboxes.items = subst (λ (those : List Outbox). AllByRecursion (IsOutboxOf nodes start run.done now.since) those) (sym h.out.boxes) now.outboxes in
      let on : Triples (ListensOn nodes receivers workers) crew.listeners.items followed.outboxes.items after.listeners.items =
      all_listen nodes receivers workers crew.listeners.items followed.outboxes.items group.takers.items after.listeners.items (sides_after crew followed group h) made.listeners in
      record {
        run = now.run;
        went = record {
          since = now.since;
          done = now.done;
          fulls =
              subst (λ (numbers : List ℕ). AllByRecursion (FillsIts nodes receivers workers start run.done now.since now.run.done now.done) numbers) is.each
              (all_fill nodes receivers workers start run.done now.since now.run.done now.done crew.listeners.items followed.outboxes.items after.listeners.items on boxes);
        };
        is = record {
          served = record {
            idle = now.idle;
            reaches = now.reaches;
            each = all_have nodes receivers workers start run.done now.since now.run.done now.done crew.listeners.items followed.outboxes.items after.listeners.items on is.served.each boxes;
          };
          each = numbers_stay nodes receivers workers crew.listeners.items followed.outboxes.items after.listeners.items on ∙ is.each;
        };
      }

  pub all_of_one_queue : (crews : List Crew) (followed : List Followed) (groups : List Group) → AreHandedBack nodes opening receivers workers fresh crews followed groups
      → Pairs (λ (one : Followed) (group : Group). Pairs IsOfOneQueue one.outboxes.items group.takers.items) followed groups
  all_of_one_queue [] [] [] h = tt
  all_of_one_queue [] [] (group ∷ groups) h = absurd h
  all_of_one_queue [] (one ∷ followed) groups h = absurd h
  all_of_one_queue (crew ∷ crews) [] groups h = absurd h
  all_of_one_queue (crew ∷ crews) (one ∷ followed) [] h = absurd h
  all_of_one_queue (crew ∷ crews) (one ∷ followed) (group ∷ groups) h = (of_one_queue crew one group h.0, all_of_one_queue crews followed groups h.1)

  pub all_go_on : (crews afters : List Crew) (followed : List Followed) (groups : List Group) → AreHandedBack nodes opening receivers workers fresh crews followed groups → Triples (IsMadeOf nodes) followed groups afters
      → Pairs (GoesOnByThreads nodes opening receivers fresh) crews afters
  all_go_on [] [] [] [] h made = tt
  all_go_on [] (after ∷ afters) [] [] h made = absurd made
  all_go_on [] afters [] (group ∷ groups) h made = absurd h
  all_go_on [] afters (one ∷ followed) groups h made = absurd h
  all_go_on (crew ∷ crews) afters [] groups h made = absurd h
  all_go_on (crew ∷ crews) afters (one ∷ followed) [] h made = absurd h
  all_go_on (crew ∷ crews) [] (one ∷ followed) (group ∷ groups) h made = absurd made
  all_go_on (crew ∷ crews) (after ∷ afters) (one ∷ followed) (group ∷ groups) h made = (goes_on crew after one group h.0 made.0, all_go_on crews afters followed groups h.1 made.1)

-- ---- what comes back

module _ (nodes : List SchemaNode) (opening : JournalState) (receivers : List ReceiverInfo) (workers : ℕ) (known : Known) where
  one_back : (crew : Crew) (first last : Follower) (begun group : Group) (reader : Reading) (followed : Followed) → AreJobsOf receivers workers crew first begun → IsFollowedBy nodes opening first last → HaveTaken nodes begun group
      → IsTakenOut last reader followed → Begins reader.got known → IsHandedBack nodes opening receivers workers known.entries crew followed group
  one_back crew first last begun group reader followed jobs follows took out begins =
      let ended : reader.got.ended ≡ true = ap (λ (r : Reading). r.got.ended) out.same ∙ follows.ended out.whole in
      record { first = first; begun = begun; jobs = jobs; last = last; follows = follows; took = took; reader = reader; out = out; got = ap (λ (k : Known). k.entries) (begins.whole ended) }

  back : (crews : List Crew) (firsts lasts : List Follower) (begun groups : List Group) (readers : List Reading) (followed : List Followed) → Triples (AreJobsOf receivers workers) crews firsts begun → Pairs (IsFollowedBy nodes opening) firsts lasts
      → Pairs (HaveTaken nodes) begun groups → Triples IsTakenOut lasts readers followed → AllByRecursion (λ (reader : Reading). Begins reader.got known) readers → AreHandedBack nodes opening receivers workers known.entries crews followed groups
  back [] [] [] [] [] [] [] jobs follows took out begin = tt
  back [] [] [] [] [] [] (one ∷ followed) jobs follows took out begin = absurd out
  back [] [] [] [] [] (reader ∷ readers) followed jobs follows took out begin = absurd out
  back [] [] [] [] (group ∷ groups) readers followed jobs follows took out begin = absurd took
  back [] [] [] (group ∷ begun) groups readers followed jobs follows took out begin = absurd jobs
  back [] [] (last ∷ lasts) begun groups readers followed jobs follows took out begin = absurd follows
  back [] (first ∷ firsts) lasts begun groups readers followed jobs follows took out begin = absurd jobs
  back (crew ∷ crews) [] lasts begun groups readers followed jobs follows took out begin = absurd jobs
  back (crew ∷ crews) (first ∷ firsts) [] begun groups readers followed jobs follows took out begin = absurd follows
  back (crew ∷ crews) (first ∷ firsts) (last ∷ lasts) [] groups readers followed jobs follows took out begin = absurd jobs
  back (crew ∷ crews) (first ∷ firsts) (last ∷ lasts) (one ∷ begun) [] readers followed jobs follows took out begin = absurd took
  back (crew ∷ crews) (first ∷ firsts) (last ∷ lasts) (one ∷ begun) (group ∷ groups) [] followed jobs follows took out begin = absurd out
  back (crew ∷ crews) (first ∷ firsts) (last ∷ lasts) (one ∷ begun) (group ∷ groups) (reader ∷ readers) [] jobs follows took out begin = absurd out
  back (crew ∷ crews) (first ∷ firsts) (last ∷ lasts) (one ∷ begun) (group ∷ groups) (reader ∷ readers) (worker ∷ followed) jobs follows took out begin = (
    one_back crew first last one group reader worker jobs.0 follows.0 took.0 out.0 begin.0,
    back crews firsts lasts begun groups readers followed jobs.1 follows.1 took.1 out.1 begin.1,
  )

pub all_back : (nodes : List SchemaNode) (opening : JournalState) (receivers : List ReceiverInfo) (workers : ℕ) (known : Known) (crews : List Crew) (readers : List Reading) (followed : List Followed) (groups : List Group)
    → AreBack nodes opening receivers workers crews readers followed groups → AllByRecursion (λ (reader : Reading). Begins reader.got known) readers → AreHandedBack nodes opening receivers workers known.entries crews followed groups
all_back nodes opening receivers workers known crews readers followed groups b begin = back nodes opening receivers workers known crews b.firsts b.lasts b.begun groups readers followed b.jobs b.follows b.took b.out begin

-- ---- crews together

module _ (nodes : List SchemaNode) (opening : JournalState) (start : ℕ) (receivers : List ReceiverInfo) (workers : ℕ) (before fresh : List Entry) (legal : IsLegal nodes (first_state receivers) before) (begun : opening ≡ state_of nodes (first_state receivers) before) where
  together : (worker : ℕ) (runs : List Run) (crews afters : List Crew) → AreCrews nodes start receivers workers worker before runs crews → Pairs (GoesOnByThreads nodes opening receivers fresh) crews afters
      → AreCrewsBeside nodes start receivers workers worker (before ++ fresh) runs afters
  together worker [] [] [] are go = record { runs = []; went = tt; are = tt }
  together worker runs [] (after ∷ afters) are go = absurd go
  together worker runs (crew ∷ crews) [] are go = absurd go
  together worker [] (crew ∷ crews) (after ∷ afters) are go = absurd are
  together worker (run ∷ runs) [] [] are go = absurd are
  together worker (run ∷ runs) (crew ∷ crews) (after ∷ afters) are go =
      let mine : List ℕ = numbers_of worker workers (length receivers) in
      let one : HasServedOn nodes start receivers mine (before ++ fresh) run after = go.0 start mine before run legal begun are.0 in
      let rest : AreCrewsBeside nodes start receivers workers (worker + 1) (before ++ fresh) runs afters = together (worker + 1) runs crews afters are.1 go.1 in
      record { runs = one.run ∷ rest.runs; went = (one.went, rest.went); are = (one.is, rest.are) }

pub crews_go_on : (nodes : List SchemaNode) (opening : JournalState) (start : ℕ) (receivers : List ReceiverInfo) (workers worker : ℕ) (before fresh : List Entry) (runs : List Run) (crews afters : List Crew) → IsLegal nodes (first_state receivers) before
    → opening ≡ state_of nodes (first_state receivers) before → AreCrews nodes start receivers workers worker before runs crews → Pairs (GoesOnByThreads nodes opening receivers fresh) crews afters
    → AreCrewsBeside nodes start receivers workers worker (before ++ fresh) runs afters
crews_go_on nodes opening start receivers workers worker before fresh runs crews afters legal begun are go = together nodes opening start receivers workers before fresh legal begun worker runs crews afters are go
