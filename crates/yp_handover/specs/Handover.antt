-- What the threads of workers and receivers are handed, and what they hand back (RFC 8639 sections 2.4 and 2.7, RFC 8641 section 3.1).
use Rattle.std.specs.Prelude.{◌≡◌, ℕ, ◌+◌, ◌<◌, Bool, true, List, [], ◌∷◌, ◌++◌, length, map, Some}
use Rattle.std.specs.List.{AllByRecursion, slice_get}
use Rattle.yp_schema.specs.declared.schema.SchemaNode.{SchemaNode}
use Rattle.yp_journal.specs.declared.entry.Entry.{Entry}
use Rattle.yp_journal.specs.declared.receiver.ReceiverInfo.{ReceiverInfo}
use Rattle.yp_journal.specs.History.{JournalState, first_state, state_of, IsLegal}
use Rattle.yp_queue.specs.declared.packet.Packet.{Packet}
use Rattle.yp_attempt.specs.Attempts.{FillsFirst, of_receiver}
use Rattle.yp_attempt.specs.Runs.{Run}
use Rattle.yp_attempt.specs.Tracks.{Attempt}
use Rattle.yp_attempt.specs.Workers.{numbers_of}
use Rattle.yp_receiver.specs.Held.{lines_heard}
use Rattle.yp_worker.specs.declared.worker.Worker.{Worker}
use Rattle.yp_listeners.specs.declared.listener.Listener.{Listener}
use Rattle.yp_crews.specs.declared.crew.Crew.{Crew}
use Rattle.yp_crews.specs.Crews.{AreCrews, IsCrewOf}
use Rattle.yp_published.specs.Reads.{Reading, fresh_reading}
use Rattle.yp_followers.specs.declared.outbox.Outbox.{Outbox}
use Rattle.yp_followers.specs.Followers.{IsDone, IsReady}
use Rattle.yp_takers.specs.declared.taker.TakerJob.{TakerJob}
use Rattle.yp_takers.specs.Takers.{HasTakenOn}
use Rattle.yp_handover.specs.declared.group.Group.{Group}
use Rattle.yp_handover.specs.declared.closing.Followed.{Followed}

-- ---- lists side by side

-- two lists are of one length, and what stands at one place belongs together
abbrev pub Pairs : {X Y : Type 0} → (X → Y → Type 0) → List X → List Y → Type 0
Pairs R [] [] = Unit {0}
Pairs R [] (y ∷ ys) = ⊥
Pairs R (x ∷ xs) [] = ⊥
Pairs R (x ∷ xs) (y ∷ ys) = R x y × Pairs R xs ys

-- so do three
abbrev pub Triples : {X Y Z : Type 0} → (X → Y → Z → Type 0) → List X → List Y → List Z → Type 0
Triples R [] [] [] = Unit {0}
Triples R [] [] (z ∷ zs) = ⊥
Triples R [] (y ∷ ys) zs = ⊥
Triples R (x ∷ xs) [] zs = ⊥
Triples R (x ∷ xs) (y ∷ ys) [] = ⊥
Triples R (x ∷ xs) (y ∷ ys) (z ∷ zs) = R x y z × Triples R xs ys zs

-- ---- before the threads

-- what contracts see of the job of a worker: its reader, the worker, its outboxes, and whether it followed the journal to its end
pub record Follower : Type 0 where
  pub reader : Reading
  pub worker : Worker
  pub boxes : List Outbox
  pub whole : Bool

-- an outbox and the job of a receiver are the two sides of a new queue, in place of a listener; the job names one of so many workers
pub record AreSidesOf (receivers : List ReceiverInfo) (workers : ℕ) (listener : Listener) (box : Outbox) (taker : TakerJob) : Type 0 where
  pub receiver : box.receiver ≡ listener.receiver
  pub log : box.log.items ≡ listener.log.items
  pub places : (info : ReceiverInfo) → slice_get receivers listener.receiver ≡ Some info → box.send.places ≡ info.places
  pub sent : box.send.sent ≡ []
  pub queue : taker.take.queue ≡ box.send.queue
  pub kept : taker.taken.items ≡ []
  pub taken : taker.take.taken ≡ []
  pub held : taker.heard ≡ listener.heard
  pub worker : taker.worker < workers

-- the jobs of a worker and of its receivers stand in place of a crew; nothing was read yet
pub record AreJobsOf (receivers : List ReceiverInfo) (workers : ℕ) (crew : Crew) (follower : Follower) (group : Group) : Type 0 where
  pub reader : follower.reader ≡ fresh_reading
  pub worker : follower.worker ≡ crew.worker
  pub sides : Triples (AreSidesOf receivers workers) crew.listeners.items follower.boxes group.takers.items

-- ---- after them

-- a worker and its outboxes, taken out of its job, which is whole
pub record IsTakenOut (after : Follower) (reader : Reading) (followed : Followed) : Type 0 where
  pub whole : after.whole ≡ true
  pub same : reader ≡ after.reader
  pub worker : followed.worker ≡ after.worker
  pub boxes : followed.outboxes.items ≡ after.boxes

-- the job of a receiver took from the queue of an outbox, and keeps what it took
pub record IsOfOneQueue (box : Outbox) (taker : TakerJob) : Type 0 where
  pub queue : taker.take.queue ≡ box.send.queue
  pub kept : taker.taken.items ≡ taker.take.taken

-- a receiver of an outbox heard what its job had left in the queue, too
pub record HasHeardAll (nodes : List SchemaNode) (box : Outbox) (taker : TakerJob) (listener : Listener) : Type 0 where
  pub receiver : listener.receiver ≡ box.receiver
  pub log : listener.log.items ≡ box.log.items
  pub rest : List Packet
  pub whole : box.send.sent ≡ taker.take.taken ++ rest
  pub heard : listener.heard ≡ lines_heard nodes taker.heard (map (λ packet. packet.line) rest)

-- a crew is made of a worker and the jobs of its receivers
pub record IsMadeOf (nodes : List SchemaNode) (followed : Followed) (group : Group) (crew : Crew) : Type 0 where
  pub worker : crew.worker ≡ followed.worker
  pub listeners : Triples (HasHeardAll nodes) followed.outboxes.items group.takers.items crew.listeners.items

-- ---- what threads did

-- the job of a worker is done, from which the other came: it follows a journal that goes on from a state
abbrev pub IsFollowedBy : List SchemaNode → JournalState → Follower → Follower → Type 0
IsFollowedBy nodes opening before after = IsDone nodes opening before.reader.got before.worker before.boxes after.reader.got after.worker after.boxes after.whole

-- the jobs of a worker's receivers took on, and are whole
pub record HaveTaken (nodes : List SchemaNode) (before after : Group) : Type 0 where
  pub on : Pairs (HasTakenOn nodes) before.takers.items after.takers.items
  pub whole : AllByRecursion (λ taker. taker.whole ≡ true) after.takers.items

-- what a worker and its receivers hand back in place of a crew: the worker got these entries
pub record IsHandedBack (nodes : List SchemaNode) (opening : JournalState) (receivers : List ReceiverInfo) (workers : ℕ) (fresh : List Entry) (crew : Crew) (followed : Followed) (group : Group) : Type 0 where
  pub first : Follower
  pub begun : Group
  pub jobs : AreJobsOf receivers workers crew first begun
  pub last : Follower
  pub follows : IsFollowedBy nodes opening first last
  pub took : HaveTaken nodes begun group
  pub reader : Reading
  pub out : IsTakenOut last reader followed
  pub got : reader.got.entries ≡ fresh

-- what all workers and their receivers do
abbrev pub AreHandedBack : List SchemaNode → JournalState → List ReceiverInfo → ℕ → List Entry → List Crew → List Followed → List Group → Type 0
AreHandedBack nodes opening receivers workers fresh crews followed groups = Triples (IsHandedBack nodes opening receivers workers fresh) crews followed groups

-- all jobs of workers and of their receivers come back, with the readers and workers taken out of their jobs: what they did from crews on
pub record AreBack (nodes : List SchemaNode) (opening : JournalState) (receivers : List ReceiverInfo) (workers : ℕ) (crews : List Crew) (readers : List Reading) (followed : List Followed) (groups : List Group) : Type 0 where
  pub firsts : List Follower
  pub begun : List Group
  pub jobs : Triples (AreJobsOf receivers workers) crews firsts begun
  pub lasts : List Follower
  pub follows : Pairs (IsFollowedBy nodes opening) firsts lasts
  pub took : Pairs (HaveTaken nodes) begun groups
  pub out : Triples IsTakenOut lasts readers followed

-- a job of a worker may follow a journal that goes on from a state
abbrev pub IsReadyToFollow : List SchemaNode → JournalState → Follower → Type 0
IsReadyToFollow nodes opening follower = IsReady nodes opening follower.reader.got.entries follower.worker follower.boxes

-- ---- what a crew has done by them

-- a run went on from another over entries of threads: its queues were full only after as many notifications as they have places
pub record WentOn (receivers : List ReceiverInfo) (mine : List ℕ) (before after : Run) : Type 0 where
  pub since : List Attempt
  pub done : after.done ≡ before.done ++ since
  pub fulls : AllByRecursion (λ receiver. (info : ReceiverInfo) → slice_get receivers receiver ≡ Some info → FillsFirst info.places (of_receiver receiver since)) mine

-- a crew has served its receivers by threads over entries more
pub record HasServedOn (nodes : List SchemaNode) (start : ℕ) (receivers : List ReceiverInfo) (mine : List ℕ) (entries : List Entry) (before : Run) (crew : Crew) : Type 0 where
  pub run : Run
  pub went : WentOn receivers mine before run
  pub is : IsCrewOf nodes start receivers mine entries run crew

-- a crew went on to another by threads, over entries that go on from the state that those before left
abbrev pub GoesOnByThreads : List SchemaNode → JournalState → List ReceiverInfo → List Entry → Crew → Crew → Type 0
GoesOnByThreads nodes opening receivers fresh crew after =
    (start : ℕ) (mine : List ℕ) (before : List Entry) (run : Run) → IsLegal nodes (first_state receivers) before → opening ≡ state_of nodes (first_state receivers) before
    → IsCrewOf nodes start receivers mine before run crew → HasServedOn nodes start receivers mine (before ++ fresh) run after

-- each run of workers went on from another, of which the first worker has this number
abbrev pub WentOnEach : List ReceiverInfo → ℕ → ℕ → List Run → List Run → Type 0
WentOnEach receivers workers worker [] [] = Unit {0}
WentOnEach receivers workers worker [] (after ∷ afters) = ⊥
WentOnEach receivers workers worker (before ∷ befores) [] = ⊥
WentOnEach receivers workers worker (before ∷ befores) (after ∷ afters) = WentOn receivers (numbers_of worker workers (length receivers)) before after × WentOnEach receivers workers (worker + 1) befores afters

-- crews have served their receivers by threads over entries more
pub record AreCrewsBeside (nodes : List SchemaNode) (start : ℕ) (receivers : List ReceiverInfo) (workers worker : ℕ) (entries : List Entry) (before : List Run) (crews : List Crew) : Type 0 where
  pub runs : List Run
  pub went : WentOnEach receivers workers worker before runs
  pub are : AreCrews nodes start receivers workers worker entries runs crews
