-- Jobs of receivers that begin.
use Rattle.std.proofs.Common.{◌≡◌, ℕ, ◌<◌, List, [], ◌∷◌, sym, ◌∙◌}
use Rattle.std.specs.Prelude.{All}
use Rattle.std.specs.List.{AllByRecursion}
use Rattle.std.proofs.lemmas.List.Elements.{All-from_recursion}
use Rattle.yp_journal.specs.declared.receiver.ReceiverInfo.{ReceiverInfo}
use Rattle.yp_listeners.specs.declared.listener.Listener.{Listener}
use Rattle.yp_crews.specs.declared.crew.Crew.{Crew}
use Rattle.yp_followers.specs.declared.outbox.Outbox.{Outbox}
use Rattle.yp_takers.specs.declared.taker.TakerJob.{TakerJob}
use Rattle.yp_handover.specs.declared.group.Group.{Group}
use Rattle.yp_handover.specs.Handover.{AreJobsOf, AreSidesOf, Follower, Triples}
use Rattle.yp_threads.specs.Beside.{AreKeeping, AreOfWorkers}

module _ (receivers : List ReceiverInfo) (workers : ℕ) where
  each_within : (listeners : List Listener) (boxes : List Outbox) (takers : List TakerJob) → Triples (AreSidesOf receivers workers) listeners boxes takers → AllByRecursion (λ (taker : TakerJob). taker.worker < workers) takers
  each_within [] [] [] sides = tt
  each_within [] [] (taker ∷ takers) sides = absurd sides
  each_within [] (box ∷ boxes) takers sides = absurd sides
  each_within (listener ∷ listeners) [] takers sides = absurd sides
  each_within (listener ∷ listeners) (box ∷ boxes) [] sides = absurd sides
  each_within (listener ∷ listeners) (box ∷ boxes) (taker ∷ takers) sides = (sides.0.worker, each_within listeners boxes takers sides.1)

  each_kept : (listeners : List Listener) (boxes : List Outbox) (takers : List TakerJob) → Triples (AreSidesOf receivers workers) listeners boxes takers → AllByRecursion (λ (taker : TakerJob). taker.taken.items ≡ taker.take.taken) takers
  each_kept [] [] [] sides = tt
  each_kept [] [] (taker ∷ takers) sides = absurd sides
  each_kept [] (box ∷ boxes) takers sides = absurd sides
  each_kept (listener ∷ listeners) [] takers sides = absurd sides
  each_kept (listener ∷ listeners) (box ∷ boxes) [] sides = absurd sides
  each_kept (listener ∷ listeners) (box ∷ boxes) (taker ∷ takers) sides = (sides.0.kept ∙ sym sides.0.taken, each_kept listeners boxes takers sides.1)

  of_workers_by : (crews : List Crew) (followers : List Follower) (groups : List Group) → Triples (AreJobsOf receivers workers) crews followers groups → AllByRecursion (AreOfWorkers workers) groups
  of_workers_by [] [] [] jobs = tt
  of_workers_by [] [] (group ∷ groups) jobs = absurd jobs
  of_workers_by [] (follower ∷ followers) groups jobs = absurd jobs
  of_workers_by (crew ∷ crews) [] groups jobs = absurd jobs
  of_workers_by (crew ∷ crews) (follower ∷ followers) [] jobs = absurd jobs
  of_workers_by (crew ∷ crews) (follower ∷ followers) (group ∷ groups) jobs = (
    All-from_recursion (λ (taker : TakerJob). taker.worker < workers) group.takers.items (each_within crew.listeners.items follower.boxes group.takers.items jobs.0.sides),
    of_workers_by crews followers groups jobs.1,
  )

  keeping_by : (crews : List Crew) (followers : List Follower) (groups : List Group) → Triples (AreJobsOf receivers workers) crews followers groups → AllByRecursion AreKeeping groups
  keeping_by [] [] [] jobs = tt
  keeping_by [] [] (group ∷ groups) jobs = absurd jobs
  keeping_by [] (follower ∷ followers) groups jobs = absurd jobs
  keeping_by (crew ∷ crews) [] groups jobs = absurd jobs
  keeping_by (crew ∷ crews) (follower ∷ followers) [] jobs = absurd jobs
  keeping_by (crew ∷ crews) (follower ∷ followers) (group ∷ groups) jobs = (
    All-from_recursion (λ (taker : TakerJob). taker.taken.items ≡ taker.take.taken) group.takers.items (each_kept crew.listeners.items follower.boxes group.takers.items jobs.0.sides),
    keeping_by crews followers groups jobs.1,
  )

  -- the jobs of receivers in place of crews are of workers that there are
  pub all_of_workers : (crews : List Crew) (followers : List Follower) (groups : List Group) → Triples (AreJobsOf receivers workers) crews followers groups → All (AreOfWorkers workers) groups
  all_of_workers crews followers groups jobs = All-from_recursion (AreOfWorkers workers) groups (of_workers_by crews followers groups jobs)

  -- and keep what their queues gave: nothing yet
  pub all_keeping : (crews : List Crew) (followers : List Follower) (groups : List Group) → Triples (AreJobsOf receivers workers) crews followers groups → All AreKeeping groups
  all_keeping crews followers groups jobs = All-from_recursion AreKeeping groups (keeping_by crews followers groups jobs)
