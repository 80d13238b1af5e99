-- A track that a worker offers is of one of the worker's receivers.
use Rattle.std.proofs.Common.{◌≡◌, ℕ, zero, suc, ◌<◌, subst, List, [], ◌∷◌, length, Some, arith}
use Rattle.std.specs.List.{AllByRecursion, slice_get}
use Rattle.std.proofs.lemmas.Option.{none-some, same_Some}
use Rattle.yp_attempt.specs.Moments.{Moment}
use Rattle.yp_attempt.specs.Runs.{Found, Reaches, Run, waits}
use Rattle.yp_attempt.specs.Tracks.{Answer}
use Rattle.yp_world.specs.World.{Setup, receivers_of, worker_of}
use Rattle.yp_attempt.specs.RunLaws.{FindsFirst, all_its, found_for, numbers_below}

-- what holds of all numbers holds of each
pub one_of_all : (P : ℕ → Type 0) (ns : List ℕ) (i n : ℕ) → AllByRecursion P ns → slice_get ns i ≡ Some n → P n
one_of_all P [] i n all at = absurd (none-some n at)
one_of_all P (x ∷ ns) zero n all at = subst P (same_Some x n at) all.0
one_of_all P (x ∷ ns) (suc i) n all at = one_of_all P ns i n all.1 at

module _ (finds : FindsFirst) (setup : Setup) (worker : ℕ) (past : List Moment) (given : List Answer) (run : Run) (reaches : Reaches setup.content (receivers_of setup worker) past given run) (found : Found)
    (offers : waits setup.content run ≡ Some found) where
  its_receiver : (Is : ℕ → Type 0) → AllByRecursion Is (receivers_of setup worker) → Is found.track.feed.receiver
  its_receiver Is all = found_for Is finds setup.content (receivers_of setup worker) all past given run found reaches offers

  pub is_there : found.track.feed.receiver < length setup.places
  is_there = its_receiver (λ x. x < length setup.places) (numbers_below worker setup.workers (length setup.places) (length setup.places) (omega arith))

  pub is_mine : worker_of setup found.track.feed.receiver ≡ worker
  is_mine = its_receiver (λ x. worker_of setup x ≡ worker) (all_its worker setup.workers (length setup.places))
