-- What all tracks of a run have, they have after an answer and after tracks that start.
use Rattle.std.proofs.Common.{ℕ, Bool, true, false, not, List, [], ◌∷◌, ◌++◌, map}
use Rattle.std.specs.Prelude.{if◌then◌else◌, nat_lt}
use Rattle.std.specs.List.{AllByRecursion, filter}
use Rattle.yp_base.specs.declared.notice.Trigger.{Trigger}
use Rattle.yp_attempt.specs.Tracks.{Track}
use Rattle.yp_attempt.specs.Moments.{Moment, Act, Quiet, Starts, Controls, Drops, new_track}
use Rattle.yp_attempt.specs.Runs.{with_started}
use Rattle.yp_attempt.specs.ListLaws.{all_append, all_map, all_filter}

pub ended_all : (P : Track → Type 0) (track : Track) (after : List Track) (b : Bool) → P track → AllByRecursion P after → AllByRecursion P ((if b then [] else track ∷ []) ++ after)
ended_all P track after true h k = k
ended_all P track after false h k = (h, k)

pub started_all : (P : Track → Type 0) (m : Moment) (n : ℕ) (act : Act) (receivers : List ℕ) (tracks : List Track)
    → ((sub : ℕ) (trigger : Trigger) (configured : Bool) → AllByRecursion (λ r. P (new_track m n sub trigger configured r)) receivers) → AllByRecursion P tracks
    → AllByRecursion P (with_started m n act receivers tracks)
started_all P m n Quiet receivers tracks h k = k
started_all P m n (Starts sub trigger configured names) receivers tracks h k =
    let New : ℕ → Type 0 = (λ r. P (new_track m n sub trigger configured r)) in
    all_append P (filter (λ t. nat_lt t.feed.sub sub) tracks) (map (new_track m n sub trigger configured) (filter names receivers) ++ filter (λ t. not (nat_lt t.feed.sub sub)) tracks)
    (all_filter P (λ t. nat_lt t.feed.sub sub) tracks k)
    (all_append P (map (new_track m n sub trigger configured) (filter names receivers)) (filter (λ t. not (nat_lt t.feed.sub sub)) tracks)
    (all_map New P (new_track m n sub trigger configured) (filter names receivers) (λ r p. p) (all_filter New names receivers (h sub trigger configured)))
    (all_filter P (λ t. not (nat_lt t.feed.sub sub)) tracks k))
started_all P m n (Controls sub control) receivers tracks h k = k
started_all P m n (Drops sub) receivers tracks h k = k
