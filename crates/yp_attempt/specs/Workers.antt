-- A worker that looks at its tracks one after another: when it stands for entries and answers, and what its steps are.
use Rattle.std.specs.Prelude.{◌≡◌, ◌==◌, ℕ, zero, suc, ◌+◌, ◌%◌, false, List, [], ◌∷◌, ◌++◌, map, filter, if◌then◌else◌}
use Rattle.yp_feed.specs.declared.item.Item.{Item}
use Rattle.yp_feed.specs.Machine.{taken, refused, rebases}
use Rattle.yp_attempt.specs.Content.{Content}
use Rattle.yp_attempt.specs.Tracks.{Track, Answer, Took, Full, with_feed, freeze_tried, rebased}
use Rattle.yp_attempt.specs.Moments.{Moment, after_moment, is_kept_by}
use Rattle.yp_attempt.specs.Runs.{Standing, Run, Found, Reaches, with_started, unless_ended}

-- a track that was looked at: the record is set aside where the rule for it holds, and the base moves where the record that is due has no edit
abbrev pub ready : Content → ℕ → ℕ → Track → Track
ready c n stamp track = rebased c n stamp (freeze_tried c n stamp track)

-- all tracks, looked at
abbrev pub all_ready : Content → Standing → List Track
all_ready c standing = map (ready c standing.position standing.stamp) standing.tracks

-- a worker stands for entries and answers: its tracks, once they are looked at, are those of the run that these lead to, once their bases have moved
pub record Stands (c : Content) (receivers : List ℕ) (past : List Moment) (answers : List Answer) (standing : Standing) : Type 0 where
  pub run : Run
  pub reaches : Reaches c receivers past answers run
  pub position : standing.position ≡ run.standing.position
  pub stamp : standing.stamp ≡ run.standing.stamp
  pub tracks : all_ready c standing ≡ map (rebased c run.standing.position run.standing.stamp) run.standing.tracks

-- what was found, with its tracks looked at
abbrev pub found_rebased : Content → ℕ → ℕ → Found → Found
found_rebased c n stamp found = record { before = map (rebased c n stamp) found.before; track = rebased c n stamp found.track; item = found.item; after = map (rebased c n stamp) found.after }

-- the worker takes an entry, where nothing is offered
abbrev pub takes : Content → List ℕ → Moment → Standing → Standing
takes c receivers m standing = record {
  position = standing.position + 1;
  stamp = m.stamp;
  tracks = with_started m (standing.position + 1) m.act receivers (map (after_moment c m (standing.position + 1)) (filter (is_kept_by m.act) (all_ready c standing)));
}

-- a track after the answer to its item, before it is looked at again: a record that is to be set aside is so by the next look
abbrev pub answered_alone : ℕ → ℕ → Track → Item → Answer → Track
answered_alone n stamp track item Took = with_feed track (taken track.feed item n stamp) (rebases track.feed item)
answered_alone n stamp track item Full = with_feed track (refused track.feed item stamp) false

-- the worker puts an answer in
abbrev pub puts : Standing → Found → Answer → Standing
puts standing found answer = record standing { tracks = found.before ++ (unless_ended (answered_alone standing.position standing.stamp found.track found.item answer) ++ found.after) }

-- of so many receivers the numbers of those that a worker serves, in order: the remainder by the number of workers is the worker's
abbrev pub numbers_of : ℕ → ℕ → ℕ → List ℕ
numbers_of worker workers zero = []
numbers_of worker workers (suc count) = numbers_of worker workers count ++ (if count % workers == worker then count ∷ [] else [])
