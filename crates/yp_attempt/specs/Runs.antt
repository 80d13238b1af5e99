-- A worker's run over the entries of a journal: which track offers first, what an answer and an entry make of its tracks, and which runs entries and answers lead to.
use Rattle.std.specs.Prelude.{◌≡◌, ℕ, ◌+◌, ◌≤◌, not, nat_lt, List, [], ◌∷◌, ◌++◌, map, filter, Option, Some, None, option_map, if◌then◌else◌}
use Rattle.std.specs.List.{AllByRecursion}
use Rattle.yp_feed.specs.declared.item.Item.{Item}
use Rattle.yp_attempt.specs.Content.{Content}
use Rattle.yp_attempt.specs.Tracks.{Track, Answer, Attempt, offered_item, attempt, rebased, after_answer}
use Rattle.yp_attempt.specs.Moments.{Moment, Act, Quiet, Starts, Controls, Drops, MayFollow, after_moment, is_kept_by, new_track}

-- where a worker stands: a position, its stamp, and the tracks of some receivers, in the order in which they are asked for offers
pub record Standing : Type 0 where
  pub position : ℕ
  pub stamp : ℕ
  pub tracks : List Track

-- the order in which they are asked: that of their subscriptions' ids
abbrev pub AreById : List Track → Type 0
AreById [] = Unit {0}
AreById (track ∷ tracks) = AllByRecursion (λ later. track.feed.sub ≤ later.feed.sub) tracks × AreById tracks

-- ---- offers

-- the first track that offers an item, with the tracks before it and after it
pub record Found : Type 0 where
  pub before : List Track
  pub track : Track
  pub item : Item
  pub after : List Track

-- the same with a track more before it
abbrev pub with_earlier : Track → Found → Found
with_earlier track found = record found { before = track ∷ found.before }

-- what a track offers, or else what is found later
abbrev pub found_in : Option Item → Track → List Track → Option Found → Option Found
found_in (Some item) track tracks later = Some (record { before = []; track = track; item = item; after = tracks })
found_in None track tracks later = option_map (with_earlier track) later

-- the first offer among tracks, in their order
abbrev pub first_offer : Content → ℕ → List Track → Option Found
first_offer c stamp [] = None
first_offer c stamp (track ∷ tracks) = found_in (offered_item c stamp track) track tracks (first_offer c stamp tracks)

-- what is found among tracks: it offers its item, and those before it offer nothing
pub record IsFirst (c : Content) (stamp : ℕ) (tracks : List Track) (found : Found) : Type 0 where
  pub parts : tracks ≡ found.before ++ found.track ∷ found.after
  pub offers : offered_item c stamp found.track ≡ Some found.item
  pub idle : AllByRecursion (λ track. offered_item c stamp track ≡ None) found.before

-- a track whose feed has told its end is gone
abbrev pub unless_ended : Track → List Track
unless_ended track = if track.feed.ended then [] else track ∷ []

-- the tracks after the answer to an offer
abbrev pub settled : Content → Standing → Found → Answer → List Track
settled c standing found answer = found.before ++ (unless_ended (after_answer c standing.position standing.stamp found.track found.item answer) ++ found.after)

-- ---- entries

-- tracks with those that an act starts for some receivers: in the order of ids, and then of receivers
abbrev pub with_started : Moment → ℕ → Act → List ℕ → List Track → List Track
with_started m n Quiet receivers tracks = tracks
with_started m n (Starts sub trigger configured names) receivers tracks =
    filter (λ track. nat_lt track.feed.sub sub) tracks ++ (map (new_track m n sub trigger configured) (filter names receivers) ++ filter (λ track. not (nat_lt track.feed.sub sub)) tracks)
with_started m n (Controls sub control) receivers tracks = tracks
with_started m n (Drops sub) receivers tracks = tracks

-- one entry further: bases move that were due to move at the position, what is dropped goes, the entry is met by each track, and new tracks start
abbrev pub advanced : Content → List ℕ → Moment → Standing → Standing
advanced c receivers m standing = record {
  position = standing.position + 1;
  stamp = m.stamp;
  tracks = with_started m (standing.position + 1) m.act receivers (map (after_moment c m (standing.position + 1)) (filter (is_kept_by m.act) (map (rebased c standing.position standing.stamp) standing.tracks)));
}

-- ---- runs

-- where a run stands, and the attempts that it made
pub record Run : Type 0 where
  pub standing : Standing
  pub done : List Attempt

-- the run before the first entry
abbrev pub first_run : Run
first_run = record { standing = record { position = 0; stamp = 0; tracks = [] }; done = [] }

-- the offer that waits for an answer, if there is one
abbrev pub waits : Content → Run → Option Found
waits c run = first_offer c run.standing.stamp run.standing.tracks

-- a run one entry further
abbrev pub run_advanced : Content → List ℕ → Moment → Run → Run
run_advanced c receivers m run = record run { standing = advanced c receivers m run.standing }

-- a run one answer further
abbrev pub run_settled : Content → Run → Found → Answer → Run
run_settled c run found answer = record {
  standing = record run.standing { tracks = settled c run.standing found answer };
  done = run.done ++ attempt c run.standing.position run.standing.stamp found.track found.item answer ∷ [];
}

-- the runs of some receivers to which entries and answers lead: an entry comes where nothing is offered, and an answer where something is
pub data Reaches (c : Content) (receivers : List ℕ) : List Moment → List Answer → Run → Type 0 where
  opened : Reaches c receivers [] [] first_run
  advances : (past : List Moment) → (answers : List Answer) → (run : Run) → (m : Moment) → Reaches c receivers past answers run → MayFollow past m → waits c run ≡ None → Reaches c receivers (past ++ m ∷ []) answers (run_advanced c receivers m run)
  settles : (past : List Moment) → (answers : List Answer) → (run : Run) → (found : Found) → (answer : Answer) → Reaches c receivers past answers run → waits c run ≡ Some found → Reaches c receivers past (answers ++ answer ∷ []) (run_settled c run found answer)
