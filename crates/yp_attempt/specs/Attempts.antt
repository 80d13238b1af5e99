-- The attempts that a journal makes with given answers, by recursion, and one receiver's part of them.
use Rattle.std.specs.Prelude.{◌≡◌, ℕ, ◌≤◌, ◌==◌, false, List, [], ◌∷◌, ◌++◌, map, filter, length, Option, Some, None}
use Rattle.yp_attempt.specs.Content.{Content}
use Rattle.yp_attempt.specs.Tracks.{Track, Made, Attempt, Answer, Took, Full, is_taken}
use Rattle.yp_attempt.specs.Moments.{Moment}
use Rattle.yp_attempt.specs.Runs.{Run, Found, first_run, waits, run_advanced, run_settled, Reaches}

-- where a run stops, and the entries that it didn't come to
pub record Stop : Type 0 where
  pub run : Run
  pub rest : List Moment

-- a stop of a run, with these entries left
abbrev pub stop : Run → List Moment → Stop
stop run rest = record { run = run; rest = rest }

-- a run stops where something is offered, and else goes on
abbrev pub stop_or_go : Option Found → Stop → Stop → Stop
stop_or_go None here further = further
stop_or_go (Some found) here further = here

-- a run goes over entries until something is offered
abbrev pub until_offer : Content → List ℕ → Run → List Moment → Stop
until_offer c receivers run [] = stop run []
until_offer c receivers run (m ∷ moments) = stop_or_go (waits c run) (stop run (m ∷ moments)) (until_offer c receivers (run_advanced c receivers m run) moments)

-- the end of a replay: the run, the entries that it didn't come to, and the answers that met no offer
pub record Replayed : Type 0 where
  pub run : Run
  pub rest : List Moment
  pub left : List Answer

-- the replay ends at a stop, with these answers left
abbrev pub with_left : Stop → List Answer → Replayed
with_left here answers = record { run = here.run; rest = here.rest; left = answers }

-- an answer goes to what is offered; where nothing is, the replay ends
abbrev pub go_on : Option Found → Replayed → (Found → Replayed) → Replayed
go_on None end further = end
go_on (Some found) end further = further found

-- a run over entries, in which each offer gets the next answer
abbrev pub replay : Content → List ℕ → Run → List Moment → List Answer → Replayed
replay c receivers run moments [] = with_left (until_offer c receivers run moments) []
replay c receivers run moments (answer ∷ answers) =
    go_on (waits c (until_offer c receivers run moments).run) (with_left (until_offer c receivers run moments) (answer ∷ answers))
    (λ found. replay c receivers (run_settled c (until_offer c receivers run moments).run found answer) (until_offer c receivers run moments).rest answers)

-- a replay of a journal with answers leads to a run, by the entries that it came to and the answers that met an offer
pub record IsReplayOf (c : Content) (receivers : List ℕ) (journal : List Moment) (answers : List Answer) (end : Replayed) : Type 0 where
  pub past : List Moment
  pub given : List Answer
  pub entries : past ++ end.rest ≡ journal
  pub met : given ++ end.left ≡ answers
  pub reaches : Reaches c receivers past given end.run

-- the attempts of some receivers' feeds
abbrev pub attempts : Content → List ℕ → List Moment → List Answer → List Attempt
attempts c receivers journal answers = (replay c receivers first_run journal answers).run.done

-- ---- one receiver's part

-- a receiver is one of several, and stands among them just once
abbrev pub IsOneOf : ℕ → List ℕ → Type 0
IsOneOf receiver receivers = filter (λ x. x == receiver) receivers ≡ receiver ∷ []

-- its tracks
abbrev pub own_tracks : ℕ → List Track → List Track
own_tracks receiver tracks = filter (λ track. track.feed.receiver == receiver) tracks

-- the attempts of its feeds
abbrev pub of_receiver : ℕ → List Attempt → List Attempt
of_receiver receiver attempts = filter (λ a. a.receiver == receiver) attempts

-- the answers that attempts got
abbrev pub answers_in : List Attempt → List Answer
answers_in attempts = map (λ a. a.answer) attempts

-- its part of a run
abbrev pub own_run : ℕ → Run → Run
own_run receiver run = record { standing = record run.standing { tracks = own_tracks receiver run.standing.tracks }; done = of_receiver receiver run.done }

-- ---- what is sent

-- what a receiver is sent: of which subscription, and what was made
pub record Notification : Type 0 where
  pub sub : ℕ
  pub made : Made

-- what an attempt offers its receiver
abbrev pub notification_of : Attempt → Notification
notification_of a = record { sub = a.sub; made = a.made }

-- what is taken goes before what is taken later
abbrev pub if_taken : Answer → Notification → List Notification → List Notification
if_taken Took notification later = notification ∷ later
if_taken Full notification later = later

-- the notifications of the attempts that were taken, in order
abbrev pub taken_of : List Attempt → List Notification
taken_of [] = []
taken_of (a ∷ attempts) = if_taken a.answer (notification_of a) (taken_of attempts)

-- a queue of so many places was full only where at least as many notifications had been accepted before
abbrev pub FillsFirst : ℕ → List Attempt → Type 0
FillsFirst places offered = (before : List Attempt) (a : Attempt) (after : List Attempt) → offered ≡ before ++ a ∷ after → is_taken a.answer ≡ false → places ≤ length (taken_of before)

-- what a receiver is sent by a journal, with the answers of its queue
abbrev pub stream : Content → ℕ → List Moment → List Answer → List Notification
stream c receiver journal answers = taken_of (attempts c (receiver ∷ []) journal answers)
