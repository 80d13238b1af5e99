-- A serial run: one worker takes the entries of a journal one after another, and after each offers until nothing is offered; what is answered is what the receivers' queues answer.
use Rattle.std.specs.Prelude.{ℕ, zero, suc, ◌+◌, ◌==◌, List, [], ◌∷◌, Option, Some, None, if◌then◌else◌}
use Rattle.yp_attempt.specs.Content.{Content}
use Rattle.yp_attempt.specs.Tracks.{Answer}
use Rattle.yp_attempt.specs.Moments.{Moment}
use Rattle.yp_attempt.specs.Runs.{Run, Found, first_run, run_advanced, run_settled, waits}
use Rattle.yp_serial.specs.Posts.{Post, Queueing, first_post, answer_by, after_offer, after_take}
use Rattle.yp_serial.specs.Weights.{weights}

-- how many packets a receiver takes at most by the entry at a position, before anything is offered there
abbrev pub Taking : Type 0
Taking = ℕ → ℕ → ℕ

-- where a serial run stands: the run of its worker, and the post of each receiver
pub record Served : Type 0 where
  pub run : Run
  pub posts : ℕ → Post

abbrev pub first_served : Served
first_served = record { run = first_run; posts = λ receiver. first_post }

-- ---- steps

-- one entry further: receivers take what they take by it, and the worker takes the entry
abbrev pub served_advanced : Content → List ℕ → Taking → Moment → Served → Served
served_advanced c receivers takes m served = record {
  run = run_advanced c receivers m served.run;
  posts = λ receiver. after_take (takes (served.run.standing.position + 1) receiver) (served.posts receiver);
}

-- what is found is answered by the queue of its receiver
abbrev pub found_answer : Queueing → Found → Served → Answer
found_answer q found served = answer_by (q.places found.track.feed.receiver) (served.posts found.track.feed.receiver)

-- one offer further
abbrev pub served_settled : Content → Queueing → Found → Served → Served
served_settled c q found served = record {
  run = run_settled c served.run found (found_answer q found served);
  posts = λ receiver. if found.track.feed.receiver == receiver then after_offer (q.automatic receiver) (found_answer q found served) (served.posts receiver) else served.posts receiver;
}

-- ---- runs

-- where nothing is offered a serial run stays, and else it goes on
abbrev pub while_offered : Option Found → Served → (Found → Served) → Served
while_offered None served further = served
while_offered (Some found) served further = further found

-- at most so many offers further, while anything is offered
abbrev pub offers_on : Content → Queueing → ℕ → Served → Served
offers_on c q zero served = served
offers_on c q (suc count) served = while_offered (waits c served.run) served (λ found. offers_on c q count (served_settled c q found served))

-- all offers further that come at this position
abbrev pub all_offered : Content → Queueing → Served → Served
all_offered c q served = offers_on c q (weights c served.run.standing.stamp served.run.standing.tracks) served

-- a serial run over entries
abbrev pub serial : Content → List ℕ → Queueing → Taking → Served → List Moment → Served
serial c receivers q takes served [] = served
serial c receivers q takes served (m ∷ moments) = serial c receivers q takes (all_offered c q (served_advanced c receivers takes m served)) moments

-- the serial run of a journal
abbrev pub serial_run : Content → List ℕ → Queueing → Taking → List Moment → Served
serial_run c receivers q takes journal = serial c receivers q takes first_served journal
