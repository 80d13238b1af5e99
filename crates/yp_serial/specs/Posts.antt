-- What stands between a worker and a receiver: a queue of bounded capacity, and what was taken of it.
use Rattle.std.specs.Prelude.{ℕ, ◌+◌, ◌-◌, min, nat_lt, Bool, true, false, if◌then◌else◌}
use Rattle.yp_attempt.specs.Tracks.{Answer, Took, Full}

-- how many packets stand in a queue, and how many the receiver took
pub record Post : Type 0 where
  pub held : ℕ
  pub taken : ℕ

abbrev pub first_post : Post
first_post = record { held = 0; taken = 0 }

-- of each receiver, by its number: how many packets may stand in its queue, and whether it takes each at once
pub record Queueing : Type 0 where
  pub places : ℕ → ℕ
  pub automatic : ℕ → Bool

-- what a queue of so many places answers an offer
abbrev pub answer_by : ℕ → Post → Answer
answer_by places post = if nat_lt post.held places then Took else Full

-- a post after an offer: a packet that is accepted stands in the queue, unless the receiver takes it at once
abbrev pub after_offer : Bool → Answer → Post → Post
after_offer automatic Full post = post
after_offer true Took post = record post { taken = post.taken + 1 }
after_offer false Took post = record post { held = post.held + 1 }

-- a post after its receiver took up to so many packets
abbrev pub after_take : ℕ → Post → Post
after_take count post = record { held = post.held - count; taken = post.taken + min count post.held }
