-- Whether a subscription has a receiver, and whether it has ended, by the entries of a journal (RFC 8639 sections 2.4, 2.5 and 2.7.3).
use Rattle.std.specs.Prelude.{◌≡◌, ℕ, ◌≤◌, ◌==◌, Bool, true, false, not, ◌&&◌, ◌||◌, List, [], ◌∷◌, length, take, if◌then◌else◌}
use Rattle.yp_feed.specs.declared.item.Control.{Control}
use Rattle.yp_feed.specs.declared.item.Control.TheVariants.{Modify, Resync, Rules, End}
use Rattle.yp_attempt.specs.Moments.{Moment, Act, Quiet, Starts, Controls, Drops}
use Rattle.yp_attempt.specs.Tracks.{Attempt}
use Rattle.yp_mirror.specs.Heard.{is_update}

-- ---- receivers

-- whether it has a receiver after an act: from where it starts and names this receiver, up to where it is dropped
abbrev pub has_by : ℕ → ℕ → Bool → Act → Bool
has_by sub receiver had Quiet = had
has_by sub receiver had (Starts other trigger configured names) = had || ((sub == other) && names receiver)
has_by sub receiver had (Controls other control) = had
has_by sub receiver had (Drops other) = had && not (sub == other)

-- whether it has a receiver after entries
abbrev pub has_after : ℕ → ℕ → Bool → List Moment → Bool
has_after sub receiver had [] = had
has_after sub receiver had (m ∷ moments) = has_after sub receiver (has_by sub receiver had m.act) moments

-- by entries alone
abbrev pub has_receiver : ℕ → ℕ → List Moment → Bool
has_receiver sub receiver moments = has_after sub receiver false moments

-- ---- ends

-- whether a subscription has ended after what happens to it: other terms and a resynchronisation are of one that goes on
abbrev pub ended_with : Bool → Control → Bool
ended_with ended (Modify trigger notify) = false
ended_with ended Resync = false
ended_with ended Rules = ended
ended_with ended End = true

-- after an act
abbrev pub ended_by : ℕ → Bool → Act → Bool
ended_by sub ended Quiet = ended
ended_by sub ended (Starts other trigger configured names) = ended && not (sub == other)
ended_by sub ended (Controls other control) = if sub == other then ended_with ended control else ended
ended_by sub ended (Drops other) = ended

-- after entries
abbrev pub ended_after : ℕ → Bool → List Moment → Bool
ended_after sub ended [] = ended
ended_after sub ended (m ∷ moments) = ended_after sub (ended_by sub ended m.act) moments

-- by entries alone
abbrev pub has_ended : ℕ → List Moment → Bool
has_ended sub moments = ended_after sub false moments

-- ---- attempts

-- an attempt for a receiver, by the entries up to the position at which it is offered: its subscription has the receiver, and it has not ended where this is an update
pub record IsOfLiving (receiver : ℕ) (journal : List Moment) (a : Attempt) : Type 0 where
  pub within : a.at ≤ length journal
  pub has : has_receiver a.sub receiver (take a.at journal) ≡ true
  pub lives : is_update a.made.body ≡ true → has_ended a.sub (take a.at journal) ≡ false
