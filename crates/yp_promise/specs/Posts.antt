-- What stands between the worker of a serial run and each receiver: what the receiver's queue accepted it took, or it stands there.
use Rattle.std.specs.Prelude.{◌≡◌, ℕ, ◌+◌, ◌≤◌, true, List, length}
use Rattle.std.specs.List.{slice_get}
use Rattle.yp_journal.specs.declared.receiver.ReceiverInfo.{ReceiverInfo}
use Rattle.yp_attempt.specs.Attempts.{taken_of}
use Rattle.yp_serial.specs.Serial.{Served}
use Rattle.yp_promise.specs.Serving.{places_of, takes_itself}
use Rattle.yp_promise.specs.Shown.{offered_to}

-- of the receiver of this number: what its queue accepted is as many as it took and as stand there; no more stand there than may, and none where it takes each packet at once
pub record HasPost (receivers : List ReceiverInfo) (served : Served) (number : ℕ) : Type 0 where
  pub parts : length (taken_of (offered_to number served)) ≡ (served.posts number).taken + (served.posts number).held
  pub fits : (served.posts number).held ≤ places_of (slice_get receivers number)
  pub none : takes_itself (slice_get receivers number) ≡ true → (served.posts number).held ≡ 0

-- the same of each receiver
abbrev pub HavePosts : List ReceiverInfo → Served → Type 0
HavePosts receivers served = (number : ℕ) → HasPost receivers served number
