-- What a report shows of the attempts for a receiver: what it took, and where its queue was full.
use Rattle.std.specs.Prelude.{ℕ, zero, suc, List, [], ◌∷◌, take, drop}
use Rattle.yp_attempt.specs.Tracks.{Answer, Took, Full, Attempt}
use Rattle.yp_attempt.specs.Attempts.{Notification, notification_of, of_receiver, taken_of}
use Rattle.yp_serial.specs.Serial.{Served}

-- ---- the receiver of a number in a serial run

-- the attempts for it
abbrev pub offered_to : ℕ → Served → List Attempt
offered_to number served = of_receiver number served.run.done

-- how many packets it took
abbrev pub count_taken : ℕ → Served → ℕ
count_taken number served = (served.posts number).taken

-- what it took of what its queue accepted
abbrev pub got_by : ℕ → Served → List Notification
got_by number served = take (count_taken number served) (taken_of (offered_to number served))

-- what stands in its queue
abbrev pub kept_for : ℕ → Served → List Notification
kept_for number served = drop (count_taken number served) (taken_of (offered_to number served))

-- ---- lines

-- what it took, or that its queue was full when something of a subscription was offered at a position
pub data Shown : Type 0 where
  Got : Notification → Shown
  FullAt : ℕ → ℕ → Shown

-- what is shown of an attempt, before what is shown of later ones, where so many packets are taken that were not shown yet; one that was accepted and not taken isn't shown
abbrev pub shown_before : Answer → ℕ → Attempt → (ℕ → List Shown) → List Shown
shown_before Took zero a later = later zero
shown_before Took (suc taken) a later = Got (notification_of a) ∷ later taken
shown_before Full taken a later = FullAt a.sub a.at ∷ later taken

-- what is shown of attempts, where so many packets of those that were accepted are taken
abbrev pub shown_of : ℕ → List Attempt → List Shown
shown_of taken [] = []
shown_of taken (a ∷ attempts) = shown_before a.answer taken a (λ left. shown_of left attempts)
