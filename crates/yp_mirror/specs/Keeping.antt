-- What a feed keeps, by what it owes (RFC 8641 sections 3.3 and 3.11.1).
use Rattle.std.specs.Prelude.{◌≡◌, ℕ, true, false, ◌||◌, List, Some}
use Rattle.yp_feed.specs.Machine.{is_on_change}
use Rattle.yp_attempt.specs.Content.{Content}
use Rattle.yp_attempt.specs.Tracks.{Attempt, Frozen, Track}
use Rattle.yp_mirror.specs.Heard.{of_sub, told_by}
use Rattle.yp_mirror.specs.Stories.{Steady, Story}

-- where neither all that is selected nor the end is owed, nothing changed since the base what the subscription asks for, or the rules of its user
abbrev pub IsSteadySinceBase : Story → ℕ → Track → Type 0
IsSteadySinceBase story position track = (track.feed.owed.sync || track.feed.owed.terminated) ≡ false → Steady story track.feed.sub track.feed.base position

-- and the base of a mirrored one on change is the position at which the last update was made that was taken
abbrev pub HasUpdateAtBase : Content → Story → List Attempt → Track → Type 0
HasUpdateAtBase c story done track = story.mirrored track.feed.sub ≡ true → is_on_change track.feed.trigger ≡ true → (track.feed.owed.sync || track.feed.owed.terminated) ≡ false → (told_by c (of_sub track.feed.sub done)).last ≡ Some track.feed.base

-- a record that is set aside of a mirrored one begins at the position at which the last update was made that was taken
abbrev pub KeepsFromUpdate : Content → Story → List Attempt → Track → Type 0
KeepsFromUpdate c story done track = (frozen : Frozen) → track.frozen ≡ Some frozen → story.mirrored track.feed.sub ≡ true → (told_by c (of_sub track.feed.sub done)).last ≡ Some frozen.from
