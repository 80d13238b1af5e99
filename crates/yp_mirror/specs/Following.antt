-- What is promised of each attempt of a subscription: of which selections it tells, and how it follows what its receiver was told before it (RFC 8641 sections 3.1, 3.7 and 3.11, RFC 8639 section 2.7).
use Rattle.std.specs.Prelude.{◌≡◌, ℕ, ◌<◌, ◌≤◌, Bool, true, false, List, [], ◌∷◌, Option, Some, None}
use Rattle.std.specs.List.{AllByRecursion}
use Rattle.yp_base.specs.declared.row.Row.{Row}
use Rattle.yp_base.specs.declared.notice.Change.{Change}
use Rattle.yp_base.specs.declared.notice.Kinds.{Kinds}
use Rattle.yp_feed.specs.declared.item.Item.{Item}
use Rattle.yp_feed.specs.declared.item.Item.TheVariants.{Started, Modified, Incomplete, Suspended, Resumed, Sync, Terminated, Changes, Periodic}
use Rattle.yp_attempt.specs.Content.{Content}
use Rattle.yp_attempt.specs.Tracks.{Body, All, Edits, Marked, Notice, Made, Answer, Took, Full, Attempt}
use Rattle.yp_mirror.specs.Heard.{Told, heard}
use Rattle.yp_mirror.specs.Stories.{Story, Steady, IsWantedBetween}

-- a position, if there is one, is not past another
abbrev pub IsAtMost : Option ℕ → ℕ → Type 0
IsAtMost None n = Unit {0}
IsAtMost (Some k) n = k ≤ n

-- a stamp, if there is one, is less than another
abbrev pub IsLessThan : Option ℕ → ℕ → Type 0
IsLessThan None stamp = Unit {0}
IsLessThan (Some tick) stamp = tick < stamp

-- ---- what an attempt is made of

-- edits are the record of a window: of what was selected at positions from one to another, without edits of excluded kinds
pub record TellsWindow (c : Content) (story : Story) (sub from to : ℕ) (changes : List Change) : Type 0 where
  pub kinds : Kinds
  pub first : List Row
  pub later : List (List Row)
  pub begins : IsWantedBetween story sub from to first
  pub goes_on : AllByRecursion (IsWantedBetween story sub from to) later
  pub edits : changes ≡ c.window_record kinds first later

-- a body that tells from one position, and was made at another: all that was selected where it was made, and then it tells from there; or edits of what was selected from the one to the other
abbrev pub IsBodyOf : Content → Story → ℕ → ℕ → ℕ → Body → Type 0
IsBodyOf c story sub from position (All rows) = (rows ≡ story.want sub position) × (from ≡ position)
IsBodyOf c story sub from position (Edits edits) = TellsWindow c story sub from position edits
IsBodyOf c story sub from position (Marked edits) = TellsWindow c story sub from position edits
IsBodyOf c story sub from position (Notice item) = Unit {0}

-- what was made tells of what was selected at the positions that it names
abbrev pub IsMadeOf : Content → Story → ℕ → Made → Type 0
IsMadeOf c story sub made = IsBodyOf c story sub made.from made.position made.body

-- ---- what follows what was told

-- an update that is taken leaves these rows: they are what was selected where it was made, which is not before the update before it; the first update of a mirrored copy is a full one; and where a full one must come, it is that, made where it was offered
pub record IsUpdate (story : Story) (sub : ℕ) (t : Told) (rows : List Row) (position at : ℕ) (whole : Bool) : Type 0 where
  pub fresh : story.mirrored sub ≡ true → rows ≡ story.want sub position
  pub rises : IsAtMost t.last position
  pub past : position ≤ at
  pub begins : story.mirrored sub ≡ true → t.last ≡ None → whole ≡ true
  pub full : story.resyncing sub ≡ true → t.awaits ≡ true → (whole ≡ true) × (rows ≡ story.want sub at) × (position ≡ at)

-- what was made at a position is taken at another one
abbrev pub IsTaken : Content → Story → ℕ → Told → ℕ → ℕ → Body → Type 0
IsTaken c story sub t position at (All rows) = IsUpdate story sub t rows position at true
IsTaken c story sub t position at (Edits edits) = IsUpdate story sub t (c.received t.rows edits) position at false
IsTaken c story sub t position at (Marked edits) = IsUpdate story sub t (c.received t.rows edits) position at false
IsTaken c story sub t position at (Notice item) = Unit {0}

-- the answer to it: a queue is full at a stamp past that of the full answer before it
abbrev pub IsAnswered : Content → Story → ℕ → Told → ℕ → ℕ → Body → ℕ → Answer → Type 0
IsAnswered c story sub t position at body stamp Took = IsTaken c story sub t position at body
IsAnswered c story sub t position at body stamp Full = IsLessThan t.last_full stamp

-- that a subscription is suspended is told after eight full answers in a row, since which it hasn't gone on (RFC 8639 section 2.7.4)
abbrev pub NoticeComesAfter : Told → Item → Type 0
NoticeComesAfter t Started = Unit {0}
NoticeComesAfter t Modified = Unit {0}
NoticeComesAfter t Incomplete = Unit {0}
NoticeComesAfter t Suspended = t.met_eight ≡ true
NoticeComesAfter t Resumed = Unit {0}
NoticeComesAfter t Sync = Unit {0}
NoticeComesAfter t Terminated = Unit {0}
NoticeComesAfter t Changes = Unit {0}
NoticeComesAfter t Periodic = Unit {0}

-- and an incomplete update comes after a full answer, since which no update was taken (RFC 8641 section 3.11.1)
abbrev pub ComesAfter : Told → Body → Type 0
ComesAfter t (All rows) = Unit {0}
ComesAfter t (Edits edits) = Unit {0}
ComesAfter t (Marked edits) = t.met_full ≡ true
ComesAfter t (Notice item) = NoticeComesAfter t item

-- an attempt: it tells of what was selected at positions up to the one at which it is offered; from the one from which it tells nothing changed what is asked for or the rules; its answer is as it should be; and so is what it comes after
pub record Follows (c : Content) (story : Story) (sub : ℕ) (t : Told) (a : Attempt) : Type 0 where
  pub made : IsMadeOf c story sub a.made
  pub within : (a.made.from ≤ a.made.position) × (a.made.position ≤ a.at)
  pub steady : Steady story sub a.made.from a.at
  pub answer : IsAnswered c story sub t a.made.position a.at a.made.body a.stamp a.answer
  pub after : ComesAfter t a.made.body

-- attempts, of which each follows what was told before it
abbrev pub AllFollow : Content → Story → ℕ → Told → List Attempt → Type 0
AllFollow c story sub t [] = Unit {0}
AllFollow c story sub t (a ∷ later) = Follows c story sub t a × AllFollow c story sub (heard c t a) later
