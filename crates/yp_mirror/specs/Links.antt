-- What ties a track to the attempts of its feed, and what holds of a whole run of one receiver.
use Rattle.std.specs.Prelude.{◌≡◌, ℕ, ◌<◌, ◌≤◌, ◌==◌, min, Bool, true, false, ◌||◌, List, [], ◌∷◌, ◌++◌, length, Option, Some, None}
use Rattle.std.specs.List.{AllByRecursion}
use Rattle.yp_base.specs.declared.row.Row.{Row}
use Rattle.yp_feed.specs.Machine.{resyncs, is_mirrored, is_on_change}
use Rattle.yp_attempt.specs.Content.{Content, IsLawful}
use Rattle.yp_attempt.specs.Tracks.{Track, Frozen, Attempt, Answer, current}
use Rattle.yp_attempt.specs.Moments.{Moment, last_stamp, was_started}
use Rattle.yp_attempt.specs.Runs.{Run, Reaches}
use Rattle.yp_mirror.specs.Heard.{Told, told_by, told_nothing, of_sub}
use Rattle.yp_mirror.specs.Stories.{Story, Steady, IsWantedBetween, Leads, IsStory}
use Rattle.yp_mirror.specs.Following.{IsAtMost, TellsWindow, AllFollow}

-- ---- one track

-- a record that was set aside: it is of what was selected from where it begins to where it was made; it begins where the last update was made that was taken, it leads from the receiver's copy to what was selected where it was made, and nothing changed since; all that is selected is owed after it (RFC 8641 section 3.11.1)
pub record IsFrozen (c : Content) (story : Story) (sub n k : ℕ) (sync terminated : Bool) (rows : List Row) (last : Option ℕ) (frozen : Frozen) : Type 0 where
  pub made : TellsWindow c story sub frozen.from frozen.position frozen.edits
  pub begins : frozen.from ≤ frozen.position
  pub past : frozen.position ≤ n
  pub rises : IsAtMost last frozen.position
  pub from : story.mirrored sub ≡ true → last ≡ Some frozen.from
  pub leads : story.mirrored sub ≡ true → c.received rows frozen.edits ≡ story.want sub frozen.position
  pub steady : Steady story sub frozen.from k
  pub syncs : story.resyncing sub ≡ true → sync ≡ true
  pub lives : terminated ≡ false

-- a record is set aside exactly where it is owed
abbrev pub FrozenFits : Content → Story → ℕ → ℕ → ℕ → Bool → Bool → List Row → Option ℕ → Bool → Option Frozen → Type 0
FrozenFits c story sub n k sync terminated rows last true (Some frozen) = IsFrozen c story sub n k sync terminated rows last frozen
FrozenFits c story sub n k sync terminated rows last true None = ⊥
FrozenFits c story sub n k sync terminated rows last false (Some frozen) = ⊥
FrozenFits c story sub n k sync terminated rows last false None = Unit {0}

-- the copy is what was selected where the last update was made that was taken
abbrev pub IsFreshCopy : Story → ℕ → List Row → Option ℕ → Type 0
IsFreshCopy story sub rows None = Unit {0}
IsFreshCopy story sub rows (Some position) = rows ≡ story.want sub position

-- a track at position n and a stamp, with what its receiver was told; of changes past position k nothing is said
pub record Linked (c : Content) (story : Story) (receiver n k stamp : ℕ) (track : Track) (t : Told) : Type 0 where
  -- it is the receiver's, and its subscription is what the story tells
  pub mine : track.feed.receiver ≡ receiver
  pub mirrored : story.mirrored track.feed.sub ≡ is_mirrored track.feed.trigger
  pub resyncing : story.resyncing track.feed.sub ≡ resyncs track.feed.trigger
  -- its window goes from what was selected at its base, by what was selected since, to what is selected now
  pub current : current track ≡ story.want track.feed.sub n
  pub first : track.first ≡ story.want track.feed.sub track.feed.base
  pub window : AllByRecursion (IsWantedBetween story track.feed.sub track.feed.base n) track.later
  pub base : track.feed.base ≤ n
  -- the copy is what was selected at the last update, which was made at the base where neither a full update nor the end is owed
  pub last : story.mirrored track.feed.sub ≡ true → is_on_change track.feed.trigger ≡ true → (track.feed.owed.sync || track.feed.owed.terminated) ≡ false → t.last ≡ Some track.feed.base
  pub copy : story.mirrored track.feed.sub ≡ true → IsFreshCopy story track.feed.sub t.rows t.last
  pub rises : IsAtMost t.last n
  pub steady : (track.feed.owed.sync || track.feed.owed.terminated) ≡ false → Steady story track.feed.sub track.feed.base k
  pub frozen : FrozenFits c story track.feed.sub n k track.feed.owed.sync track.feed.owed.terminated t.rows t.last track.feed.owed.incomplete track.frozen
  pub plain : resyncs track.feed.trigger ≡ false → track.feed.owed.sync ≡ false
  -- full answers are counted
  pub tries : track.feed.tries ≡ min 8 t.fulls
  pub last_full : track.feed.last_full ≡ t.last_full
  pub stamps : IsAtMost t.last_full stamp
  pub counted : 0 < t.fulls → t.met_full ≡ true
  -- at eight it is suspended or ends; what is suspended has still to go on, and then to send all that is selected
  pub eight : track.feed.tries ≡ 8 → (track.feed.suspended || track.feed.owed.terminated) ≡ true
  pub held : track.feed.suspended ≡ true → (track.feed.owed.resumed || track.feed.owed.terminated) ≡ true
  pub held_sync : story.resyncing track.feed.sub ≡ true → track.feed.suspended ≡ true → (track.feed.owed.sync || track.feed.owed.terminated) ≡ true
  pub held_none : track.feed.suspended ≡ true → track.feed.owed.incomplete ≡ false
  -- so has a receiver that must be sent it
  pub awaits : story.resyncing track.feed.sub ≡ true → t.awaits ≡ true → (track.feed.owed.sync || track.feed.owed.terminated) ≡ true
  pub awaits_none : story.resyncing track.feed.sub ≡ true → t.awaits ≡ true → track.feed.owed.incomplete ≡ false
  -- an incomplete update is owed after a full answer, and a suspension after eight in a row
  pub after_full : track.feed.owed.incomplete ≡ true → t.met_full ≡ true
  pub after_eight : track.feed.owed.suspended ≡ true → t.met_eight ≡ true

-- ---- a run of one receiver

-- a track of a run, with what the attempts of its subscription told
abbrev pub LinkedIn : Content → Story → ℕ → ℕ → ℕ → List Attempt → Track → Type 0
LinkedIn c story receiver n stamp done track = Linked c story receiver n n stamp track (told_by c (of_sub track.feed.sub done))

-- no two of these tracks are of one subscription
abbrev pub HaveOwnSubs : List Track → Type 0
HaveOwnSubs [] = Unit {0}
HaveOwnSubs (track ∷ tracks) = AllByRecursion (λ other. (other.feed.sub == track.feed.sub) ≡ false) tracks × HaveOwnSubs tracks

-- a run to which these entries lead: its subscriptions were started by them, its tracks are linked, and its attempts follow, also those of subscriptions that are gone
pub record RunIsLinked (c : Content) (story : Story) (receiver : ℕ) (past : List Moment) (run : Run) : Type 0 where
  pub position : run.standing.position ≡ length past
  pub stamp : run.standing.stamp ≡ last_stamp 0 past
  pub started_tracks : AllByRecursion (λ track. was_started past track.feed.sub ≡ true) run.standing.tracks
  pub started_attempts : AllByRecursion (λ a. was_started past a.sub ≡ true) run.done
  pub own_subs : HaveOwnSubs run.standing.tracks
  pub linked : AllByRecursion (LinkedIn c story receiver run.standing.position run.standing.stamp run.done) run.standing.tracks
  pub follow : (sub : ℕ) → AllFollow c story sub told_nothing (of_sub sub run.done)

-- a run of one receiver over a journal of this story, up to one of its entries, with lawful content whose records lead
pub record IsRunOf (c : Content) (story : Story) (receiver : ℕ) (run : Run) : Type 0 where
  pub lawful : IsLawful c
  pub leads : Leads c story
  pub journal : List Moment
  pub tells : IsStory story receiver journal
  pub past : List Moment
  pub rest : List Moment
  pub within : past ++ rest ≡ journal
  pub answers : List Answer
  pub reaches : Reaches c (receiver ∷ []) past answers run

-- an attempt of a run for a subscription, after these attempts for it
pub record IsAttemptOf (run : Run) (sub : ℕ) (before : List Attempt) (a : Attempt) : Type 0 where
  pub later : List Attempt
  pub parts : of_sub sub run.done ≡ before ++ a ∷ later
