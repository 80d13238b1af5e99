-- What an entry of a journal is to feeds, and which entries may follow others (RFC 8639 section 2.4, RFC 8641 section 3.3).
use Rattle.std.specs.Prelude.{◌≡◌, ℕ, ◌≤◌, ◌==◌, Bool, true, false, not, List, [], ◌∷◌, ◌++◌, None, if◌then◌else◌}
use Rattle.yp_base.specs.declared.row.Row.{Row}
use Rattle.yp_base.specs.declared.notice.Trigger.{Trigger}
use Rattle.yp_feed.specs.declared.item.Control.{Control}
use Rattle.yp_feed.specs.declared.item.Control.TheVariants.{Rules}
use Rattle.yp_feed.specs.Machine.{started, controlled, restarts}
use Rattle.yp_attempt.specs.Content.{Content}
use Rattle.yp_attempt.specs.Tracks.{Track, with_feed, freeze_tried}

-- what an entry does to subscriptions: nothing; it starts one, with a feed for each receiver that it names; something happens to the feeds of one; or it drops one, of which nothing more is told
pub data Act : Type 0 where
  Quiet : Act
  Starts : (sub : ℕ) → (trigger : Trigger) → (configured : Bool) → (names : ℕ → Bool) → Act
  Controls : (sub : ℕ) → (control : Control) → Act
  Drops : (sub : ℕ) → Act

-- an entry: its stamp, its act, whether the own rules of a receiver's user change by it, and what a subscription selects for a receiver after it
pub record Moment : Type 0 where
  pub stamp : ℕ
  pub act : Act
  pub rules : ℕ → Bool
  pub selection : ℕ → ℕ → List Row

-- ---- what becomes of a track

-- the window is one selection longer
abbrev pub with_selection : Moment → Track → Track
with_selection m track = record track { later = track.later ++ m.selection track.feed.sub track.feed.receiver ∷ [] }

-- what happens to its feed at a position and a tick
abbrev pub with_control : ℕ → ℕ → Control → Track → Track
with_control n stamp control track = with_feed track (controlled track.feed control n stamp) (restarts track.feed control)

-- a track after an act
abbrev pub after_act : ℕ → ℕ → Act → Track → Track
after_act n stamp Quiet track = track
after_act n stamp (Starts sub trigger configured names) track = track
after_act n stamp (Controls sub control) track = if track.feed.sub == sub then with_control n stamp control track else track
after_act n stamp (Drops sub) track = track

-- a track after a change of rules, where it is its receiver's user whose rules change
abbrev pub after_rules : ℕ → Moment → Track → Track
after_rules n m track = if m.rules track.feed.receiver then with_control n m.stamp Rules track else track

-- a track after an entry: the new selection, the act, the change of rules, and then the record is set aside where the rule for it holds
abbrev pub after_moment : Content → Moment → ℕ → Track → Track
after_moment c m n track = freeze_tried c n m.stamp (after_rules n m (after_act n m.stamp m.act (with_selection m track)))

-- whether an act leaves a track
abbrev pub is_kept_by : Act → Track → Bool
is_kept_by Quiet track = true
is_kept_by (Starts sub trigger configured names) track = true
is_kept_by (Controls sub control) track = true
is_kept_by (Drops sub) track = not (track.feed.sub == sub)

-- the track of a subscription that starts, for one receiver
abbrev pub new_track : Moment → ℕ → ℕ → Trigger → Bool → ℕ → Track
new_track m n sub trigger configured receiver = record {
  feed = started (record { sub = sub; receiver = receiver; configured = configured; trigger = trigger }) n m.stamp;
  first = m.selection sub receiver;
  later = [];
  frozen = None;
}

-- ---- which entries may follow others

-- the stamp of the last entry, or another one where there is none
abbrev pub last_stamp : ℕ → List Moment → ℕ
last_stamp stamp [] = stamp
last_stamp stamp (m ∷ moments) = last_stamp m.stamp moments

-- whether an act starts this subscription
abbrev pub starts_sub : Act → ℕ → Bool
starts_sub Quiet sub = false
starts_sub (Starts other trigger configured names) sub = sub == other
starts_sub (Controls other control) sub = false
starts_sub (Drops other) sub = false

-- whether entries started it
abbrev pub was_started : List Moment → ℕ → Bool
was_started [] sub = false
was_started (m ∷ moments) sub = if starts_sub m.act sub then true else was_started moments sub

-- the id of a subscription that an act starts was given to none before
abbrev pub IsUnused : List Moment → Act → Type 0
IsUnused past Quiet = Unit {0}
IsUnused past (Starts sub trigger configured names) = was_started past sub ≡ false
IsUnused past (Controls sub control) = Unit {0}
IsUnused past (Drops sub) = Unit {0}

-- an entry that may come after others: stamps don't fall, and no id is given twice
pub record MayFollow (past : List Moment) (m : Moment) : Type 0 where
  pub stamp : last_stamp 0 past ≤ m.stamp
  pub unused : IsUnused past m.act

-- entries of which each may come after those before it
abbrev pub AllMayFollow : List Moment → List Moment → Type 0
AllMayFollow past [] = Unit {0}
AllMayFollow past (m ∷ moments) = MayFollow past m × AllMayFollow (past ++ m ∷ []) moments
