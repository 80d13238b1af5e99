-- What a journal tells of a receiver's subscriptions (RFC 8641 sections 3.1 and 3.3, RFC 8639 section 2.4).
use Rattle.std.specs.Prelude.{◌≡◌, ℕ, ◌+◌, ◌<◌, ◌≤◌, ◌==◌, Bool, true, false, ◌||◌, List, [], ◌∷◌, ◌++◌, length, take, Option, Some, None, if◌then◌else◌}
use Rattle.std.specs.List.{AllByRecursion}
use Rattle.yp_base.specs.declared.row.Row.{Row}
use Rattle.yp_base.specs.Rows.{last_of}
use Rattle.yp_base.specs.declared.notice.Kinds.{Kinds}
use Rattle.yp_base.specs.declared.notice.Trigger.{Trigger}
use Rattle.yp_feed.specs.Machine.{is_mirrored, resyncs, excludes_none}
use Rattle.yp_attempt.specs.Content.{Content}
use Rattle.yp_attempt.specs.Moments.{Moment, Act, Quiet, Starts, Controls, Drops}

-- of a subscription: what it selects for the receiver at a position; whether the receiver's copy is to be that, and whether it resynchronises; and whether the entry at a position changes what it asks for or the rules of the receiver's user
pub record Story : Type 0 where
  pub want : ℕ → ℕ → List Row
  pub mirrored : ℕ → Bool
  pub resyncing : ℕ → Bool
  pub changes : ℕ → ℕ → Bool

-- after one position, up to another, nothing changes that
abbrev pub Steady : Story → ℕ → ℕ → ℕ → Type 0
Steady story sub from to = (n : ℕ) → from < n → n ≤ to → story.changes sub n ≡ false

-- what a subscription selects at a position from one to another
abbrev pub IsWantedBetween : Story → ℕ → ℕ → ℕ → List Row → Type 0
IsWantedBetween story sub from to rows = (k : ℕ) × (from ≤ k) × (k ≤ to) × (rows ≡ story.want sub k)

-- where no kind is excluded, a record of what a subscription selected at some positions leads from the first selection to the last
pub record Leads (c : Content) (story : Story) : Type 0 where
  pub leads : (sub from to : ℕ) (kinds : Kinds) → excludes_none kinds ≡ true → (first : List Row) (later : List (List Row)) → IsWantedBetween story sub from to first → AllByRecursion (IsWantedBetween story sub from to) later
      → c.received first (c.window_record kinds first later) ≡ last_of first later

-- whether an act is a modification, a resynchronisation or an end of a subscription
abbrev pub is_control_of : ℕ → Act → Bool
is_control_of sub Quiet = false
is_control_of sub (Starts other trigger configured names) = false
is_control_of sub (Controls other control) = sub == other
is_control_of sub (Drops other) = false

-- ---- when a story is that of a journal

-- a subscription that starts is mirrored and resynchronises by its trigger
abbrev pub StartsAs : Story → Act → Type 0
StartsAs story Quiet = Unit {0}
StartsAs story (Starts sub trigger configured names) = (story.mirrored sub ≡ is_mirrored trigger) × (story.resyncing sub ≡ resyncs trigger)
StartsAs story (Controls sub control) = Unit {0}
StartsAs story (Drops sub) = Unit {0}

-- the story tells of an entry at a position
pub record TellsEntry (story : Story) (receiver n : ℕ) (m : Moment) : Type 0 where
  pub selection : (sub : ℕ) → m.selection sub receiver ≡ story.want sub n
  pub changes : (sub : ℕ) → story.changes sub n ≡ (is_control_of sub m.act || m.rules receiver)
  pub starts : StartsAs story m.act

-- it tells of each entry of a journal, the first of which is at position 1
abbrev pub IsStory : Story → ℕ → List Moment → Type 0
IsStory story receiver journal = (past : List Moment) (m : Moment) (rest : List Moment) → past ++ m ∷ rest ≡ journal → TellsEntry story receiver (length past + 1) m

-- ---- the story of a journal

-- what a subscription selects after the last of these entries
abbrev pub want_after : ℕ → ℕ → List Row → List Moment → List Row
want_after receiver sub rows [] = rows
want_after receiver sub rows (m ∷ moments) = want_after receiver sub (m.selection sub receiver) moments

-- whether the last of these entries changes what it asks for or the rules
abbrev pub changes_after : ℕ → ℕ → Bool → List Moment → Bool
changes_after receiver sub changed [] = changed
changes_after receiver sub changed (m ∷ moments) = changes_after receiver sub (is_control_of sub m.act || m.rules receiver) moments

-- the trigger with which an act starts a subscription
abbrev pub trigger_of : ℕ → Act → Option Trigger
trigger_of sub Quiet = None
trigger_of sub (Starts other trigger configured names) = if sub == other then Some trigger else None
trigger_of sub (Controls other control) = None
trigger_of sub (Drops other) = None

-- a trigger, or else another one
abbrev pub or_later : Option Trigger → Option Trigger → Option Trigger
or_later None later = later
or_later (Some trigger) later = Some trigger

-- the trigger with which entries start it
abbrev pub trigger_in : ℕ → List Moment → Option Trigger
trigger_in sub [] = None
trigger_in sub (m ∷ moments) = or_later (trigger_of sub m.act) (trigger_in sub moments)

-- whether there is a trigger that passes a test
abbrev pub passes : (Trigger → Bool) → Option Trigger → Bool
passes test None = false
passes test (Some trigger) = test trigger

-- what a journal tells a receiver
abbrev pub story_of : List Moment → ℕ → Story
story_of journal receiver = record {
  want = λ sub n. want_after receiver sub [] (take n journal);
  mirrored = λ sub. passes is_mirrored (trigger_in sub journal);
  resyncing = λ sub. passes resyncs (trigger_in sub journal);
  changes = λ sub n. changes_after receiver sub false (take n journal);
}
