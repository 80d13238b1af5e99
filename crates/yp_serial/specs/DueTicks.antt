-- Triggers of which the due ticks pass: offers come to an end only where an update that was taken at a due tick is due next at a later one (RFC 8641 section 4.2).
use Rattle.std.specs.Prelude.{ℕ, ◌≤◌, List}
use Rattle.std.specs.List.{AllByRecursion}
use Rattle.yp_base.specs.declared.notice.Trigger.{Trigger}
use Rattle.yp_base.specs.declared.notice.Trigger.TheVariants.{Periodic as Every, OnChange}
use Rattle.yp_feed.specs.declared.item.Control.{Control}
use Rattle.yp_feed.specs.declared.item.Control.TheVariants.{Modify, Resync, Rules, End}
use Rattle.yp_feed.specs.Machine.{due_from}
use Rattle.yp_attempt.specs.Tracks.{Track}
use Rattle.yp_attempt.specs.Moments.{Moment, Act, Quiet, Starts, Controls, Drops}

-- from each tick on a periodic trigger has a due tick: so it is with an anchor, and not without one
abbrev pub HasDueTicks : Trigger → Type 0
HasDueTicks (Every period anchor) = (tick : ℕ) → tick ≤ due_from (Every period anchor) tick
HasDueTicks (OnChange dampening sync excluded) = Unit {0}

-- the triggers of all tracks have due ticks
abbrev pub HaveDueTicks : List Track → Type 0
HaveDueTicks tracks = AllByRecursion (λ track. HasDueTicks track.feed.trigger) tracks

-- new terms of a feed have due ticks
abbrev pub KeepsDueTicks : Control → Type 0
KeepsDueTicks (Modify trigger notify) = HasDueTicks trigger
KeepsDueTicks Resync = Unit {0}
KeepsDueTicks Rules = Unit {0}
KeepsDueTicks End = Unit {0}

-- what an act starts or modifies has due ticks
abbrev pub GivesDueTicks : Act → Type 0
GivesDueTicks Quiet = Unit {0}
GivesDueTicks (Starts sub trigger configured names) = HasDueTicks trigger
GivesDueTicks (Controls sub control) = KeepsDueTicks control
GivesDueTicks (Drops sub) = Unit {0}

-- the same of all entries of a journal
abbrev pub GiveDueTicks : List Moment → Type 0
GiveDueTicks journal = AllByRecursion (λ m. GivesDueTicks m.act) journal
