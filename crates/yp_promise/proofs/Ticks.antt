-- Each trigger that a legal journal hands to feeds has its due ticks, since it can be followed.
use Rattle.std.proofs.Common.{List, [], ◌∷◌, Some, None}
use Rattle.std.specs.Prelude.{ℕ, ℤ}
use Rattle.std.specs.List.{AllByRecursion}
use Rattle.yp_base.specs.declared.notice.Trigger.{Trigger}
use Rattle.yp_base.specs.declared.notice.Trigger.TheVariants.{Periodic, OnChange}
use Rattle.yp_feed.specs.declared.item.Control.{Control}
use Rattle.yp_feed.specs.declared.item.Control.TheVariants.{Modify, Resync, Rules, End}
use Rattle.yp_feed.specs.Machine.{IsTrigger, HasTerms}
use Rattle.yp_attempt.specs.Moments.{Moment, Act, Quiet, Starts, Controls, Drops}
use Rattle.yp_serial.specs.DueTicks.{HasDueTicks, KeepsDueTicks, GivesDueTicks, GiveDueTicks}
use Rattle.yp_moment.specs.Followed.{CanBeFollowed}

-- the law that is rested on: an anchored trigger has due ticks
abbrev pub AnchorsGiveTicks : Type 0
AnchorsGiveTicks = (period : ℕ) (anchor : ℤ) → HasDueTicks (Periodic period (Some anchor))

module _ (ticks : AnchorsGiveTicks) where
  trigger_due : (trigger : Trigger) → IsTrigger trigger → HasDueTicks trigger
  trigger_due (Periodic period (Some anchor)) is = ticks period anchor
  trigger_due (Periodic period None) is = absurd is
  trigger_due (OnChange dampening sync excluded) is = tt

  control_due : (control : Control) → HasTerms control → KeepsDueTicks control
  control_due (Modify trigger told) is = trigger_due trigger is
  control_due Resync is = tt
  control_due Rules is = tt
  control_due End is = tt

  act_due : (act : Act) → CanBeFollowed act → GivesDueTicks act
  act_due Quiet is = tt
  act_due (Starts sub trigger configured names) is = trigger_due trigger is.1
  act_due (Controls sub control) is = control_due control is
  act_due (Drops sub) is = tt

  pub all_due : (moments : List Moment) → AllByRecursion (λ m. CanBeFollowed m.act) moments → GiveDueTicks moments
  all_due [] all = tt
  all_due (m ∷ moments) all = (act_due m.act all.0, all_due moments all.1)
