use Rattle.std.proofs.Common.{[], ◌∷◌, arith}
use Rattle.yp_mirror.specs.Stories.{story_of}
use Rattle.yp_attempt.specs.Attempts.{replay}
use Rattle.yp_attempt.specs.Runs.{first_run}
use Rattle.yp_moment.specs.Entries.{moments_of}
use Rattle.yp_moment.specs.Windows.{recorded}
use Rattle.yp_moment.proofs.Naming.{AttemptsTell, attempt_readable}
use Rattle.yp_moment.proofs.laws.attempts_name_nothing_unreadable.Goals as goal

pub returns : goal.returns
returns c =
    let told = c.every_attempt_tells_of_what_was_selected.ensures in
    let laws : AttemptsTell = record { made = told.made; from = told.from; offered = told.offered; steady = c.nothing_else_changes_while_an_attempt_waits.ensures } in
    let conceals = c.a_window_conceals.ensures in
    let runs = c.what_a_legal_journal_makes_is_a_run_of_its_story.ensures in
    record {
      made = λ nodes receivers entries receiver answers schema legal id before a is.
          let run = (replay recorded (receiver ∷ []) first_run (moments_of nodes receivers entries) answers).run in
          let of = runs nodes receivers entries receiver answers schema legal in
          let story = story_of (moments_of nodes receivers entries) receiver in
          attempt_readable laws conceals nodes receivers entries receiver run of id before a is a.made.position (omega arith) (told.offered recorded story receiver run of id before a is);
      offered = λ nodes receivers entries receiver answers schema legal id before a is.
          let run = (replay recorded (receiver ∷ []) first_run (moments_of nodes receivers entries) answers).run in
          let of = runs nodes receivers entries receiver answers schema legal in
          let story = story_of (moments_of nodes receivers entries) receiver in
          attempt_readable laws conceals nodes receivers entries receiver run of id before a is a.at (told.offered recorded story receiver run of id before a is) (omega arith);
    }
