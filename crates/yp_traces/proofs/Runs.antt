-- The runs of workers, of which one is further, and the parts of a run that come before others.
use Rattle.std.proofs.Common.{◌≡◌, ℕ, refl, sym, ap, subst, ◌∙◌, Bool, true, false, List, [], ◌∷◌, ◌++◌, length, Some, append_assoc}
use Rattle.std.specs.Prelude.{if◌then◌else◌, ◌==◌}
use Rattle.std.specs.List.{slice_get}
use Rattle.std.proofs.lemmas.List.Elements.{filter-append}
use Rattle.yp_attempt.specs.Attempts.{of_receiver}
use Rattle.yp_attempt.specs.Moments.{Moment}
use Rattle.yp_attempt.specs.Runs.{Found, Run, Standing, run_settled}
use Rattle.yp_attempt.specs.Tracks.{Answer, Attempt}
use Rattle.yp_attempt.specs.Attempts.{FillsFirst}
use Rattle.yp_world.specs.TakenLaws.{number_is}
use Rattle.yp_world.specs.World.{Delivery, Setup, worker_of}
use Rattle.yp_traces.proofs.Filling.{IsFilled}
use Rattle.yp_traces.proofs.Following.{attempt_by}

-- ---- the runs of workers

-- one worker has this run
abbrev pub with_run : ℕ → Run → (ℕ → Run) → ℕ → Run
with_run worker run runs x = if worker == x then run else runs x

-- where each worker stands
abbrev pub standing_in : (ℕ → Run) → ℕ → Standing
standing_in runs x = (runs x).standing

-- what a receiver was offered
abbrev pub offered_to : Setup → (ℕ → Run) → ℕ → List Attempt
offered_to setup runs receiver = of_receiver receiver (runs (worker_of setup receiver)).done

-- its delivery
abbrev pub Fills : Setup → (ℕ → Run) → ℕ → Delivery → Type 0
Fills setup runs receiver delivery = IsFilled (offered_to setup runs receiver) delivery

-- that of any other receiver
abbrev pub OthersFill : Setup → (ℕ → Run) → ℕ → ℕ → Delivery → Type 0
OthersFill setup runs receiver x delivery = (receiver == x) ≡ false → Fills setup runs x delivery

pub own_run : (worker x : ℕ) (run : Run) (runs : ℕ → Run) → x ≡ worker → with_run worker run runs x ≡ run
own_run worker x run runs is = ap (with_run worker run runs) is ∙ ap (λ (b : Bool). if b then run else runs worker) (number_is worker)

pub own_standing : (worker : ℕ) (run : Run) (runs : ℕ → Run) → run.standing ≡ standing_in (with_run worker run runs) worker
own_standing worker run runs = ap (λ (x : Run). x.standing) (sym (own_run worker worker run runs refl))

-- the others stand where they stood
pub other_standing : (worker x : ℕ) (run next : Run) (runs : ℕ → Run) → (worker == x) ≡ false → standing_in (with_run worker run runs) x ≡ standing_in (with_run worker next runs) x
other_standing worker x run next runs other =
    ap (λ (b : Bool). (if b then run else runs x).standing) other ∙ sym (ap (λ (b : Bool). (if b then next else runs x).standing) other)

-- a receiver for whom the run has no attempt more was offered the same
pub same_offered : (setup : Setup) (worker x : ℕ) (run next : Run) (runs : ℕ → Run) → of_receiver x run.done ≡ of_receiver x next.done → offered_to setup (with_run worker run runs) x ≡ offered_to setup (with_run worker next runs) x
same_offered setup worker x run next runs same = by (worker == worker_of setup x)
  where
    by : (b : Bool) → of_receiver x (if b then run else runs (worker_of setup x)).done ≡ of_receiver x (if b then next else runs (worker_of setup x)).done
    by true = same
    by false = refl

-- ---- attempts before others

first_fulls : (places : ℕ) (offered later : List Attempt) → FillsFirst places (offered ++ later) → FillsFirst places offered
first_fulls places offered later fulls before a after is full =
    fulls before a (after ++ later) (ap (λ (xs : List Attempt). xs ++ later) is ∙ append_assoc before (a ∷ after) later) full

-- each queue was full only where it could be
abbrev pub Fulls : Setup → Run → Type 0
Fulls setup run = (receiver places : ℕ) → slice_get setup.places receiver ≡ Some places → FillsFirst places (of_receiver receiver run.done)

pub earlier_fulls : (setup : Setup) (run : Run) (found : Found) (answer : Answer) → Fulls setup (run_settled setup.content run found answer) → Fulls setup run
earlier_fulls setup run found answer fulls receiver places at =
    let a : Attempt = attempt_by setup run.standing found answer in
    first_fulls places (of_receiver receiver run.done) (of_receiver receiver (a ∷ []))
    (subst (λ (xs : List Attempt). FillsFirst places xs) (filter-append (λ (x : Attempt). x.receiver == receiver) run.done (a ∷ [])) (fulls receiver places at))

-- ---- entries before others

pub next_there : (past : List Moment) (m : Moment) (rest : List Moment) → slice_get (past ++ m ∷ rest) (length past) ≡ Some m
next_there [] m rest = refl
next_there (x ∷ past) m rest = next_there past m rest
