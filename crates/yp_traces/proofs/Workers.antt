-- Workers do their work one after the other, from a world in which the journal is whole and no worker has begun.
use Rattle.std.proofs.Common.{◌≡◌, ℕ, zero, suc, ◌<◌, ◌≤◌, refl, sym, ap, subst, ◌∙◌, Bool, true, false, List, [], length, Option, Some, None, arith, append-nil}
use Rattle.std.specs.Prelude.{if◌then◌else◌, ◌==◌}
use Rattle.std.specs.List.{AllByRecursion, slice_get}
use Rattle.std.proofs.lemmas.Bool.{eqb-true}
use Rattle.yp_base.specs.Elements.{get_map}
use Rattle.yp_attempt.specs.Attempts.{answers_in}
use Rattle.yp_attempt.specs.Moments.{Moment}
use Rattle.yp_attempt.specs.Runs.{Run, first_run}
use Rattle.yp_traces.specs.Traces.{IsWorkOf}
use Rattle.yp_world.specs.World.{Delivery, Setup, World, first_delivery, first_world}
use Rattle.yp_attempt.specs.RunLaws.{FindsFirst}
use Rattle.yp_world.specs.Holding.{Holds}
use Rattle.yp_attempt.specs.ElementLaws.{get_below, get_replicate}
use Rattle.yp_traces.proofs.Appending.{with_journal}
use Rattle.yp_traces.proofs.Filling.{IsFilled}
use Rattle.yp_traces.proofs.Following.{ComesTo, IsAt, stays, then_comes}
use Rattle.yp_traces.proofs.Runs.{Fills, standing_in, with_run}
use Rattle.yp_traces.proofs.Working.{works}

-- ---- the first runs

-- the run of a worker, if there is one
abbrev pub run_of : Option Run → Run
run_of None = first_run
run_of (Some run) = run

-- the first workers have their runs, the others have not begun
abbrev pub runs_below : List Run → ℕ → ℕ → Run
runs_below runs zero x = first_run
runs_below runs (suc n) x = with_run n (run_of (slice_get runs n)) (runs_below runs n) x

not_begun : (runs : List Run) (n x : ℕ) → n ≤ x → runs_below runs n x ≡ first_run
not_begun runs zero x past = refl
not_begun runs (suc n) x past =
    let other : (n == x) ≡ false = grind (arith, past) in
    ap (λ (b : Bool). if b then run_of (slice_get runs n) else runs_below runs n x) other ∙ not_begun runs n x (omega (arith, past))

pub has_run : (runs : List Run) (n x : ℕ) → x < n → runs_below runs n x ≡ run_of (slice_get runs x)
has_run runs zero x less = absurd (omega (arith, less))
has_run runs (suc n) x less = by (n == x) refl (λ few. has_run runs n x few)
  where
    by : (b : Bool) → (n == x) ≡ b → (x < n → runs_below runs n x ≡ run_of (slice_get runs x)) → (if b then run_of (slice_get runs n) else runs_below runs n x) ≡ run_of (slice_get runs x)
    by true e earlier = ap (λ (y : ℕ). run_of (slice_get runs y)) (eqb-true n x e)
    by false e earlier = let few : x < n = grind (arith, e, less) in earlier few

-- a worker that has not begun has the first run
still_first : (runs : List Run) (n : ℕ) → runs_below runs n ≡ with_run n first_run (runs_below runs n)
still_first runs n = λ i x. by x (n == x) refl i
  where
    by : (x : ℕ) (b : Bool) → (n == x) ≡ b → runs_below runs n x ≡ (if b then first_run else runs_below runs n x)
    by x true e = let past : n ≤ x = grind (arith, e) in not_begun runs n x past
    by x false e = refl

-- ---- where no worker has begun

pub begins : (setup : Setup) → Holds setup (first_world setup) → (journal : List Moment) (runs : List Run) → IsAt setup journal (standing_in (runs_below runs 0)) (Fills setup (runs_below runs 0)) (with_journal (first_world setup) journal)
begins setup first journal runs = record {
  appended = refl;
  workers = first.workers;
  standings = λ worker standing at. get_replicate setup.workers worker first_run.standing standing at;
  places = first.places;
  delivers = λ receiver delivery at.
      let it = get_map first_delivery setup.places receiver delivery at in
      subst (λ (d : Delivery). IsFilled [] d) it.2 (record { sent = record { answers = refl; accepted = refl }; stand = omega arith });
}

-- ---- one after the other

module _ (finds : FindsFirst) (setup : Setup) (some : AllByRecursion (λ places. 1 ≤ places) setup.places) (journal : List Moment) (runs : List Run) (many : length runs ≡ setup.workers)
    (work : (worker : ℕ) (run : Run) → slice_get runs worker ≡ Some run → IsWorkOf setup journal worker run) where
  abbrev IsBelow : ℕ → World → Type 0
  IsBelow n world = IsAt setup journal (standing_in (runs_below runs n)) (Fills setup (runs_below runs n)) world

  abbrev ComesBelow : ℕ → World → Type 0
  ComesBelow n world = ComesTo setup journal (standing_in (runs_below runs n)) (Fills setup (runs_below runs n)) world

  abbrev ComesBy : ℕ → Run → World → Type 0
  ComesBy n run world = ComesTo setup journal (standing_in (with_run n run (runs_below runs n))) (Fills setup (with_run n run (runs_below runs n))) world

  next_works : (n : ℕ) → n < setup.workers → (world : World) → IsBelow n world → ComesBelow (suc n) world
  next_works n less world h =
      let its = get_below runs n (omega (arith, many, less)) in
      let run : Run = its.0 in
      let is : IsWorkOf setup journal n run = work n run its.1 in
      let from = subst (λ (rs : ℕ → Run). IsAt setup journal (standing_in rs) (Fills setup rs) world) (still_first runs n) h in
      subst (λ (o : Option Run). ComesBy n (run_of o) world) (sym its.1)
      (works finds setup some journal n less (runs_below runs n) world from journal (answers_in run.done) run is.reaches [] (append-nil journal) is.fulls)

  pub all_work : (world : World) → IsBelow 0 world → (n : ℕ) → n ≤ setup.workers → ComesBelow n world
  all_work world h zero few = stays h
  all_work world h (suc n) few =
      then_comes (all_work world h n (omega (arith, few))) (λ later is. next_works n (omega (arith, few)) later is)
