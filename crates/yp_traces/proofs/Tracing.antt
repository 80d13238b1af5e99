-- What workers did is a list of events: the journal is appended, each worker does its work, and each receiver takes what is left.
use Rattle.std.proofs.Common.{◌≡◌, ℕ, zero, suc, ◌<◌, ◌≤◌, refl, sym, ap, subst, ◌∙◌, List, [], ◌∷◌, ◌++◌, map, length, Some, arith}
use Rattle.std.specs.List.{AllByRecursion, slice_get}
use Rattle.std.proofs.lemmas.List.{length-map}
use Rattle.std.proofs.lemmas.Option.{slice_get_within}
use Rattle.yp_base.specs.Elements.{get_map}
use Rattle.yp_attempt.specs.Attempts.{of_receiver}
use Rattle.yp_attempt.specs.Moments.{AllMayFollow, Moment}
use Rattle.yp_attempt.specs.Runs.{Run, Standing}
use Rattle.yp_attempt.specs.Tracks.{Attempt}
use Rattle.yp_traces.specs.Traces.{HasTakenAll, HasTrace, IsWorkOf, IsWorldOf}
use Rattle.yp_world.specs.Holding.{Holds}
use Rattle.yp_world.specs.World.{Delivery, Setup, World, after_events, first_world, worker_of}
use Rattle.yp_attempt.specs.RunLaws.{FindsFirst}
use Rattle.yp_world.specs.EventLaws.{after_both}
use Rattle.yp_traces.proofs.Appending.{all_appended, appending, with_journal}
use Rattle.yp_traces.proofs.Following.{ComesTo, IsAt, as_many, then_comes, weaker}
use Rattle.yp_traces.proofs.Taking.{TakenBelow, all_take, has_taken_all}
use Rattle.yp_traces.proofs.Workers.{all_work, begins, has_run, run_of, runs_below}
use Rattle.yp_traces.proofs.Runs.{Fills, offered_to, standing_in}

-- lists of one length with the same elements are the same
same_elements : {X : Type 0} (xs ys : List X) → length xs ≡ length ys → ((i : ℕ) (x y : X) → slice_get xs i ≡ Some x → slice_get ys i ≡ Some y → x ≡ y) → xs ≡ ys
same_elements [] [] long same = refl
same_elements [] (y ∷ ys) long same = absurd (omega (arith, long))
same_elements (x ∷ xs) [] long same = absurd (omega (arith, long))
same_elements (x ∷ xs) (y ∷ ys) long same =
    let one : x ≡ y = same zero x y refl refl in
    let rest : xs ≡ ys = same_elements xs ys (omega (arith, long)) (λ i a b at there. same (suc i) a b at there) in
    (λ i. one i ∷ rest i)

module _ (finds : FindsFirst) (setup : Setup) (first : Holds setup (first_world setup)) (some : AllByRecursion (λ places. 1 ≤ places) setup.places) (journal : List Moment) (legal : AllMayFollow [] journal) (runs : List Run) (many : length runs ≡ setup.workers)
    (work : (worker : ℕ) (run : Run) → slice_get runs worker ≡ Some run → IsWorkOf setup journal worker run) where
  -- the world where the journal is whole and no worker has begun
  abbrev start : World
  start = with_journal (first_world setup) journal

  -- the run of each worker
  abbrev all_runs : ℕ → Run
  all_runs = runs_below runs setup.workers

  abbrev offered : ℕ → List Attempt
  offered = offered_to setup all_runs

  abbrev IsTaken : ℕ → World → Type 0
  IsTaken n world = IsAt setup journal (standing_in all_runs) (TakenBelow offered n) world

  is_its : (worker : ℕ) (run : Run) → slice_get runs worker ≡ Some run → all_runs worker ≡ run
  is_its worker run at =
      let within : worker < length runs = slice_get_within runs worker run at in
      has_run runs setup.workers worker (omega (arith, within, many)) ∙ ap run_of at

  nothing_below : (receiver : ℕ) (delivery : Delivery) → Fills setup all_runs receiver delivery → TakenBelow offered 0 receiver delivery
  nothing_below receiver delivery is = (is.sent, λ less. absurd (omega (arith, less)))

  comes_to_end : ComesTo setup journal (standing_in all_runs) (TakenBelow offered (length setup.places)) start
  comes_to_end =
      let at_most : setup.workers ≤ setup.workers = omega arith in
      let all : length setup.places ≤ length setup.places = omega arith in
      then_comes (all_work finds setup some journal runs many work start (begins setup first journal runs) setup.workers at_most)
      (λ world is. all_take setup journal (standing_in all_runs) offered world (weaker is (TakenBelow offered 0) nothing_below) (length setup.places) all)

  module _ (world : World) (h : IsTaken (length setup.places) world) where
    same_standings : world.standings ≡ map (λ run. run.standing) runs
    same_standings =
        let standing_of : Run → Standing = (λ run. run.standing) in
        same_elements world.standings (map standing_of runs) (h.workers ∙ (sym many ∙ sym (length-map runs standing_of)))
        (λ worker here there at is.
        let its = get_map standing_of runs worker there is in
        h.standings worker here at ∙ (ap standing_of (is_its worker its.0 its.1) ∙ its.2))

    all_taken : (receiver : ℕ) (delivery : Delivery) (run : Run) → slice_get world.deliveries receiver ≡ Some delivery → slice_get runs (worker_of setup receiver) ≡ Some run → HasTakenAll (of_receiver receiver run.done) delivery
    all_taken receiver delivery run at is =
        let it : TakenBelow offered (length setup.places) receiver delivery = h.delivers receiver delivery at in
        let deliveries : length world.deliveries ≡ length setup.places = as_many h in
        let within : receiver < length world.deliveries = slice_get_within world.deliveries receiver delivery at in
        subst (λ (r : Run). HasTakenAll (of_receiver receiver r.done) delivery) (is_its (worker_of setup receiver) run is)
        (has_taken_all (offered receiver) delivery it.0 (it.1 (omega (arith, deliveries, within))))

    is_world : IsWorldOf setup journal runs world
    is_world = record { appended = h.appended; standings = same_standings; delivers = all_taken }

  pub has_trace : HasTrace setup journal runs
  has_trace =
      let end = comes_to_end in
      let goes : after_events setup (first_world setup) (appending journal ++ end.events) ≡ after_events setup start end.events =
      after_both setup (first_world setup) (appending journal) end.events ∙ ap (λ (w : World). after_events setup w end.events) (all_appended setup (first_world setup) [] journal legal) in
      record { events = appending journal ++ end.events; leads = subst (λ (w : World). IsWorldOf setup journal runs w) (sym goes) (is_world (after_events setup start end.events) end.comes) }
