-- Lanes that have written all of their commands.
use Rattle.std.proofs.Common.{◌≡◌, ℕ, ◌+◌, ◌<◌, ◌^◌, Bool, true, List, [], ◌∷◌, ◌++◌, length, map, slice_index_or, arith, refl, sym, ap, subst, ◌∙◌}
use Rattle.std.specs.Prelude.{All}
use Rattle.std.specs.List.{AllByRecursion}
use Rattle.std.proofs.lemmas.List.Elements.{All-from_recursion}
use Rattle.std.proofs.lemmas.List.Sums.{sum_by-cons}
use Rattle.yp_journal.specs.declared.command.Command.{Command}
use Rattle.yp_log_share.specs.declared.seat.Call.{Call}
use Rattle.yp_log_share.specs.Seats.{AreOfLanesFrom, Seat, count_calls}
use Rattle.yp_lanes.specs.Lanes.{AreNumberedFrom, HasWritten, commands_of}
use Rattle.yp_handover.specs.Handover.{Pairs}
use Rattle.yp_threads.specs.Beside.{HasAll}

-- seats without calls
first_none : (seat : Seat) (seats : List Seat) → count_calls (seat ∷ seats) ≡ 0 → (length seat.calls ≡ 0) × (count_calls seats ≡ 0)
first_none seat seats none = let both = sum_by-cons (λ (s : Seat). length s.calls) seat seats in (omega (arith, none, both), omega (arith, none, both))

no_calls : (calls : List Call) → length calls ≡ 0 → calls ≡ []
no_calls [] none = refl
no_calls (call ∷ calls) none = absurd (omega (arith, none))

module _ {X : Type 0} (seat : X → Seat) (commands : X → List Command) where
  -- lanes without calls are far from their most
  few_by : (jobs : List X) → count_calls (map seat jobs) ≡ 0 → AllByRecursion (λ (lane : List Command). length lane < 2 ^ 32) (map commands jobs) → AllByRecursion (λ (job : X). length (seat job).calls + length (commands job) < 2 ^ 32) jobs
  few_by [] none short = tt
  few_by (job ∷ jobs) none short = let first = first_none (seat job) (map seat jobs) none in (omega (arith, first.0, short.0), few_by jobs first.1 short.1)

  pub few : (jobs : List X) → count_calls (map seat jobs) ≡ 0 → AllByRecursion (λ (lane : List Command). length lane < 2 ^ 32) (map commands jobs) → All (λ (job : X). length (seat job).calls + length (commands job) < 2 ^ 32) jobs
  few jobs none short = All-from_recursion (λ (job : X). length (seat job).calls + length (commands job) < 2 ^ 32) jobs (few_by jobs none short)

  may_by : (P : Command → Type 0) (jobs : List X) → AllByRecursion (AllByRecursion P) (map commands jobs) → AllByRecursion (λ (job : X). All P (commands job)) jobs
  may_by P [] all = tt
  may_by P (job ∷ jobs) all = (All-from_recursion P (commands job) all.0, may_by P jobs all.1)

  pub may : (P : Command → Type 0) (jobs : List X) → AllByRecursion (AllByRecursion P) (map commands jobs) → All (λ (job : X). All P (commands job)) jobs
  may P jobs all = All-from_recursion (λ (job : X). All P (commands job)) jobs (may_by P jobs all)

  module _ (whole : X → Bool) where
    abbrev pub Writes : X → X → Type 0
    Writes old new = HasWritten (seat old) (commands old) (seat new) (whole new)

    -- the seats are of the same lanes
    pub order_stays : (lane : ℕ) (olds news : List X) → Pairs Writes olds news → AreOfLanesFrom lane (map seat olds) → AreOfLanesFrom lane (map seat news)
    order_stays lane [] [] all order = tt
    order_stays lane [] (new ∷ news) all order = absurd all
    order_stays lane (old ∷ olds) [] all order = absurd all
    order_stays lane (old ∷ olds) (new ∷ news) all order = (all.0.lane ∙ order.0, order_stays (lane + 1) olds news all.1 order.1)

    has_all : (old new : X) → Writes old new → length (seat old).calls ≡ 0 → whole new ≡ true → HasAll (commands old) (seat new)
    has_all old new wrote none is =
        let empty : (seat old).calls ≡ [] = no_calls (seat old).calls none in (
          wrote.all is ∙ ap (λ (calls : List Call). map (λ call. call.command) calls ++ commands old) empty,
          wrote.numbered (subst (AreNumberedFrom 1) (sym empty) tt),
        )

    -- lanes without calls that are whole then have just their commands
    pub all_written : (olds news : List X) → Pairs Writes olds news → count_calls (map seat olds) ≡ 0 → AllByRecursion (λ (w : Bool). w ≡ true) (map whole news) → Pairs HasAll (map commands olds) (map seat news)
    all_written [] [] all none is = tt
    all_written [] (new ∷ news) all none is = absurd all
    all_written (old ∷ olds) [] all none is = absurd all
    all_written (old ∷ olds) (new ∷ news) all none is = let first = first_none (seat old) (map seat olds) none in (has_all old new all.0 first.0 is.0, all_written olds news all.1 first.1 is.1)
