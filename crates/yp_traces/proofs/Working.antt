-- One worker does its work over the whole journal, and the others stand still.
use Rattle.std.proofs.Common.{◌≡◌, ℕ, ◌<◌, ◌≤◌, refl, sym, ap, subst, ◌∙◌, List, [], ◌∷◌, ◌++◌, Some, None, append_assoc}
use Rattle.std.specs.List.{AllByRecursion, slice_get}
use Rattle.yp_attempt.specs.Moments.{Moment}
use Rattle.yp_attempt.specs.Runs.{Found, Reaches, Run, advances, first_run, opened, run_advanced, run_settled, settles, waits}
use Rattle.yp_attempt.specs.Tracks.{Answer, Attempt}
use Rattle.yp_world.specs.World.{Absorb, Setup, World, receivers_of}
use Rattle.yp_attempt.specs.RunLaws.{FindsFirst, position_is}
use Rattle.yp_traces.proofs.Filling.{IsFilled}
use Rattle.yp_traces.proofs.Following.{absorb_step, delivery_there, its_places, standing_set, stays, then_comes, weaker}
use Rattle.yp_traces.proofs.Offering.{ComesWith, IsWith, gets_answer, stands_there}
use Rattle.yp_traces.proofs.Receivers.{is_mine, is_there, one_of_all}
use Rattle.yp_traces.proofs.Runs.{Fills, Fulls, earlier_fulls, next_there, other_standing, own_standing, same_offered, standing_in, with_run}

module _ (finds : FindsFirst) (setup : Setup) (some : AllByRecursion (λ places. 1 ≤ places) setup.places) (journal : List Moment) (worker : ℕ) (small : worker < setup.workers) (runs : ℕ → Run) where
  -- a world in which the worker has this run, and the others have theirs
  abbrev Is : Run → World → Type 0
  Is run world = IsWith setup journal worker small runs run world

  -- events lead to such a world
  abbrev Comes : Run → World → Type 0
  Comes run world = ComesWith setup journal worker small runs run world

  -- ---- an entry is absorbed

  absorbs : (run : Run) (m : Moment) → waits setup.content run ≡ None → slice_get journal run.standing.position ≡ Some m → (world : World) → Is run world → Comes (run_advanced setup.content (receivers_of setup worker) m run) world
  absorbs run m idle next world h =
      let after : Run = run_advanced setup.content (receivers_of setup worker) m run in
      let at : slice_get world.standings worker ≡ Some run.standing = stands_there setup journal worker small runs run (Fills setup (with_run worker run runs)) world h in
      let there : slice_get world.journal run.standing.position ≡ Some m = ap (λ (ms : List Moment). slice_get ms run.standing.position) h.appended ∙ next in
      let same = weaker h (Fills setup (with_run worker after runs)) (λ x delivery is. subst (λ (xs : List Attempt). IsFilled xs delivery) (same_offered setup worker x run after runs refl) is) in
      let moved = standing_set same (standing_in (with_run worker after runs)) worker run.standing after.standing at (own_standing worker after runs) (λ x other. other_standing worker x run after runs other) in
      record { events = Absorb worker ∷ []; comes = subst (λ (w : World). Is after w) (sym (absorb_step setup world worker run.standing m at idle there)) moved }

  -- ---- an offer is answered

  settled_next : (past : List Moment) (given : List Answer) (run : Run) → Reaches setup.content (receivers_of setup worker) past given run → (found : Found) → waits setup.content run ≡ Some found
      → (answer : Answer) → Fulls setup (run_settled setup.content run found answer) → (world : World) → Is run world → Comes (run_settled setup.content run found answer) world
  settled_next past given run r found offers answer fulls world h =
      let receiver : ℕ = found.track.feed.receiver in
      let there = delivery_there h receiver (is_there finds setup worker past given run r found offers) in
      let has : slice_get setup.places receiver ≡ Some there.0.places = its_places h receiver there.0 there.1 in
      gets_answer setup journal worker small runs run found offers (is_mine finds setup worker past given run r found offers) world h there.0 there.1
      (one_of_all (λ places. 1 ≤ places) setup.places receiver there.0.places some has) answer (fulls receiver there.0.places has)

  -- ---- the whole work

  pub works : (world : World) → Is first_run world → (past : List Moment) (given : List Answer) (run : Run) → Reaches setup.content (receivers_of setup worker) past given run
      → (rest : List Moment) → past ++ rest ≡ journal → Fulls setup run → Comes run world
  works world h _ _ _ opened rest same fulls = stays h
  works world h _ _ _ (advances past given run m r may idle) rest same fulls =
      let whole : past ++ m ∷ rest ≡ journal = sym (append_assoc past (m ∷ []) rest) ∙ same in
      let position = position_is setup.content (receivers_of setup worker) past given run r in
      let next : slice_get journal run.standing.position ≡ Some m = (λ i. slice_get (sym whole i) (position i)) ∙ next_there past m rest in
      then_comes (works world h past given run r (m ∷ rest) whole fulls) (λ later is. absorbs run m idle next later is)
  works world h _ _ _ (settles past given run found answer r offers) rest same fulls =
      then_comes (works world h past given run r rest same (earlier_fulls setup run found answer fulls)) (λ later is. settled_next past given run r found offers answer fulls later is)
