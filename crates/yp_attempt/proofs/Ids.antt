-- The tracks of a run stand in the order of their subscriptions' ids.
use Rattle.std.proofs.Common.{◌≡◌, ℕ, ◌+◌, ◌≤◌, refl, sym, subst, Bool, true, false, not, List, [], ◌∷◌, ◌++◌, map, arith}
use Rattle.std.specs.Prelude.{if◌then◌else◌, nat_lt}
use Rattle.std.specs.List.{AllByRecursion, filter}
use Rattle.yp_base.specs.declared.notice.Trigger.{Trigger}
use Rattle.yp_attempt.specs.Content.{Content}
use Rattle.yp_attempt.specs.Tracks.{Track, Answer, rebased, after_answer}
use Rattle.yp_attempt.specs.Moments.{Moment, Act, Quiet, Starts, Controls, Drops, after_moment, is_kept_by, new_track}
use Rattle.yp_attempt.specs.Runs.{AreById, with_started, Run, Reaches, opened, advances, settles}
use Rattle.yp_attempt.specs.ListLaws.{all_append, all_before, all_rest, all_map, all_filter, all_weaker, filter_passes}
use Rattle.yp_attempt.proofs.Offers.{found_first_offer}
use Rattle.yp_attempt.specs.TrackLaws.{moment_same, answer_same}
use Rattle.yp_attempt.proofs.Owners.{ended_all}

-- a track of this id or a greater one
abbrev IsFrom : ℕ → Track → Type 0
IsFrom sub track = sub ≤ track.feed.sub

-- a track of this id or a lesser one
abbrev IsUpTo : ℕ → Track → Type 0
IsUpTo sub track = track.feed.sub ≤ sub

all_through : (low high : ℕ) (tracks : List Track) → low ≤ high → AllByRecursion (IsFrom high) tracks → AllByRecursion (IsFrom low) tracks
all_through low high [] le h = tt
all_through low high (t ∷ tracks) le h = (omega (arith, le, h.0), all_through low high tracks le h.1)

-- ---- lists of tracks

map_by_id : (f : Track → Track) (tracks : List Track) → ((t : Track) → (f t).feed.sub ≡ t.feed.sub) → AreById tracks → AreById (map f tracks)
map_by_id f [] same h = tt
map_by_id f (t ∷ tracks) same h = (
  all_map (IsFrom t.feed.sub) (IsFrom (f t).feed.sub) f tracks (λ x le. subst (λ (p : ℕ × ℕ). p.0 ≤ p.1) (λ i. (sym (same t) i, sym (same x) i)) le) h.0,
  map_by_id f tracks same h.1,
)

if_by_id : (b : Bool) (t : Track) (ys zs : List Track) → ys ≡ (if b then t ∷ zs else zs) → AllByRecursion (IsFrom t.feed.sub) zs → AreById zs → AreById ys
if_by_id true t ys zs e h k = subst AreById (sym e) (h, k)
if_by_id false t ys zs e h k = subst AreById (sym e) k

filter_by_id : (p : Track → Bool) (tracks : List Track) → AreById tracks → AreById (filter p tracks)
filter_by_id p [] h = tt
filter_by_id p (t ∷ tracks) h = if_by_id (p t) t (filter p (t ∷ tracks)) (filter p tracks) refl (all_filter (IsFrom t.feed.sub) p tracks h.0) (filter_by_id p tracks h.1)

-- tracks up to an id, and then tracks from it
append_by_id : (sub : ℕ) (xs ys : List Track) → AreById xs → AreById ys → AllByRecursion (IsUpTo sub) xs → AllByRecursion (IsFrom sub) ys → AreById (xs ++ ys)
append_by_id sub [] ys h k low high = k
append_by_id sub (x ∷ xs) ys h k low high = (all_append (IsFrom x.feed.sub) xs ys h.0 (all_through x.feed.sub sub ys low.0 high), append_by_id sub xs ys h.1 k low.1 high)

-- one track gives way to another of its id, or to none
settle_by_id : (before : List Track) (track new : Track) (after : List Track) (b : Bool) → new.feed.sub ≡ track.feed.sub → AreById (before ++ track ∷ after) → AreById (before ++ ((if b then [] else new ∷ []) ++ after))
settle_by_id [] track new after true same h = h.1
settle_by_id [] track new after false same h = (subst (λ (sub : ℕ). AllByRecursion (IsFrom sub) after) (sym same) h.0, h.1)
settle_by_id (t ∷ before) track new after b same h =
    let here = all_rest (IsFrom t.feed.sub) before (track ∷ after) h.0 in (
      all_append (IsFrom t.feed.sub) before ((if b then [] else new ∷ []) ++ after) (all_before (IsFrom t.feed.sub) before (track ∷ after) h.0)
          (ended_all (IsFrom t.feed.sub) new after b (subst (λ (sub : ℕ). t.feed.sub ≤ sub) (sym same) here.0) here.1),
      settle_by_id before track new after b same h.1,
    )

-- ---- tracks that start

below : (a b : ℕ) → nat_lt a b ≡ true → a ≤ b
below a b e = grind (arith, e)

not_below : (a b : ℕ) → not (nat_lt a b) ≡ true → b ≤ a
not_below a b e = grind (arith, e)

-- new tracks have the id that starts
new_have : (P : ℕ → Type 0) (m : Moment) (n sub : ℕ) (trigger : Trigger) (configured : Bool) (receivers : List ℕ) → P sub → AllByRecursion (λ t. P t.feed.sub) (map (new_track m n sub trigger configured) receivers)
new_have P m n sub trigger configured [] p = tt
new_have P m n sub trigger configured (r ∷ receivers) p = (p, new_have P m n sub trigger configured receivers p)

new_by_id : (m : Moment) (n sub : ℕ) (trigger : Trigger) (configured : Bool) (receivers : List ℕ) → AreById (map (new_track m n sub trigger configured) receivers)
new_by_id m n sub trigger configured [] = tt
new_by_id m n sub trigger configured (r ∷ receivers) = (new_have (λ x. sub ≤ x) m n sub trigger configured receivers (omega arith), new_by_id m n sub trigger configured receivers)

started_by_id : (m : Moment) (n : ℕ) (act : Act) (receivers : List ℕ) (tracks : List Track) → AreById tracks → AreById (with_started m n act receivers tracks)
started_by_id m n Quiet receivers tracks h = h
started_by_id m n (Starts sub trigger configured names) receivers tracks h =
    let p : Track → Bool = (λ t. nat_lt t.feed.sub sub) in
    let q : Track → Bool = (λ t. not (nat_lt t.feed.sub sub)) in
    let new : List Track = map (new_track m n sub trigger configured) (filter names receivers) in
    let low : AllByRecursion (IsUpTo sub) (filter p tracks) = all_weaker (λ t. p t ≡ true) (IsUpTo sub) (filter p tracks) (λ t e. below t.feed.sub sub e) (filter_passes p tracks) in
    let high : AllByRecursion (IsFrom sub) (filter q tracks) = all_weaker (λ t. q t ≡ true) (IsFrom sub) (filter q tracks) (λ t e. not_below t.feed.sub sub e) (filter_passes q tracks) in
    append_by_id sub (filter p tracks) (new ++ filter q tracks) (filter_by_id p tracks h)
    (append_by_id sub new (filter q tracks) (new_by_id m n sub trigger configured (filter names receivers)) (filter_by_id q tracks h) (new_have (λ x. x ≤ sub) m n sub trigger configured (filter names receivers) (omega arith)) high)
    low (all_append (IsFrom sub) new (filter q tracks) (new_have (λ x. sub ≤ x) m n sub trigger configured (filter names receivers) (omega arith)) high)
started_by_id m n (Controls sub control) receivers tracks h = h
started_by_id m n (Drops sub) receivers tracks h = h

-- ---- runs

pub run_by_id : (c : Content) (receivers : List ℕ) (past : List Moment) (answers : List Answer) (run : Run) → Reaches c receivers past answers run → AreById run.standing.tracks
run_by_id c receivers _ _ _ opened = tt
run_by_id c receivers _ _ _ (advances past answers run m r may idle) =
    let n : ℕ = run.standing.position + 1 in
    let old : List Track = filter (is_kept_by m.act) (map (rebased c run.standing.position run.standing.stamp) run.standing.tracks) in
    started_by_id m n m.act receivers (map (after_moment c m n) old)
    (map_by_id (after_moment c m n) old (λ t. (moment_same c m n t).0)
    (filter_by_id (is_kept_by m.act) (map (rebased c run.standing.position run.standing.stamp) run.standing.tracks)
    (map_by_id (rebased c run.standing.position run.standing.stamp) run.standing.tracks (λ t. refl) (run_by_id c receivers past answers run r))))
run_by_id c receivers _ _ _ (settles past answers run found answer r offers) =
    let new : Track = after_answer c run.standing.position run.standing.stamp found.track found.item answer in
    settle_by_id found.before found.track new found.after new.feed.ended (answer_same c run.standing.position run.standing.stamp found.track found.item answer).0
    (subst AreById (found_first_offer c run.standing.stamp run.standing.tracks found offers).parts (run_by_id c receivers past answers run r))
