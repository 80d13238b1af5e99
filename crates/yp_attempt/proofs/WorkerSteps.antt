-- A worker that stands for entries and answers goes on standing for them.
use Rattle.std.proofs.Common.{◌≡◌, ℕ, ◌+◌, refl, sym, ap, subst, ◌∙◌, Bool, true, false, List, [], ◌∷◌, ◌++◌, map, Some, None}
use Rattle.std.specs.Prelude.{if◌then◌else◌, option_map}
use Rattle.std.specs.List.{AllByRecursion, filter}
use Rattle.std.proofs.lemmas.List.{map-append}
use Rattle.yp_base.specs.declared.notice.Trigger.{Trigger}
use Rattle.yp_feed.specs.declared.item.Item.{Item}
use Rattle.yp_feed.specs.Machine.{freezes, frozen, refused}
use Rattle.yp_attempt.specs.Content.{Content, IsLawful}
use Rattle.yp_attempt.specs.Tracks.{Track, Answer, Took, Full, roots_in, with_feed, freeze_tried, rebased, after_answer}
use Rattle.yp_attempt.specs.Moments.{Moment, with_selection, after_act, after_rules, after_moment, is_kept_by, new_track, MayFollow}
use Rattle.yp_attempt.specs.Runs.{Standing, Found, first_offer, IsFirst, unless_ended, with_started, advanced, Run, first_run, waits, run_advanced, run_settled, Reaches, opened, advances, settles}
use Rattle.yp_attempt.specs.Workers.{ready, all_ready, Stands, found_rebased, takes, answered_alone, puts}
use Rattle.yp_attempt.specs.ListLaws.{all_append, all_before, all_rest, map_where, map_map_where}
use Rattle.yp_attempt.specs.AttemptLaws.{none_found, some_found}
use Rattle.yp_attempt.specs.TrackLaws.{offering_stays, alone_ready}
use Rattle.yp_attempt.proofs.Offers.{found_first_offer}
use Rattle.yp_attempt.proofs.Looks.{IsThawed, tried_thaws, untried_thaws, ready_thawed, ready_rebased, ready_twice, first_moved}
use Rattle.yp_attempt.proofs.Owners.{started_all, ended_all}

-- ---- of no track of a run the record is still to be set aside

new_thawed : (c : Content) (m : Moment) (n sub : ℕ) (trigger : Trigger) (configured : Bool) (receivers : List ℕ) → AllByRecursion (λ r. IsThawed c (new_track m n sub trigger configured r)) receivers
new_thawed c m n sub trigger configured [] = tt
new_thawed c m n sub trigger configured (r ∷ receivers) = (untried_thaws c (new_track m n sub trigger configured r) refl, new_thawed c m n sub trigger configured receivers)

moments_thawed : (c : Content) (m : Moment) (n : ℕ) (tracks : List Track) → AllByRecursion (IsThawed c) (map (after_moment c m n) tracks)
moments_thawed c m n [] = tt
moments_thawed c m n (t ∷ tracks) = (tried_thaws c n m.stamp (after_rules n m (after_act n m.stamp m.act (with_selection m t))), moments_thawed c m n tracks)

answer_thawed : (c : Content) (n stamp : ℕ) (t : Track) (item : Item) (answer : Answer) → IsThawed c (after_answer c n stamp t item answer)
answer_thawed c n stamp t item Took = untried_thaws c (after_answer c n stamp t item Took) refl
answer_thawed c n stamp t item Full = tried_thaws c n stamp (with_feed t (refused t.feed item stamp) false)

run_thawed : (c : Content) (receivers : List ℕ) (past : List Moment) (answers : List Answer) (run : Run) → Reaches c receivers past answers run → AllByRecursion (IsThawed c) run.standing.tracks
run_thawed c receivers _ _ _ opened = tt
run_thawed c receivers _ _ _ (advances past answers run m r may idle) =
    started_all (IsThawed c) m (run.standing.position + 1) m.act receivers (map (after_moment c m (run.standing.position + 1)) (filter (is_kept_by m.act) (map (rebased c run.standing.position run.standing.stamp) run.standing.tracks)))
    (λ sub trigger configured. new_thawed c m (run.standing.position + 1) sub trigger configured receivers)
    (moments_thawed c m (run.standing.position + 1) (filter (is_kept_by m.act) (map (rebased c run.standing.position run.standing.stamp) run.standing.tracks)))
run_thawed c receivers _ _ _ (settles past answers run found answer r offers) =
    let new : Track = after_answer c run.standing.position run.standing.stamp found.track found.item answer in
    let all : AllByRecursion (IsThawed c) (found.before ++ found.track ∷ found.after) = subst (AllByRecursion (IsThawed c)) (found_first_offer c run.standing.stamp run.standing.tracks found offers).parts (run_thawed c receivers past answers run r) in
    let here = all_rest (IsThawed c) found.before (found.track ∷ found.after) all in
    all_append (IsThawed c) found.before ((if new.feed.ended then [] else new ∷ []) ++ found.after) (all_before (IsThawed c) found.before (found.track ∷ found.after) all)
    (ended_all (IsThawed c) new found.after new.feed.ended (answer_thawed c run.standing.position run.standing.stamp found.track found.item answer) here.1)

-- ---- the steps of a worker

pub opened_stands : (c : Content) (receivers : List ℕ) → Stands c receivers [] [] first_run.standing
opened_stands c receivers = record { run = first_run; reaches = opened; position = refl; stamp = refl; tracks = refl }

-- tracks may be looked at before their turn
pub looks : (c : Content) (receivers : List ℕ) (past : List Moment) (answers : List Answer) (standing : Standing) (tracks : List Track) → map (ready c standing.position standing.stamp) tracks ≡ all_ready c standing → Stands c receivers past answers standing → Stands c receivers past answers (record standing { tracks = tracks })
looks c receivers past answers standing tracks e s = record { run = s.run; reaches = s.reaches; position = s.position; stamp = s.stamp; tracks = e ∙ s.tracks }

pub looked_twice : (c : Content) (lawful : IsLawful c) (n stamp : ℕ) (xs ys : List Track) → map (ready c n stamp) (map (ready c n stamp) xs ++ ys) ≡ map (ready c n stamp) (xs ++ ys)
looked_twice c lawful n stamp [] ys = refl
looked_twice c lawful n stamp (x ∷ xs) ys = λ i. ready_twice c lawful n stamp x i ∷ looked_twice c lawful n stamp xs ys i

-- what it finds is what the run offers
pub finds_offer : (c : Content) (lawful : IsLawful c) (receivers : List ℕ) (past : List Moment) (answers : List Answer) (standing : Standing) → (s : Stands c receivers past answers standing) → first_offer c standing.stamp (all_ready c standing) ≡ option_map (found_rebased c s.run.standing.position s.run.standing.stamp) (waits c s.run)
finds_offer c lawful receivers past answers standing s = (λ i. first_offer c (s.stamp i) (s.tracks i)) ∙ first_moved c lawful s.run.standing.position s.run.standing.stamp s.run.standing.tracks

-- an entry, where nothing is found
pub takes_entry : (c : Content) (lawful : IsLawful c) (receivers : List ℕ) (past : List Moment) (answers : List Answer) (standing : Standing) (m : Moment) → Stands c receivers past answers standing → first_offer c standing.stamp (all_ready c standing) ≡ None → MayFollow past m → Stands c receivers (past ++ m ∷ []) answers (takes c receivers m standing)
takes_entry c lawful receivers past answers standing m s idle may =
    let run : Run = s.run in
    let quiet : waits c run ≡ None = none_found c run.standing.position run.standing.stamp (waits c run) (sym (finds_offer c lawful receivers past answers standing s) ∙ idle) in
    let next : Reaches c receivers (past ++ m ∷ []) answers (run_advanced c receivers m run) = advances past answers run m s.reaches may quiet in
    let same : takes c receivers m standing ≡ advanced c receivers m run.standing =
    (λ i. record { position = s.position i + 1; stamp = m.stamp; tracks = with_started m (s.position i + 1) m.act receivers (map (after_moment c m (s.position i + 1)) (filter (is_kept_by m.act) (s.tracks i))) }) in
    let n : ℕ = run.standing.position + 1 in
    record {
      run = run_advanced c receivers m run;
      reaches = next;
      position = ap (λ (d : Standing). d.position) same;
      stamp = refl;
      tracks = ap (all_ready c) same ∙ map_where (IsThawed c) (ready c n m.stamp) (rebased c n m.stamp) (advanced c receivers m run.standing).tracks (λ t e. ready_thawed c n m.stamp t e) (run_thawed c receivers (past ++ m ∷ []) answers (run_advanced c receivers m run) next);
    }

ended_same : (c : Content) (n stamp : ℕ) (t : Track) → (freeze_tried c n stamp t).feed.ended ≡ t.feed.ended
ended_same c n stamp t = by (freezes t.feed (roots_in c t))
  where
    by : (b : Bool) → (if b then frozen t.feed else t.feed).ended ≡ t.feed.ended
    by true = refl
    by false = refl

alone_ended : (c : Content) (n stamp : ℕ) (t : Track) (item : Item) (answer : Answer) → (answered_alone n stamp t item answer).feed.ended ≡ (after_answer c n stamp t item answer).feed.ended
alone_ended c n stamp t item Took = refl
alone_ended c n stamp t item Full = sym (ended_same c n stamp (with_feed t (refused t.feed item stamp) false))

put_ready : (c : Content) (n stamp : ℕ) (alone track : Track) (a b : Bool) (before after befores afters : List Track) → ready c n stamp alone ≡ rebased c n stamp track → a ≡ b → map (ready c n stamp) befores ≡ map (rebased c n stamp) before → map (ready c n stamp) afters ≡ map (rebased c n stamp) after
    → map (ready c n stamp) (befores ++ ((if a then [] else alone ∷ []) ++ afters)) ≡ map (rebased c n stamp) (before ++ ((if b then [] else track ∷ []) ++ after))
put_ready c n stamp alone track a b before after befores afters e q f g =
    map-append (ready c n stamp) befores ((if a then [] else alone ∷ []) ++ afters)
    ∙ ((λ i. f i ++ map (ready c n stamp) ((if q i then [] else alone ∷ []) ++ afters)) ∙ (by b ∙ sym (map-append (rebased c n stamp) before ((if b then [] else track ∷ []) ++ after))))
  where
    by : (b : Bool) → map (rebased c n stamp) before ++ map (ready c n stamp) ((if b then [] else alone ∷ []) ++ afters) ≡ map (rebased c n stamp) before ++ map (rebased c n stamp) ((if b then [] else track ∷ []) ++ after)
    by true = ap (λ (xs : List Track). map (rebased c n stamp) before ++ xs) g
    by false = λ i. map (rebased c n stamp) before ++ (e i ∷ g i)

-- an answer to what was found
pub settles_answer : (c : Content) (lawful : IsLawful c) (receivers : List ℕ) (past : List Moment) (answers : List Answer) (standing : Standing) (found : Found) (answer : Answer) → Stands c receivers past answers standing → first_offer c standing.stamp (all_ready c standing) ≡ Some found
    → Stands c receivers past (answers ++ answer ∷ []) (puts (record standing { tracks = all_ready c standing }) found answer)
settles_answer c lawful receivers past answers standing found answer s e =
    let run : Run = s.run in
    let n : ℕ = run.standing.position in
    let stamp : ℕ = run.standing.stamp in
    let f = some_found c n stamp (waits c run) found (sym (finds_offer c lawful receivers past answers standing s) ∙ e) in
    let other : Found = f.0 in
    let is : IsFirst c stamp run.standing.tracks other = found_first_offer c stamp run.standing.tracks other f.1 in
    let all : AllByRecursion (IsThawed c) (other.before ++ other.track ∷ other.after) = subst (AllByRecursion (IsThawed c)) is.parts (run_thawed c receivers past answers run s.reaches) in
    let same : rebased c n stamp other.track ≡ other.track = offering_stays c n stamp other.track other.item is.offers in
    let track : Track = after_answer c n stamp other.track other.item answer in
    let alone : Track = answered_alone n stamp other.track other.item answer in
    let there : puts (record standing { tracks = all_ready c standing }) found answer ≡ record { position = n; stamp = stamp; tracks = map (rebased c n stamp) other.before ++ (unless_ended alone ++ map (rebased c n stamp) other.after) } =
    (λ i. puts (record { position = s.position i; stamp = s.stamp i; tracks = s.tracks i }) (sym f.2 i) answer)
    ∙ (λ i. record { position = n; stamp = stamp; tracks = map (rebased c n stamp) other.before ++ (unless_ended (answered_alone n stamp (same i) other.item answer) ++ map (rebased c n stamp) other.after) }) in
    record {
      run = run_settled c run other answer;
      reaches = settles past answers run other answer s.reaches f.1;
      position = ap (λ (d : Standing). d.position) there;
      stamp = ap (λ (d : Standing). d.stamp) there;
      tracks = ap (all_ready c) there ∙ put_ready c n stamp alone track alone.feed.ended track.feed.ended other.before other.after (map (rebased c n stamp) other.before) (map (rebased c n stamp) other.after)
          (alone_ready c n stamp other.track other.item answer) (alone_ended c n stamp other.track other.item answer)
          (map_map_where (IsThawed c) (ready c n stamp) (rebased c n stamp) other.before (λ t e. ready_rebased c lawful n stamp t e) (all_before (IsThawed c) other.before (other.track ∷ other.after) all))
          (map_map_where (IsThawed c) (ready c n stamp) (rebased c n stamp) other.after (λ t e. ready_rebased c lawful n stamp t e) (all_rest (IsThawed c) other.before (other.track ∷ other.after) all).1);
    }
