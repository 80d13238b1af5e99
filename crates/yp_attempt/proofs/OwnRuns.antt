-- One receiver's part of a run is its own run.
use Rattle.std.proofs.Common.{◌≡◌, ℕ, ◌+◌, refl, sym, ap, subst, ◌∙◌, Bool, true, false, not, List, [], ◌∷◌, ◌++◌, map, Some, None}
use Rattle.std.specs.Prelude.{if◌then◌else◌, ◌==◌, nat_lt}
use Rattle.std.specs.List.{filter}
use Rattle.std.proofs.lemmas.List.Elements.{filter-append}
use Rattle.yp_attempt.specs.Content.{Content}
use Rattle.yp_attempt.specs.Tracks.{Track, Attempt, Answer, offered_item, attempt, rebased, after_answer}
use Rattle.yp_attempt.specs.Moments.{Moment, Act, Quiet, Starts, Controls, Drops, after_moment, is_kept_by, new_track}
use Rattle.yp_attempt.specs.Runs.{Found, first_offer, IsFirst, settled, with_started, Run, waits, run_advanced, run_settled, Reaches, opened, advances, settles}
use Rattle.yp_attempt.specs.Attempts.{own_tracks, of_receiver, answers_in, own_run, IsOneOf}
use Rattle.yp_attempt.specs.ListLaws.{all_filter, filter_pass, filter_fail, filter_map_same, filter_swap}
use Rattle.yp_attempt.proofs.Offers.{found_first_offer, idle_first, idle_all, all_idle}
use Rattle.yp_attempt.specs.TrackLaws.{moment_same, answer_same}
use Rattle.yp_attempt.specs.AttemptLaws.{own_more, other_more, answers_one_more}

-- ---- one receiver's tracks

abbrev is_of : ℕ → Track → Bool
is_of receiver t = t.feed.receiver == receiver

own_started : (receiver : ℕ) (receivers : List ℕ) (m : Moment) (n : ℕ) (act : Act) (tracks : List Track) → IsOneOf receiver receivers → own_tracks receiver (with_started m n act receivers tracks) ≡ with_started m n act (receiver ∷ []) (own_tracks receiver tracks)
own_started receiver receivers m n Quiet tracks e = refl
own_started receiver receivers m n (Starts sub trigger configured names) tracks e =
    let p : Track → Bool = (λ t. nat_lt t.feed.sub sub) in
    let q : Track → Bool = (λ t. not (nat_lt t.feed.sub sub)) in
    let new : List ℕ → List Track = (λ rs. map (new_track m n sub trigger configured) (filter names rs)) in
    let same : own_tracks receiver (new receivers) ≡ new (receiver ∷ []) =
    filter_map_same (λ (x : ℕ). x == receiver) (is_of receiver) (new_track m n sub trigger configured) (filter names receivers) (λ x. refl)
    ∙ ap (map (new_track m n sub trigger configured)) (filter_swap (λ (x : ℕ). x == receiver) names receivers ∙ ap (filter names) e) in
    filter-append (is_of receiver) (filter p tracks) (new receivers ++ filter q tracks)
    ∙ (ap (λ (xs : List Track). own_tracks receiver (filter p tracks) ++ xs) (filter-append (is_of receiver) (new receivers) (filter q tracks))
    ∙ (λ i. filter_swap (is_of receiver) p tracks i ++ (same i ++ filter_swap (is_of receiver) q tracks i)))
own_started receiver receivers m n (Controls sub control) tracks e = refl
own_started receiver receivers m n (Drops sub) tracks e = refl

own_advanced : (c : Content) (receiver : ℕ) (receivers : List ℕ) (m : Moment) (run : Run) → IsOneOf receiver receivers → own_run receiver (run_advanced c receivers m run) ≡ run_advanced c (receiver ∷ []) m (own_run receiver run)
own_advanced c receiver receivers m run e =
    let n : ℕ = run.standing.position in
    let f : Track → Track = rebased c n run.standing.stamp in
    let g : Track → Track = after_moment c m (n + 1) in
    let old : own_tracks receiver (map g (filter (is_kept_by m.act) (map f run.standing.tracks))) ≡ map g (filter (is_kept_by m.act) (map f (own_tracks receiver run.standing.tracks))) =
    filter_map_same (is_of receiver) (is_of receiver) g (filter (is_kept_by m.act) (map f run.standing.tracks)) (λ t. ap (λ (x : ℕ). x == receiver) (moment_same c m (n + 1) t).1)
    ∙ ap (map g) (filter_swap (is_of receiver) (is_kept_by m.act) (map f run.standing.tracks) ∙ ap (filter (is_kept_by m.act)) (filter_map_same (is_of receiver) (is_of receiver) f run.standing.tracks (λ t. refl))) in
    ap (λ (xs : List Track). record { standing = record { position = n + 1; stamp = m.stamp; tracks = xs }; done = of_receiver receiver run.done })
    (own_started receiver receivers m (n + 1) m.act (map g (filter (is_kept_by m.act) (map f run.standing.tracks))) e ∙ ap (with_started m (n + 1) m.act (receiver ∷ [])) old)

-- a track and what is put in its place
own_put : (receiver : ℕ) (before : List Track) (track : Track) (after : List Track) → is_of receiver track ≡ true → own_tracks receiver (before ++ track ∷ after) ≡ own_tracks receiver before ++ track ∷ own_tracks receiver after
own_put receiver before track after e = filter-append (is_of receiver) before (track ∷ after) ∙ ap (λ (xs : List Track). own_tracks receiver before ++ xs) (filter_pass (is_of receiver) track after e)

own_put_other : (receiver : ℕ) (before : List Track) (track : Track) (after : List Track) → is_of receiver track ≡ false → own_tracks receiver (before ++ track ∷ after) ≡ own_tracks receiver before ++ own_tracks receiver after
own_put_other receiver before track after e = filter-append (is_of receiver) before (track ∷ after) ∙ ap (λ (xs : List Track). own_tracks receiver before ++ xs) (filter_fail (is_of receiver) track after e)

own_ended : (receiver : ℕ) (before : List Track) (track : Track) (after : List Track) (b : Bool) → is_of receiver track ≡ true → own_tracks receiver (before ++ ((if b then [] else track ∷ []) ++ after)) ≡ own_tracks receiver before ++ ((if b then [] else track ∷ []) ++ own_tracks receiver after)
own_ended receiver before track after true e = filter-append (is_of receiver) before after
own_ended receiver before track after false e = own_put receiver before track after e

own_ended_other : (receiver : ℕ) (before : List Track) (track : Track) (after : List Track) (b : Bool) → is_of receiver track ≡ false → own_tracks receiver (before ++ ((if b then [] else track ∷ []) ++ after)) ≡ own_tracks receiver before ++ own_tracks receiver after
own_ended_other receiver before track after true e = filter-append (is_of receiver) before after
own_ended_other receiver before track after false e = own_put_other receiver before track after e

-- where another receiver's feed offers, nothing of this receiver's part changes
settles_other : (c : Content) (receiver : ℕ) (past : List Moment) (run : Run) (found : Found) (answer : Answer) → IsFirst c run.standing.stamp run.standing.tracks found → is_of receiver found.track ≡ false
    → Reaches c (receiver ∷ []) past (answers_in (of_receiver receiver run.done)) (own_run receiver run)
    → Reaches c (receiver ∷ []) past (answers_in (of_receiver receiver (run_settled c run found answer).done)) (own_run receiver (run_settled c run found answer))
settles_other c receiver past run found answer is no_one h =
    let n : ℕ = run.standing.position in
    let a : Attempt = attempt c n run.standing.stamp found.track found.item answer in
    let new : Track = after_answer c n run.standing.stamp found.track found.item answer in
    let same : of_receiver receiver (run.done ++ a ∷ []) ≡ of_receiver receiver run.done = other_more receiver run.done a no_one in
    let tracks : own_tracks receiver (settled c run.standing found answer) ≡ own_tracks receiver run.standing.tracks =
    own_ended_other receiver found.before new found.after new.feed.ended (ap (λ (x : ℕ). x == receiver) (answer_same c n run.standing.stamp found.track found.item answer).1 ∙ no_one)
    ∙ (sym (own_put_other receiver found.before found.track found.after no_one) ∙ ap (own_tracks receiver) (sym is.parts)) in
    subst (λ (p : List Track × List Attempt). Reaches c (receiver ∷ []) past (answers_in p.1) (record { standing = record { position = n; stamp = run.standing.stamp; tracks = p.0 }; done = p.1 }))
    (λ i. (sym tracks i, sym same i)) h

-- where this receiver's feed offers, it is the first offer of its part too
settles_own : (c : Content) (receiver : ℕ) (past : List Moment) (run : Run) (found : Found) (answer : Answer) → IsFirst c run.standing.stamp run.standing.tracks found → is_of receiver found.track ≡ true
    → Reaches c (receiver ∷ []) past (answers_in (of_receiver receiver run.done)) (own_run receiver run)
    → Reaches c (receiver ∷ []) past (answers_in (of_receiver receiver (run_settled c run found answer).done)) (own_run receiver (run_settled c run found answer))
settles_own c receiver past run found answer is own h =
    let n : ℕ = run.standing.position in
    let a : Attempt = attempt c n run.standing.stamp found.track found.item answer in
    let new : Track = after_answer c n run.standing.stamp found.track found.item answer in
    let part : Found = record { before = own_tracks receiver found.before; track = found.track; item = found.item; after = own_tracks receiver found.after } in
    let offers : waits c (own_run receiver run) ≡ Some part =
    ap (λ (xs : List Track). first_offer c run.standing.stamp xs) (ap (own_tracks receiver) is.parts ∙ own_put receiver found.before found.track found.after own)
    ∙ idle_first c run.standing.stamp (own_tracks receiver found.before) found.track found.item (own_tracks receiver found.after) (all_filter (λ (t : Track). offered_item c run.standing.stamp t ≡ None) (is_of receiver) found.before is.idle) is.offers in
    let same : of_receiver receiver (run.done ++ a ∷ []) ≡ of_receiver receiver run.done ++ a ∷ [] = own_more receiver run.done a own in
    let tracks : own_tracks receiver (settled c run.standing found answer) ≡ settled c (record run.standing { tracks = own_tracks receiver run.standing.tracks }) part answer =
    own_ended receiver found.before new found.after new.feed.ended (ap (λ (x : ℕ). x == receiver) (answer_same c n run.standing.stamp found.track found.item answer).1 ∙ own) in
    let next : Reaches c (receiver ∷ []) past (answers_in (of_receiver receiver run.done) ++ answer ∷ []) (run_settled c (own_run receiver run) part answer) =
    settles past (answers_in (of_receiver receiver run.done)) (own_run receiver run) part answer h offers in
    let answers : answers_in (of_receiver receiver run.done) ++ answer ∷ [] ≡ answers_in (of_receiver receiver (run.done ++ a ∷ [])) = sym (answers_one_more (of_receiver receiver run.done) a) ∙ ap answers_in (sym same) in
    subst (λ (p : List Track × List Attempt × List Answer). Reaches c (receiver ∷ []) past p.2 (record { standing = record { position = n; stamp = run.standing.stamp; tracks = p.0 }; done = p.1 }))
    (λ i. (sym tracks i, sym same i, answers i)) next

settles_by : (c : Content) (receiver : ℕ) (past : List Moment) (run : Run) (found : Found) (answer : Answer) (b : Bool) → is_of receiver found.track ≡ b → IsFirst c run.standing.stamp run.standing.tracks found
    → Reaches c (receiver ∷ []) past (answers_in (of_receiver receiver run.done)) (own_run receiver run)
    → Reaches c (receiver ∷ []) past (answers_in (of_receiver receiver (run_settled c run found answer).done)) (own_run receiver (run_settled c run found answer))
settles_by c receiver past run found answer true e is h = settles_own c receiver past run found answer is e h
settles_by c receiver past run found answer false e is h = settles_other c receiver past run found answer is e h

-- the part of a run is the run of the part
pub own_reaches : (c : Content) (receiver : ℕ) (receivers : List ℕ) → IsOneOf receiver receivers → (past : List Moment) (answers : List Answer) (run : Run) → Reaches c receivers past answers run
    → Reaches c (receiver ∷ []) past (answers_in (of_receiver receiver run.done)) (own_run receiver run)
own_reaches c receiver receivers e _ _ _ opened = opened
own_reaches c receiver receivers e _ _ _ (advances past answers run m r may idle) =
    subst (λ (x : Run). Reaches c (receiver ∷ []) (past ++ m ∷ []) (answers_in (of_receiver receiver run.done)) x) (sym (own_advanced c receiver receivers m run e))
    (advances past (answers_in (of_receiver receiver run.done)) (own_run receiver run) m (own_reaches c receiver receivers e past answers run r) may
    (idle_all c run.standing.stamp (own_tracks receiver run.standing.tracks) (all_filter (λ (t : Track). offered_item c run.standing.stamp t ≡ None) (is_of receiver) run.standing.tracks (all_idle c run.standing.stamp run.standing.tracks idle))))
own_reaches c receiver receivers e _ _ _ (settles past answers run found answer r offers) =
    settles_by c receiver past run found answer (is_of receiver found.track) refl (found_first_offer c run.standing.stamp run.standing.tracks found offers) (own_reaches c receiver receivers e past answers run r)
