-- A run of one receiver stays linked: by induction over entries and answers.
use Rattle.std.proofs.Common.{◌≡◌, ℕ, ◌+◌, ◌≤◌, refl, sym, ap, subst, ◌∙◌, Bool, true, false, not, List, [], ◌∷◌, ◌++◌, map, length, Some, arith, append_assoc, length-append}
use Rattle.std.specs.Prelude.{if◌then◌else◌, nat_lt, ◌==◌}
use Rattle.std.specs.List.{AllByRecursion, filter}
use Rattle.std.proofs.lemmas.Bool.{not-true}
use Rattle.yp_base.specs.declared.notice.Trigger.{Trigger}
use Rattle.yp_feed.specs.Machine.{is_mirrored, resyncs}
use Rattle.yp_attempt.specs.Content.{Content, IsLawful}
use Rattle.yp_attempt.specs.ListLaws.{all_append, all_before, all_rest, all_map, all_weaker, all_filter, filter_passes}
use Rattle.yp_attempt.specs.Tracks.{Track, Attempt, Answer, attempt, after_answer, rebased}
use Rattle.yp_attempt.specs.TrackLaws.{moment_same, answer_same}
use Rattle.yp_attempt.specs.Moments.{Moment, Act, Quiet, Starts, Controls, Drops, after_moment, is_kept_by, new_track, starts_sub, was_started, IsUnused, MayFollow}
use Rattle.yp_attempt.specs.Runs.{Run, Found, IsFirst, first_offer, with_started, run_advanced, run_settled, Reaches, opened, advances, settles}
use Rattle.yp_mirror.specs.Heard.{Told, told_nothing, told_by, of_sub}
use Rattle.yp_mirror.specs.Stories.{Story, Leads, TellsEntry, StartsAs, IsStory}
use Rattle.yp_mirror.specs.Following.{Follows, AllFollow}
use Rattle.yp_mirror.specs.Links.{Linked, LinkedIn, HaveOwnSubs, RunIsLinked}
use Rattle.yp_mirror.proofs.Lists.{all_two, same_number, other_number, number_is, IsOfOther, own_map, own_filter, own_append, AreAround, own_around, own_settled, heard_last, follow_last, of_same, of_other, of_none, stamp_last, started_more, started_new, unused_other}
use Rattle.yp_mirror.proofs.Refusing.{answer_goes_on}
use Rattle.yp_mirror.proofs.Looking.{looked_linked}
use Rattle.yp_mirror.proofs.Entering.{moment_linked, new_linked}

-- ---- an answer

-- the tracks with one that may have ended in the place of another
pub put_all : (P : Track → Type 0) (before : List Track) (track : Track) (after : List Track) (b : Bool) → track.feed.ended ≡ b → AllByRecursion P before → (track.feed.ended ≡ false → P track) → AllByRecursion P after → AllByRecursion P (before ++ ((if b then [] else track ∷ []) ++ after))
put_all P before track after true e f g h = all_append P before after f h
put_all P before track after false e f g h = all_append P before (track ∷ after) f (g e, h)

settled_linked : (c : Content) (story : Story) (leads : Leads c story) (receiver : ℕ) (past : List Moment) (run : Run) (found : Found) (answer : Answer) → RunIsLinked c story receiver past run → IsFirst c run.standing.stamp run.standing.tracks found → RunIsLinked c story receiver past (run_settled c run found answer)
settled_linked c story leads receiver past run found answer kept is =
    let n : ℕ = run.standing.position in
    let stamp : ℕ = run.standing.stamp in
    let here : Track = found.track in
    let new : Track = after_answer c n stamp here found.item answer in
    let a : Attempt = attempt c n stamp here found.item answer in
    let same : new.feed.sub ≡ here.feed.sub = (answer_same c n stamp here found.item answer).0 in
    let apart : HaveOwnSubs (found.before ++ here ∷ found.after) = subst HaveOwnSubs is.parts kept.own_subs in
    let around : AreAround found.before here found.after = own_around found.before here found.after apart in
    let WasStarted : Track → Type 0 = (λ track. was_started past track.feed.sub ≡ true) in
    let In : List Attempt → Track → Type 0 = (λ done. LinkedIn c story receiver n stamp done) in
    let known : AllByRecursion WasStarted (found.before ++ here ∷ found.after) = subst (AllByRecursion WasStarted) is.parts kept.started_tracks in
    let linked : AllByRecursion (In run.done) (found.before ++ here ∷ found.after) = subst (AllByRecursion (In run.done)) is.parts kept.linked in
    let its_start : WasStarted here = (all_rest WasStarted found.before (here ∷ found.after) known).0 in
    let mine : In run.done here = (all_rest (In run.done) found.before (here ∷ found.after) linked).0 in
    let next = answer_goes_on c story leads receiver n stamp here (told_by c (of_sub here.feed.sub run.done)) found.item answer mine is.offers in
    let other : (track : Track) → In run.done track → IsOfOther here.feed.sub track → In (run.done ++ a ∷ []) track =
    (λ track h far. subst (λ (xs : List Attempt). Linked c story receiver n n stamp track (told_by c xs)) (sym (of_other track.feed.sub run.done a (other_number track.feed.sub here.feed.sub far))) h) in
    let own : (of_sub here.feed.sub (run.done ++ a ∷ [])) ≡ of_sub here.feed.sub run.done ++ a ∷ [] = of_same here.feed.sub run.done a (number_is here.feed.sub) in
    record {
      position = kept.position;
      stamp = kept.stamp;
      started_tracks = put_all WasStarted found.before new found.after new.feed.ended refl (all_before WasStarted found.before (here ∷ found.after) known)
          (λ lives. ap (λ (x : ℕ). was_started past x) same ∙ its_start) (all_rest WasStarted found.before (here ∷ found.after) known).1;
      started_attempts = all_append (λ (x : Attempt). was_started past x.sub ≡ true) run.done (a ∷ []) kept.started_attempts (its_start, tt);
      own_subs = own_settled found.before here new found.after new.feed.ended same apart;
      linked = put_all (In (run.done ++ a ∷ [])) found.before new found.after new.feed.ended refl
          (all_two (In run.done) (IsOfOther here.feed.sub) (In (run.done ++ a ∷ [])) found.before other (all_before (In run.done) found.before (here ∷ found.after) linked) around.before_it)
          (λ lives. subst (λ (t : Told). Linked c story receiver n n stamp new t)
          (sym (ap (λ (x : ℕ). told_by c (of_sub x (run.done ++ a ∷ []))) same ∙ (ap (told_by c) own ∙ heard_last c told_nothing (of_sub here.feed.sub run.done) a))) (next.1 lives))
          (all_two (In run.done) (IsOfOther here.feed.sub) (In (run.done ++ a ∷ [])) found.after other (all_rest (In run.done) found.before (here ∷ found.after) linked).1 around.after_it);
      follow = λ sub. follow_by sub (here.feed.sub == sub) refl next.0 kept.follow;
    }
  where
    follow_by : (sub : ℕ) (b : Bool) → (found.track.feed.sub == sub) ≡ b
        → Follows c story found.track.feed.sub (told_by c (of_sub found.track.feed.sub run.done)) (attempt c run.standing.position run.standing.stamp found.track found.item answer)
        → ((x : ℕ) → AllFollow c story x told_nothing (of_sub x run.done))
        → AllFollow c story sub told_nothing (of_sub sub (run.done ++ attempt c run.standing.position run.standing.stamp found.track found.item answer ∷ []))
    follow_by sub true e f g =
        let q : found.track.feed.sub ≡ sub = same_number found.track.feed.sub sub e in
        subst (λ (xs : List Attempt). AllFollow c story sub told_nothing xs) (sym (of_same sub run.done (attempt c run.standing.position run.standing.stamp found.track found.item answer) e))
        (follow_last c story sub told_nothing (of_sub sub run.done) (attempt c run.standing.position run.standing.stamp found.track found.item answer) (g sub)
        (subst (λ (x : ℕ). Follows c story x (told_by c (of_sub x run.done)) (attempt c run.standing.position run.standing.stamp found.track found.item answer)) q f))
    follow_by sub false e f g =
        subst (λ (xs : List Attempt). AllFollow c story sub told_nothing xs) (sym (of_other sub run.done (attempt c run.standing.position run.standing.stamp found.track found.item answer) e)) (g sub)

-- ---- an entry

-- what holds of the tracks with the new ones
record StayLinked (c : Content) (story : Story) (receiver n stamp : ℕ) (past : List Moment) (done : List Attempt) (tracks : List Track) : Type 0 where
  pub started : AllByRecursion (λ track. was_started past track.feed.sub ≡ true) tracks
  pub linked : AllByRecursion (LinkedIn c story receiver n stamp done) tracks
  pub own_subs : HaveOwnSubs tracks

none_start : (c : Content) (story : Story) (receiver n stamp : ℕ) (past : List Moment) (done : List Attempt) (tracks : List Track) (m : Moment)
    → AllByRecursion (λ track. was_started past track.feed.sub ≡ true) tracks → AllByRecursion (LinkedIn c story receiver n stamp done) tracks → HaveOwnSubs tracks → StayLinked c story receiver n stamp (past ++ m ∷ []) done tracks
none_start c story receiver n stamp past done tracks m known linked apart = record {
  started = all_weaker (λ (track : Track). was_started past track.feed.sub ≡ true) (λ (track : Track). was_started (past ++ m ∷ []) track.feed.sub ≡ true) tracks (λ track k. started_more past m track.feed.sub k) known;
  linked = linked;
  own_subs = apart;
}

below_other : (a b sub : ℕ) → nat_lt a sub ≡ true → nat_lt b sub ≡ false → (b == a) ≡ false
below_other a b sub e f = grind (arith, e, f)

below_same : (a sub : ℕ) → nat_lt a sub ≡ true → (sub == a) ≡ false
below_same a sub e = grind (arith, e)

one_starts : (c : Content) (story : Story) (receiver n : ℕ) (past : List Moment) (done : List Attempt) (tracks : List Track) (m : Moment) (sub : ℕ) (trigger : Trigger) (configured b : Bool)
    → was_started past sub ≡ false → was_started (past ++ m ∷ []) sub ≡ true → (story.mirrored sub ≡ is_mirrored trigger) × (story.resyncing sub ≡ resyncs trigger) → m.selection sub receiver ≡ story.want sub n
    → AllByRecursion (λ track. was_started past track.feed.sub ≡ true) tracks → AllByRecursion (LinkedIn c story receiver n m.stamp done) tracks → AllByRecursion (λ a. was_started past a.sub ≡ true) done → HaveOwnSubs tracks
    → StayLinked c story receiver n m.stamp (past ++ m ∷ []) done (filter (λ track. nat_lt track.feed.sub sub) tracks ++ (map (new_track m n sub trigger configured) (if b then receiver ∷ [] else []) ++ filter (λ track. not (nat_lt track.feed.sub sub)) tracks))
one_starts c story receiver n past done tracks m sub trigger configured b unused begun as_told selection known linked started_attempts apart =
    let p : Track → Bool = (λ track. nat_lt track.feed.sub sub) in
    let q : Track → Bool = (λ track. not (nat_lt track.feed.sub sub)) in
    let Known : Track → Type 0 = (λ track. was_started (past ++ m ∷ []) track.feed.sub ≡ true) in
    let In : Track → Type 0 = LinkedIn c story receiver n m.stamp done in
    let now : AllByRecursion Known tracks = all_weaker (λ (track : Track). was_started past track.feed.sub ≡ true) Known tracks (λ track k. started_more past m track.feed.sub k) known in
    let far : AllByRecursion (IsOfOther sub) tracks = all_weaker (λ (track : Track). was_started past track.feed.sub ≡ true) (IsOfOther sub) tracks (λ track k. unused_other past sub track.feed.sub unused k) known in
    let new : In (new_track m n sub trigger configured receiver) =
    subst (λ (xs : List Attempt). Linked c story receiver n n m.stamp (new_track m n sub trigger configured receiver) (told_by c xs))
    (sym (of_none sub done (all_weaker (λ (a : Attempt). was_started past a.sub ≡ true) (λ (a : Attempt). (a.sub == sub) ≡ false) done (λ a k. unused_other past sub a.sub unused k) started_attempts)))
    (new_linked c story receiver n sub m trigger configured selection as_told.0 as_told.1) in
    let later : AllByRecursion (λ (track : Track). nat_lt track.feed.sub sub ≡ false) (filter q tracks) = all_weaker (λ (track : Track). q track ≡ true) (λ (track : Track). nat_lt track.feed.sub sub ≡ false) (filter q tracks) (λ track e. not-true (nat_lt track.feed.sub sub) e) (filter_passes q tracks) in
    let cross : AllByRecursion (λ x. AllByRecursion (IsOfOther x.feed.sub) (filter q tracks)) (filter p tracks) =
    all_weaker (λ (x : Track). p x ≡ true) (λ (x : Track). AllByRecursion (IsOfOther x.feed.sub) (filter q tracks)) (filter p tracks)
    (λ x e. all_weaker (λ (track : Track). nat_lt track.feed.sub sub ≡ false) (IsOfOther x.feed.sub) (filter q tracks) (λ track f. below_other x.feed.sub track.feed.sub sub e f) later) (filter_passes p tracks) in
    by b now new far cross (all_filter In p tracks linked) (all_filter In q tracks linked) (own_filter p tracks apart) (own_filter q tracks apart)
  where
    by : (b : Bool) → AllByRecursion (λ track. was_started (past ++ m ∷ []) track.feed.sub ≡ true) tracks → LinkedIn c story receiver n m.stamp done (new_track m n sub trigger configured receiver) → AllByRecursion (IsOfOther sub) tracks
        → AllByRecursion (λ x. AllByRecursion (IsOfOther x.feed.sub) (filter (λ track. not (nat_lt track.feed.sub sub)) tracks)) (filter (λ track. nat_lt track.feed.sub sub) tracks)
        → AllByRecursion (LinkedIn c story receiver n m.stamp done) (filter (λ track. nat_lt track.feed.sub sub) tracks) → AllByRecursion (LinkedIn c story receiver n m.stamp done) (filter (λ track. not (nat_lt track.feed.sub sub)) tracks)
        → HaveOwnSubs (filter (λ track. nat_lt track.feed.sub sub) tracks) → HaveOwnSubs (filter (λ track. not (nat_lt track.feed.sub sub)) tracks)
        → StayLinked c story receiver n m.stamp (past ++ m ∷ []) done (filter (λ track. nat_lt track.feed.sub sub) tracks ++ (map (new_track m n sub trigger configured) (if b then receiver ∷ [] else []) ++ filter (λ track. not (nat_lt track.feed.sub sub)) tracks))
    by false now new far cross low high apart_low apart_high = record {
      started = all_append (λ (track : Track). was_started (past ++ m ∷ []) track.feed.sub ≡ true) (filter (λ track. nat_lt track.feed.sub sub) tracks) (filter (λ track. not (nat_lt track.feed.sub sub)) tracks)
          (all_filter (λ (track : Track). was_started (past ++ m ∷ []) track.feed.sub ≡ true) (λ track. nat_lt track.feed.sub sub) tracks now) (all_filter (λ (track : Track). was_started (past ++ m ∷ []) track.feed.sub ≡ true) (λ track. not (nat_lt track.feed.sub sub)) tracks now);
      linked = all_append (LinkedIn c story receiver n m.stamp done) (filter (λ track. nat_lt track.feed.sub sub) tracks) (filter (λ track. not (nat_lt track.feed.sub sub)) tracks) low high;
      own_subs = own_append (filter (λ track. nat_lt track.feed.sub sub) tracks) (filter (λ track. not (nat_lt track.feed.sub sub)) tracks) apart_low apart_high cross;
    }
    by true now new far cross low high apart_low apart_high = record {
      started = all_append (λ (track : Track). was_started (past ++ m ∷ []) track.feed.sub ≡ true) (filter (λ track. nat_lt track.feed.sub sub) tracks) (new_track m n sub trigger configured receiver ∷ filter (λ track. not (nat_lt track.feed.sub sub)) tracks)
          (all_filter (λ (track : Track). was_started (past ++ m ∷ []) track.feed.sub ≡ true) (λ track. nat_lt track.feed.sub sub) tracks now) (begun, all_filter (λ (track : Track). was_started (past ++ m ∷ []) track.feed.sub ≡ true) (λ track. not (nat_lt track.feed.sub sub)) tracks now);
      linked = all_append (LinkedIn c story receiver n m.stamp done) (filter (λ track. nat_lt track.feed.sub sub) tracks) (new_track m n sub trigger configured receiver ∷ filter (λ track. not (nat_lt track.feed.sub sub)) tracks) low (new, high);
      own_subs = own_append (filter (λ track. nat_lt track.feed.sub sub) tracks) (new_track m n sub trigger configured receiver ∷ filter (λ track. not (nat_lt track.feed.sub sub)) tracks) apart_low
          (all_filter (IsOfOther sub) (λ track. not (nat_lt track.feed.sub sub)) tracks far, apart_high)
          (all_two (λ (x : Track). nat_lt x.feed.sub sub ≡ true) (λ (x : Track). AllByRecursion (IsOfOther x.feed.sub) (filter (λ track. not (nat_lt track.feed.sub sub)) tracks))
          (λ (x : Track). AllByRecursion (IsOfOther x.feed.sub) (new_track m n sub trigger configured receiver ∷ filter (λ track. not (nat_lt track.feed.sub sub)) tracks)) (filter (λ track. nat_lt track.feed.sub sub) tracks)
          (λ x e f. (below_same x.feed.sub sub e, f)) (filter_passes (λ (track : Track). nat_lt track.feed.sub sub) tracks) cross);
    }

starts : (c : Content) (story : Story) (receiver n : ℕ) (past : List Moment) (done : List Attempt) (tracks : List Track) (m : Moment) (act : Act) → IsUnused past act → ((sub : ℕ) → starts_sub act sub ≡ true → was_started (past ++ m ∷ []) sub ≡ true)
    → StartsAs story act → ((sub : ℕ) → m.selection sub receiver ≡ story.want sub n)
    → AllByRecursion (λ track. was_started past track.feed.sub ≡ true) tracks → AllByRecursion (LinkedIn c story receiver n m.stamp done) tracks → AllByRecursion (λ a. was_started past a.sub ≡ true) done → HaveOwnSubs tracks
    → StayLinked c story receiver n m.stamp (past ++ m ∷ []) done (with_started m n act (receiver ∷ []) tracks)
starts c story receiver n past done tracks m Quiet unused begun as_told selection known linked started_attempts apart = none_start c story receiver n m.stamp past done tracks m known linked apart
starts c story receiver n past done tracks m (Starts sub trigger configured names) unused begun as_told selection known linked started_attempts apart =
    one_starts c story receiver n past done tracks m sub trigger configured (names receiver) unused (begun sub (number_is sub)) as_told (selection sub) known linked started_attempts apart
starts c story receiver n past done tracks m (Controls sub control) unused begun as_told selection known linked started_attempts apart = none_start c story receiver n m.stamp past done tracks m known linked apart
starts c story receiver n past done tracks m (Drops sub) unused begun as_told selection known linked started_attempts apart = none_start c story receiver n m.stamp past done tracks m known linked apart

advanced_linked : (c : Content) (lawful : IsLawful c) (story : Story) (leads : Leads c story) (receiver : ℕ) (past : List Moment) (run : Run) (m : Moment) → RunIsLinked c story receiver past run → MayFollow past m → TellsEntry story receiver (length past + 1) m → RunIsLinked c story receiver (past ++ m ∷ []) (run_advanced c (receiver ∷ []) m run)
advanced_linked c lawful story leads receiver past run m kept may tells =
    let n : ℕ = run.standing.position in
    let later : run.standing.stamp ≤ m.stamp = subst (λ (x : ℕ). x ≤ m.stamp) (sym kept.stamp) may.stamp in
    let so : TellsEntry story receiver (n + 1) m = subst (λ (x : ℕ). TellsEntry story receiver (x + 1) m) (sym kept.position) tells in
    let WasStarted : Track → Type 0 = (λ track. was_started past track.feed.sub ≡ true) in
    let f : Track → Track = rebased c n run.standing.stamp in
    let g : Track → Track = after_moment c m (n + 1) in
    let before : List Track = filter (is_kept_by m.act) (map f run.standing.tracks) in
    let known_before : AllByRecursion WasStarted before = all_filter WasStarted (is_kept_by m.act) (map f run.standing.tracks) (all_map WasStarted WasStarted f run.standing.tracks (λ track k. k) kept.started_tracks) in
    let known_after : AllByRecursion WasStarted (map g before) = all_map WasStarted WasStarted g before (λ track k. ap (λ (x : ℕ). was_started past x) (moment_same c m (n + 1) track).0 ∙ k) known_before in
    let linked_before : AllByRecursion (LinkedIn c story receiver n run.standing.stamp run.done) before =
    all_filter (LinkedIn c story receiver n run.standing.stamp run.done) (is_kept_by m.act) (map f run.standing.tracks)
    (all_map (LinkedIn c story receiver n run.standing.stamp run.done) (LinkedIn c story receiver n run.standing.stamp run.done) f run.standing.tracks
    (λ track h. looked_linked c lawful story receiver n run.standing.stamp track (told_by c (of_sub track.feed.sub run.done)) h) kept.linked) in
    let linked_after : AllByRecursion (LinkedIn c story receiver (n + 1) m.stamp run.done) (map g before) =
    all_map (LinkedIn c story receiver n run.standing.stamp run.done) (LinkedIn c story receiver (n + 1) m.stamp run.done) g before
    (λ track h. subst (λ (x : ℕ). Linked c story receiver (n + 1) (n + 1) m.stamp (g track) (told_by c (of_sub x run.done))) (sym (moment_same c m (n + 1) track).0)
    (moment_linked c story leads receiver n run.standing.stamp track (told_by c (of_sub track.feed.sub run.done)) m h so later)) linked_before in
    let apart_after : HaveOwnSubs (map g before) = own_map g before (λ track. (moment_same c m (n + 1) track).0) (own_filter (is_kept_by m.act) (map f run.standing.tracks) (own_map f run.standing.tracks (λ track. refl) kept.own_subs)) in
    let all : StayLinked c story receiver (n + 1) m.stamp (past ++ m ∷ []) run.done (with_started m (n + 1) m.act (receiver ∷ []) (map g before)) =
    starts c story receiver (n + 1) past run.done (map g before) m m.act may.unused (λ sub e. started_new past m sub e) so.starts so.selection known_after linked_after kept.started_attempts apart_after in
    record {
      position = ap (λ (x : ℕ). x + 1) kept.position ∙ sym (length-append past (m ∷ []));
      stamp = sym (stamp_last 0 past m);
      started_tracks = all.started;
      started_attempts = all_weaker (λ (a : Attempt). was_started past a.sub ≡ true) (λ (a : Attempt). was_started (past ++ m ∷ []) a.sub ≡ true) run.done (λ a k. started_more past m a.sub k) kept.started_attempts;
      own_subs = all.own_subs;
      linked = all.linked;
      follow = kept.follow;
    }

-- ---- the induction

-- what is found is the first offer, as yp_attempt tells
abbrev pub FirstIsFound : Type 0
FirstIsFound = (c : Content) (stamp : ℕ) (tracks : List Track) (found : Found) → first_offer c stamp tracks ≡ Some found → IsFirst c stamp tracks found

pub run_linked : FirstIsFound → (c : Content) (lawful : IsLawful c) (story : Story) (leads : Leads c story) (receiver : ℕ) (journal : List Moment) → IsStory story receiver journal → (past : List Moment) (answers : List Answer) (run : Run) → Reaches c (receiver ∷ []) past answers run
    → (rest : List Moment) → past ++ rest ≡ journal → RunIsLinked c story receiver past run
run_linked first c lawful story leads receiver journal tells _ _ _ opened rest e = record { position = refl; stamp = refl; started_tracks = tt; started_attempts = tt; own_subs = tt; linked = tt; follow = λ sub. tt }
run_linked first c lawful story leads receiver journal tells _ _ _ (advances past answers run m r may idle) rest e =
    let q : past ++ m ∷ rest ≡ journal = sym (append_assoc past (m ∷ []) rest) ∙ e in
    advanced_linked c lawful story leads receiver past run m (run_linked first c lawful story leads receiver journal tells past answers run r (m ∷ rest) q) may (tells past m rest q)
run_linked first c lawful story leads receiver journal tells _ _ _ (settles past answers run found answer r offers) rest e =
    settled_linked c story leads receiver past run found answer (run_linked first c lawful story leads receiver journal tells past answers run r rest e) (first c run.standing.stamp run.standing.tracks found offers)
