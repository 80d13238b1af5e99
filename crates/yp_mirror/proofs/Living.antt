-- Each attempt is of a subscription that has the receiver, and each update of one that has not ended: by induction over entries and answers.
use Rattle.std.proofs.Common.{◌≡◌, ℕ, ◌+◌, refl, sym, ap, subst, ◌∙◌, Bool, true, false, not, ◌&&◌, ◌||◌, List, [], ◌∷◌, ◌++◌, map, length, take, Option, Some, arith, length-append}
use Rattle.std.specs.Prelude.{if◌then◌else◌, nat_lt, ◌==◌}
use Rattle.std.specs.List.{AllByRecursion, filter}
use Rattle.std.proofs.lemmas.Bool.{true≢false}
use Rattle.std.proofs.lemmas.List.{take-append-le, take_all}
use Rattle.std.proofs.lemmas.Option.{same_Some}
use Rattle.yp_base.specs.declared.notice.Trigger.{Trigger}
use Rattle.yp_feed.specs.declared.item.Control.{Control}
use Rattle.yp_feed.specs.declared.item.Control.TheVariants.{Modify, Resync, Rules, End}
use Rattle.yp_feed.specs.declared.item.Item.{Item}
use Rattle.yp_feed.specs.declared.item.Item.TheVariants.{Started, Modified, Incomplete, Suspended, Resumed, Sync, Terminated, Changes, Periodic}
use Rattle.yp_feed.specs.declared.owed.Owed.{Owed}
use Rattle.yp_feed.specs.Machine.{FeedState, after_freeze, controlled, counted, due_item, first_of, first_owed, freezes, frozen, is_at, is_on_change, refused, restarted, suspended, suspends, taken, without}
use Rattle.yp_attempt.specs.Content.{Content}
use Rattle.yp_attempt.specs.ListLaws.{all_append, all_before, all_rest, all_map, all_weaker, all_filter, filter_passes, unblocked}
use Rattle.yp_attempt.specs.Moments.{Moment, Act, Quiet, Starts, Controls, Drops, after_act, after_moment, after_rules, is_kept_by, new_track, with_control, with_selection}
use Rattle.yp_attempt.specs.Runs.{Run, Found, IsFirst, Reaches, advances, opened, run_advanced, run_settled, settles, with_started}
use Rattle.yp_attempt.specs.TrackLaws.{answer_same, moment_same}
use Rattle.yp_attempt.specs.Tracks.{Answer, Attempt, Full, Took, Track, after_answer, attempt, edit_count, item_made, offered_item, rebased, roots_in, with_feed}
use Rattle.yp_mirror.specs.Heard.{is_update}
use Rattle.yp_mirror.specs.Living.{IsOfLiving, ended_after, ended_by, ended_with, has_after, has_by, has_ended, has_receiver}
use Rattle.yp_mirror.proofs.Facts.{clash}
use Rattle.yp_mirror.proofs.Lists.{number_is}
use Rattle.yp_mirror.proofs.Running.{FirstIsFound, put_all}

-- ---- one entry more

has_last : (sub receiver : ℕ) (had : Bool) (past : List Moment) (m : Moment) → has_after sub receiver had (past ++ m ∷ []) ≡ has_by sub receiver (has_after sub receiver had past) m.act
has_last sub receiver had [] m = refl
has_last sub receiver had (x ∷ past) m = has_last sub receiver (has_by sub receiver had x.act) past m

ended_last : (sub : ℕ) (ended : Bool) (past : List Moment) (m : Moment) → ended_after sub ended (past ++ m ∷ []) ≡ ended_by sub (ended_after sub ended past) m.act
ended_last sub ended [] m = refl
ended_last sub ended (x ∷ past) m = ended_last sub (ended_by sub ended x.act) past m

-- a track that is kept still has the receiver
kept_has : (act : Act) (track : Track) (receiver : ℕ) → is_kept_by act track ≡ true → has_by track.feed.sub receiver true act ≡ true
kept_has Quiet track receiver e = refl
kept_has (Starts sub trigger configured names) track receiver e = refl
kept_has (Controls sub control) track receiver e = refl
kept_has (Drops sub) track receiver e = e

-- ---- a feed that ends

-- it owes nothing but that it began and that it ended
record IsEnding (o : Owed) : Type 0 where
  pub modified : o.modified ≡ false
  pub incomplete : o.incomplete ≡ false
  pub suspended : o.suspended ≡ false
  pub resumed : o.resumed ≡ false
  pub sync : o.sync ≡ false
  pub terminated : o.terminated ≡ true

none_of : (a b c : Bool) → (a && (b && (c && false))) ≡ false
none_of true true true = refl
none_of true true false = refl
none_of true false c = refl
none_of false b c = refl

-- no record of it is set aside
no_freeze : (f : FeedState) (roots : ℕ) → IsEnding f.owed → freezes f roots ≡ false
no_freeze f roots h =
    (λ i. is_on_change f.trigger && (nat_lt 0 f.tries && (nat_lt 256 roots && not (h.incomplete i || (h.suspended i || (h.resumed i || (h.sync i || h.terminated i)))))))
    ∙ none_of (is_on_change f.trigger) (nat_lt 0 f.tries) (nat_lt 256 roots)

freeze_ending : (f : FeedState) (roots : ℕ) → IsEnding f.owed → IsEnding (after_freeze f roots).owed
freeze_ending f roots h = subst (λ (b : Bool). IsEnding (if b then frozen f else f).owed) (sym (no_freeze f roots h)) h

restarted_unless : (f : FeedState) (n : ℕ) (b : Bool) → f.owed.terminated ≡ b → IsEnding f.owed → IsEnding (if b then f else restarted f n).owed
restarted_unless f n true e h = h
restarted_unless f n false e h = clash f.owed.terminated h.terminated e

-- it stays so, whatever happens to it, where this leaves it ended
control_ending : (f : FeedState) (control : Control) (n stamp : ℕ) (ended : Bool) → (ended ≡ true → IsEnding f.owed) → ended_with ended control ≡ true → IsEnding (controlled f control n stamp).owed
control_ending f (Modify trigger notify) n stamp ended h e = absurd (true≢false (sym e))
control_ending f Resync n stamp ended h e = absurd (true≢false (sym e))
control_ending f Rules n stamp ended h e = restarted_unless f n f.owed.terminated refl (h e)
control_ending f End n stamp ended h e = record { modified = refl; incomplete = refl; suspended = refl; resumed = refl; sync = refl; terminated = refl }

act_by : (n stamp : ℕ) (control : Control) (track : Track) (ended b : Bool) → (ended ≡ true → IsEnding track.feed.owed) → (if b then ended_with ended control else ended) ≡ true → IsEnding (if b then with_control n stamp control track else track).feed.owed
act_by n stamp control track ended true h e = control_ending track.feed control n stamp ended h e
act_by n stamp control track ended false h e = h e

act_ending : (n stamp : ℕ) (act : Act) (track : Track) (ended : Bool) → (ended ≡ true → IsEnding track.feed.owed) → ended_by track.feed.sub ended act ≡ true → IsEnding (after_act n stamp act track).feed.owed
act_ending n stamp Quiet track ended h e = h e
act_ending n stamp (Starts sub trigger configured names) track ended h e = h (left ended e)
  where
    left : (b : Bool) → (b && not (track.feed.sub == sub)) ≡ true → b ≡ true
    left true e = refl
    left false e = e
act_ending n stamp (Controls sub control) track ended h e = act_by n stamp control track ended (track.feed.sub == sub) h e
act_ending n stamp (Drops sub) track ended h e = h e

rules_ending : (n : ℕ) (m : Moment) (track : Track) (b : Bool) → IsEnding track.feed.owed → IsEnding (if b then with_control n m.stamp Rules track else track).feed.owed
rules_ending n m track true h = control_ending track.feed Rules n m.stamp true (λ e. h) refl
rules_ending n m track false h = h

moment_ending : (c : Content) (n : ℕ) (m : Moment) (track : Track) (ended : Bool) → (ended ≡ true → IsEnding track.feed.owed) → ended_by track.feed.sub ended m.act ≡ true → IsEnding (after_moment c m n track).feed.owed
moment_ending c n m track ended h e =
    let acted : Track = after_act n m.stamp m.act (with_selection m track) in
    let ruled : Track = after_rules n m acted in
    freeze_ending ruled.feed (roots_in c ruled) (rules_ending n m acted (m.rules acted.feed.receiver) (act_ending n m.stamp m.act (with_selection m track) ended h e))

-- so it does after an answer, unless it told its end
taken_ending : (o : Owed) (item : Item) → IsEnding o → (item ≡ Terminated → ⊥) → IsEnding (without o item)
taken_ending o Started h other = record { modified = h.modified; incomplete = h.incomplete; suspended = h.suspended; resumed = h.resumed; sync = h.sync; terminated = h.terminated }
taken_ending o Modified h other = record { modified = refl; incomplete = h.incomplete; suspended = h.suspended; resumed = h.resumed; sync = h.sync; terminated = h.terminated }
taken_ending o Incomplete h other = record { modified = h.modified; incomplete = refl; suspended = h.suspended; resumed = h.resumed; sync = h.sync; terminated = h.terminated }
taken_ending o Suspended h other = record { modified = h.modified; incomplete = h.incomplete; suspended = refl; resumed = h.resumed; sync = h.sync; terminated = h.terminated }
taken_ending o Resumed h other = record { modified = h.modified; incomplete = h.incomplete; suspended = h.suspended; resumed = refl; sync = h.sync; terminated = h.terminated }
taken_ending o Sync h other = record { modified = h.modified; incomplete = h.incomplete; suspended = h.suspended; resumed = h.resumed; sync = refl; terminated = h.terminated }
taken_ending o Terminated h other = absurd (other refl)
taken_ending o Changes h other = h
taken_ending o Periodic h other = h

no_suspension : (f : FeedState) → IsEnding f.owed → suspends f ≡ false
no_suspension f h = (λ i. (f.tries == 8) && (not f.suspended && not (h.terminated i))) ∙ none_of (f.tries == 8) (not f.suspended) true

refused_ending : (f : FeedState) (item : Item) (stamp : ℕ) → IsEnding f.owed → IsEnding (refused f item stamp).owed
refused_ending f item stamp h = subst (λ (b : Bool). IsEnding (if b then suspended (counted f item stamp) else counted f item stamp).owed) (sym (no_suspension (counted f item stamp) h)) h

answer_ending : (c : Content) (n stamp : ℕ) (track : Track) (item : Item) (answer : Answer) → IsEnding track.feed.owed → (after_answer c n stamp track item answer).feed.ended ≡ false → IsEnding (after_answer c n stamp track item answer).feed.owed
answer_ending c n stamp track item Took h lives = taken_ending track.feed.owed item h (λ e. true≢false (sym (ap (λ (x : Item). (taken track.feed x n stamp).ended) e) ∙ lives))
answer_ending c n stamp track item Full h lives =
    let met : Track = with_feed track (refused track.feed item stamp) false in
    freeze_ending met.feed (roots_in c met) (refused_ending track.feed item stamp h)

-- what it offers is no update
told : (c : Content) (n stamp : ℕ) (track : Track) (item : Item) (other : Option Item) (b : Bool) → first_of b false false false false false true other ≡ Some item → is_update (item_made c track item n stamp).body ≡ false
told c n stamp track item other true e = subst (λ (x : Item). is_update (item_made c track x n stamp).body ≡ false) (same_Some Started item e) refl
told c n stamp track item other false e = subst (λ (x : Item). is_update (item_made c track x n stamp).body ≡ false) (same_Some Terminated item e) refl

no_update : (c : Content) (n stamp : ℕ) (track : Track) (item : Item) → IsEnding track.feed.owed → offered_item c stamp track ≡ Some item → is_update (item_made c track item n stamp).body ≡ false
no_update c n stamp track item h e =
    let f : FeedState = track.feed in
    let other : Option Item = due_item f.trigger f.last_record f.due (roots_in c track) (edit_count c track) stamp in
    told c n stamp track item other f.owed.started
    ((λ i. first_of f.owed.started (sym h.modified i) (sym h.incomplete i) (sym h.suspended i) (sym h.resumed i) (sym h.sync i) (sym h.terminated i) other)
    ∙ (unblocked (is_at f.last_full stamp) (first_owed f.owed other) item e).1)

-- ---- a run

-- a track has the receiver, and ends where its subscription has ended
record TrackLives (receiver : ℕ) (past : List Moment) (track : Track) : Type 0 where
  pub has : has_receiver track.feed.sub receiver past ≡ true
  pub ending : has_ended track.feed.sub past ≡ true → IsEnding track.feed.owed

record RunLives (receiver : ℕ) (past : List Moment) (run : Run) : Type 0 where
  pub position : run.standing.position ≡ length past
  pub tracks : AllByRecursion (TrackLives receiver past) run.standing.tracks
  pub attempts : AllByRecursion (IsOfLiving receiver past) run.done

-- ---- an answer

attempt_lives : (c : Content) (receiver n stamp : ℕ) (past : List Moment) (track : Track) (item : Item) (answer : Answer) → n ≡ length past → TrackLives receiver past track → offered_item c stamp track ≡ Some item
    → IsOfLiving receiver past (attempt c n stamp track item answer)
attempt_lives c receiver n stamp past track item answer position h offers =
    let all : take n past ≡ past = take_all n past (omega (arith, position)) in
    record {
      within = omega (arith, position);
      has = ap (λ (xs : List Moment). has_receiver track.feed.sub receiver xs) all ∙ h.has;
      lives = λ update. ap (λ (xs : List Moment). has_ended track.feed.sub xs) all ∙ by update (has_ended track.feed.sub past) refl;
    }
  where
    by : is_update (item_made c track item n stamp).body ≡ true → (b : Bool) → has_ended track.feed.sub past ≡ b → has_ended track.feed.sub past ≡ false
    by update true e = clash (is_update (item_made c track item n stamp).body) update (no_update c n stamp track item (h.ending e) offers)
    by update false e = e

settled_lives : (c : Content) (receiver : ℕ) (past : List Moment) (run : Run) (found : Found) (answer : Answer) → RunLives receiver past run → IsFirst c run.standing.stamp run.standing.tracks found → RunLives receiver past (run_settled c run found answer)
settled_lives c receiver past run found answer kept is =
    let n : ℕ = run.standing.position in
    let stamp : ℕ = run.standing.stamp in
    let new : Track = after_answer c n stamp found.track found.item answer in
    let same : new.feed.sub ≡ found.track.feed.sub = (answer_same c n stamp found.track found.item answer).0 in
    let Lives : Track → Type 0 = TrackLives receiver past in
    let all : AllByRecursion Lives (found.before ++ found.track ∷ found.after) = subst (AllByRecursion Lives) is.parts kept.tracks in
    let mine : Lives found.track = (all_rest Lives found.before (found.track ∷ found.after) all).0 in
    record {
      position = kept.position;
      tracks = put_all Lives found.before new found.after new.feed.ended refl (all_before Lives found.before (found.track ∷ found.after) all)
          (λ lives. record {
            has = ap (λ (x : ℕ). has_receiver x receiver past) same ∙ mine.has;
            ending = λ e. answer_ending c n stamp found.track found.item answer (mine.ending (sym (ap (λ (x : ℕ). has_ended x past) same) ∙ e)) lives;
          })
          (all_rest Lives found.before (found.track ∷ found.after) all).1;
      attempts = all_append (IsOfLiving receiver past) run.done (attempt c n stamp found.track found.item answer ∷ []) kept.attempts (attempt_lives c receiver n stamp past found.track found.item answer kept.position mine is.offers, tt);
    }

-- ---- an entry

moment_lives : (c : Content) (receiver n : ℕ) (past : List Moment) (m : Moment) (track : Track) → is_kept_by m.act track ≡ true → TrackLives receiver past track → TrackLives receiver (past ++ m ∷ []) (after_moment c m n track)
moment_lives c receiver n past m track kept h =
    let same : (after_moment c m n track).feed.sub ≡ track.feed.sub = (moment_same c m n track).0 in
    record {
      has = ap (λ (x : ℕ). has_receiver x receiver (past ++ m ∷ [])) same ∙ (has_last track.feed.sub receiver false past m ∙ (ap (λ (b : Bool). has_by track.feed.sub receiver b m.act) h.has ∙ kept_has m.act track receiver kept));
      ending = λ e. moment_ending c n m track (has_ended track.feed.sub past) h.ending (sym (ended_last track.feed.sub false past m) ∙ (sym (ap (λ (x : ℕ). has_ended x (past ++ m ∷ [])) same) ∙ e));
    }

-- one that starts
new_lives : (receiver n : ℕ) (past : List Moment) (m : Moment) (sub : ℕ) (trigger : Trigger) (configured : Bool) (names : ℕ → Bool) → m.act ≡ Starts sub trigger configured names → names receiver ≡ true → TrackLives receiver (past ++ m ∷ []) (new_track m n sub trigger configured receiver)
new_lives receiver n past m sub trigger configured names is named = record {
  has = has_last sub receiver false past m ∙ (ap (λ (act : Act). has_by sub receiver (has_receiver sub receiver past) act) is ∙ begins (has_receiver sub receiver past));
  ending = λ e. clash (ended_by sub (has_ended sub past) m.act) (sym (ended_last sub false past m) ∙ e) (ap (λ (act : Act). ended_by sub (has_ended sub past) act) is ∙ ends_not (has_ended sub past));
}
  where
    begins : (b : Bool) → (b || ((sub == sub) && names receiver)) ≡ true
    begins true = refl
    begins false = (λ i. number_is sub i && named i)

    ends_not : (b : Bool) → (b && not (sub == sub)) ≡ false
    ends_not true = ap not (number_is sub)
    ends_not false = refl

starts_all : (P : Track → Type 0) (m : Moment) (n receiver : ℕ) (act : Act) (tracks : List Track)
    → ((sub : ℕ) (trigger : Trigger) (configured : Bool) (names : ℕ → Bool) → act ≡ Starts sub trigger configured names → names receiver ≡ true → P (new_track m n sub trigger configured receiver))
    → AllByRecursion P tracks → AllByRecursion P (with_started m n act (receiver ∷ []) tracks)
starts_all P m n receiver Quiet tracks new all = all
starts_all P m n receiver (Starts sub trigger configured names) tracks new all = by (names receiver) refl
  where
    by : (b : Bool) → names receiver ≡ b → AllByRecursion P (filter (λ track. nat_lt track.feed.sub sub) tracks ++ (map (new_track m n sub trigger configured) (if b then receiver ∷ [] else []) ++ filter (λ track. not (nat_lt track.feed.sub sub)) tracks))
    by true e =
        all_append P (filter (λ track. nat_lt track.feed.sub sub) tracks) (new_track m n sub trigger configured receiver ∷ filter (λ track. not (nat_lt track.feed.sub sub)) tracks) (all_filter P (λ track. nat_lt track.feed.sub sub) tracks all)
        (new sub trigger configured names refl e, all_filter P (λ track. not (nat_lt track.feed.sub sub)) tracks all)
    by false e = all_append P (filter (λ track. nat_lt track.feed.sub sub) tracks) (filter (λ track. not (nat_lt track.feed.sub sub)) tracks) (all_filter P (λ track. nat_lt track.feed.sub sub) tracks all) (all_filter P (λ track. not (nat_lt track.feed.sub sub)) tracks all)
starts_all P m n receiver (Controls sub control) tracks new all = all
starts_all P m n receiver (Drops sub) tracks new all = all

-- what was offered before stays as it was
attempt_stays : (receiver : ℕ) (past : List Moment) (m : Moment) (a : Attempt) → IsOfLiving receiver past a → IsOfLiving receiver (past ++ m ∷ []) a
attempt_stays receiver past m a h =
    let same : take a.at (past ++ m ∷ []) ≡ take a.at past = take-append-le a.at past (m ∷ []) h.within in
    let longer : length (past ++ m ∷ []) ≡ length past + 1 = length-append past (m ∷ []) in
    record {
      within = omega (arith, h.within, longer);
      has = ap (λ (xs : List Moment). has_receiver a.sub receiver xs) same ∙ h.has;
      lives = λ update. ap (λ (xs : List Moment). has_ended a.sub xs) same ∙ h.lives update;
    }

both : {X : Type 0} (P Q : X → Type 0) (xs : List X) → AllByRecursion P xs → AllByRecursion Q xs → AllByRecursion (λ x. P x × Q x) xs
both P Q [] h k = tt
both P Q (x ∷ xs) h k = ((h.0, k.0), both P Q xs h.1 k.1)

advanced_lives : (c : Content) (receiver : ℕ) (past : List Moment) (run : Run) (m : Moment) → RunLives receiver past run → RunLives receiver (past ++ m ∷ []) (run_advanced c (receiver ∷ []) m run)
advanced_lives c receiver past run m kept =
    let n : ℕ = run.standing.position in
    let f : Track → Track = rebased c n run.standing.stamp in
    let g : Track → Track = after_moment c m (n + 1) in
    let Lives : Track → Type 0 = TrackLives receiver past in
    let Later : Track → Type 0 = TrackLives receiver (past ++ m ∷ []) in
    let Stays : Track → Type 0 = (λ track. is_kept_by m.act track ≡ true) in
    let looked : List Track = map f run.standing.tracks in
    let before : List Track = filter (is_kept_by m.act) looked in
    let live : AllByRecursion Lives before = all_filter Lives (is_kept_by m.act) looked (all_map Lives Lives f run.standing.tracks (λ track h. record { has = h.has; ending = h.ending }) kept.tracks) in
    let after : AllByRecursion Later (map g before) =
    all_map (λ (track : Track). Stays track × Lives track) Later g before (λ track h. moment_lives c receiver (n + 1) past m track h.0 h.1) (both Stays Lives before (filter_passes (is_kept_by m.act) looked) live) in
    record {
      position = ap (λ (x : ℕ). x + 1) kept.position ∙ sym (length-append past (m ∷ []));
      tracks = starts_all Later m (n + 1) receiver m.act (map g before) (λ sub trigger configured names is named. new_lives receiver (n + 1) past m sub trigger configured names is named) after;
      attempts = all_weaker (IsOfLiving receiver past) (IsOfLiving receiver (past ++ m ∷ [])) run.done (λ a h. attempt_stays receiver past m a h) kept.attempts;
    }

-- ---- the induction

run_lives : FirstIsFound → (c : Content) (receiver : ℕ) (past : List Moment) (answers : List Answer) (run : Run) → Reaches c (receiver ∷ []) past answers run → RunLives receiver past run
run_lives first c receiver _ _ _ opened = record { position = refl; tracks = tt; attempts = tt }
run_lives first c receiver _ _ _ (advances past answers run m r may idle) = advanced_lives c receiver past run m (run_lives first c receiver past answers run r)
run_lives first c receiver _ _ _ (settles past answers run found answer r offers) =
    settled_lives c receiver past run found answer (run_lives first c receiver past answers run r) (first c run.standing.stamp run.standing.tracks found offers)

pub all_live : FirstIsFound → (c : Content) (receiver : ℕ) (past : List Moment) (answers : List Answer) (run : Run) → Reaches c (receiver ∷ []) past answers run → AllByRecursion (IsOfLiving receiver past) run.done
all_live first c receiver past answers run r = (run_lives first c receiver past answers run r).attempts
