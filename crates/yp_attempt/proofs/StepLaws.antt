-- What single steps keep and change: a full attempt, a dropped subscription, changed rules, an answer.
use Rattle.std.proofs.Common.{◌≡◌, ℕ, ◌+◌, refl, sym, ap, subst, ◌∙◌, Bool, true, false, not, ◌&&◌, ◌||◌, List, [], ◌∷◌, ◌++◌, map, Option, Some, None, append_assoc}
use Rattle.std.specs.Prelude.{if◌then◌else◌, ◌==◌}
use Rattle.std.specs.List.{AllByRecursion, filter}
use Rattle.std.proofs.lemmas.Bool.{true≢false, not-true}
use Rattle.yp_feed.specs.declared.item.Item.{Item}
use Rattle.yp_feed.specs.declared.item.Item.TheVariants.{Changes}
use Rattle.yp_feed.specs.declared.item.Control.TheVariants.{Rules}
use Rattle.yp_feed.specs.Machine.{FeedState, resyncs, freezes, frozen, after_freeze, refused, counted, suspends, suspended, restarted}
use Rattle.yp_attempt.specs.Content.{Content}
use Rattle.yp_attempt.specs.Tracks.{Track, Attempt, Answer, Full, current, attempt, with_feed, rebased, after_answer}
use Rattle.yp_attempt.specs.Moments.{Moment, Act, Drops, with_control, after_rules, after_moment, is_kept_by}
use Rattle.yp_attempt.specs.Runs.{Standing, Found, with_started, advanced, Run, first_run, waits, run_settled}
use Rattle.yp_feed.specs.declared.item.Item.TheVariants.{Started, Modified, Incomplete, Suspended, Resumed, Sync, Terminated, Periodic}
use Rattle.yp_attempt.specs.Tracks.{Notice, item_made, is_state_change, BeginsAnew}
use Rattle.yp_attempt.specs.Attempts.{Stop, until_offer, replay, attempts, answers_in}
use Rattle.yp_attempt.proofs.Replays.{answer_at}
use Rattle.yp_attempt.specs.ListLaws.{all_map, filter_passes}
use Rattle.yp_attempt.specs.TrackLaws.{moment_same}
use Rattle.yp_attempt.specs.AttemptLaws.{answers_one_more}
use Rattle.yp_attempt.proofs.OwnAttempts.{until_offer_done}

-- ---- a full attempt

freeze_base : (f : FeedState) (roots : ℕ) → (after_freeze f roots).base ≡ f.base
freeze_base f roots = by (freezes f roots)
  where
    by : (b : Bool) → (if b then frozen f else f).base ≡ f.base
    by true = refl
    by false = refl

refused_base : (f : FeedState) (item : Item) (stamp : ℕ) → (refused f item stamp).base ≡ f.base
refused_base f item stamp = by (suspends (counted f item stamp))
  where
    by : (b : Bool) → (if b then suspended (counted f item stamp) else counted f item stamp).base ≡ f.base
    by true = refl
    by false = refl

pub full_base : (c : Content) (n stamp : ℕ) (t : Track) (item : Item) → (after_answer c n stamp t item Full).feed.base ≡ t.feed.base
full_base c n stamp t item = freeze_base (refused t.feed item stamp) _ ∙ refused_base t.feed item stamp

-- ---- a dropped subscription

pub dropped_gone : (c : Content) (receivers : List ℕ) (m : Moment) (standing : Standing) (sub : ℕ) → m.act ≡ Drops sub → AllByRecursion (λ track. (track.feed.sub == sub) ≡ false) (advanced c receivers m standing).tracks
dropped_gone c receivers m standing sub e =
    let n : ℕ = standing.position + 1 in
    let Other : Track → Type 0 = (λ t. (t.feed.sub == sub) ≡ false) in
    let old : List Track = map (rebased c standing.position standing.stamp) standing.tracks in
    subst (λ (act : Act). AllByRecursion Other (with_started m n act receivers (map (after_moment c m n) (filter (is_kept_by act) old)))) (sym e)
    (all_map (λ t. is_kept_by (Drops sub) t ≡ true) Other (after_moment c m n) (filter (is_kept_by (Drops sub)) old)
    (λ t kept. ap (λ (x : ℕ). x == sub) (moment_same c m n t).0 ∙ not-true (t.feed.sub == sub) kept) (filter_passes (is_kept_by (Drops sub)) old))

-- ---- changed rules

-- where rules change for a track whose feed lives, it is met by them
rules_met : (n : ℕ) (m : Moment) (t : Track) → m.rules t.feed.receiver ≡ true → t.feed.owed.terminated ≡ false
    → after_rules n m t ≡ with_feed t (restarted t.feed n) (not (resyncs t.feed.trigger))
rules_met n m t e lives =
    ap (λ (b : Bool). if b then with_control n m.stamp Rules t else t) e
    ∙ ap (λ (b : Bool). with_feed t (if b then t.feed else restarted t.feed n) (not b && not (resyncs t.feed.trigger))) lives

pub rules_drop : (n : ℕ) (m : Moment) (t : Track) → m.rules t.feed.receiver ≡ true → t.feed.owed.terminated ≡ false → (after_rules n m t).frozen ≡ None
rules_drop n m t e lives = ap (λ (x : Track). x.frozen) (rules_met n m t e lives)

pub rules_begin : (n : ℕ) (m : Moment) (t : Track) → m.rules t.feed.receiver ≡ true → t.feed.owed.terminated ≡ false → resyncs t.feed.trigger ≡ false → BeginsAnew n t (after_rules n m t)
rules_begin n m t e lives plain =
    subst (BeginsAnew n t) (sym (rules_met n m t e lives)) (record {
      base = ap (λ (b : Bool). if not b then n else t.feed.base) plain;
      first = ap (λ (b : Bool). if not b then current t else t.first) plain;
      later = ap (λ (b : Bool). if not b then [] else t.later) plain;
    })

or_last : (a b : Bool) → b ≡ true → (a || b) ≡ true
or_last true b e = refl
or_last false b e = e

pub rules_resync : (n : ℕ) (m : Moment) (t : Track) → m.rules t.feed.receiver ≡ true → t.feed.owed.terminated ≡ false → resyncs t.feed.trigger ≡ true → (after_rules n m t).feed.owed.sync ≡ true
rules_resync n m t e lives again = ap (λ (x : Track). x.feed.owed.sync) (rules_met n m t e lives) ∙ or_last t.feed.owed.sync (resyncs t.feed.trigger) again

-- ---- what is made of a change of state

pub state_told : (c : Content) (t : Track) (item : Item) (n stamp : ℕ) → is_state_change item ≡ true → (item_made c t item n stamp).body ≡ Notice item
state_told c t Started n stamp e = refl
state_told c t Modified n stamp e = refl
state_told c t Incomplete n stamp e = absurd (true≢false (sym e))
state_told c t Suspended n stamp e = refl
state_told c t Resumed n stamp e = refl
state_told c t Sync n stamp e = absurd (true≢false (sym e))
state_told c t Terminated n stamp e = refl
state_told c t Changes n stamp e = absurd (true≢false (sym e))
state_told c t Periodic n stamp e = absurd (true≢false (sym e))

-- ---- answers

answers_by : (c : Content) (receivers : List ℕ) (p : Stop) (answer : Answer) (answers : List Answer) (o : Option Found)
    → ((found : Found) → answers_in (replay c receivers (run_settled c p.run found answer) p.rest answers).run.done ++ (replay c receivers (run_settled c p.run found answer) p.rest answers).left ≡ answers_in p.run.done ++ answer ∷ answers)
    → answers_in (answer_at c receivers p answer answers o).run.done ++ (answer_at c receivers p answer answers o).left
    ≡ answers_in p.run.done ++ answer ∷ answers
answers_by c receivers p answer answers None h = refl
answers_by c receivers p answer answers (Some found) h = h found

replay_answers : (c : Content) (receivers : List ℕ) (answers : List Answer) (moments : List Moment) (run : Run) → answers_in (replay c receivers run moments answers).run.done ++ (replay c receivers run moments answers).left ≡ answers_in run.done ++ answers
replay_answers c receivers [] moments run = ap (λ (xs : List Attempt). answers_in xs ++ []) (until_offer_done c receivers moments run)
replay_answers c receivers (answer ∷ answers) moments run =
    let p : Stop = until_offer c receivers run moments in
    let one : Found → Attempt = (λ found. attempt c p.run.standing.position p.run.standing.stamp found.track found.item answer) in
    answers_by c receivers p answer answers (waits c p.run)
    (λ found. replay_answers c receivers answers p.rest (run_settled c p.run found answer)
    ∙ (ap (λ (xs : List Answer). xs ++ answers) (answers_one_more p.run.done (one found)) ∙ append_assoc (answers_in p.run.done) (answer ∷ []) answers))
    ∙ ap (λ (xs : List Attempt). answers_in xs ++ answer ∷ answers) (until_offer_done c receivers moments run)

pub answers_given : (c : Content) (receivers : List ℕ) (journal : List Moment) (answers : List Answer) → answers_in (attempts c receivers journal answers) ++ (replay c receivers first_run journal answers).left ≡ answers
answers_given c receivers journal answers = replay_answers c receivers answers journal first_run
