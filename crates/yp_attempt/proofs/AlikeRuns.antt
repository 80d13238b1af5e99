-- Over journals that are alike for a receiver its runs are the same.
use Rattle.std.proofs.Common.{◌≡◌, ℕ, ◌+◌, refl, sym, ap, subst, ◌∙◌, Bool, true, false, not, List, [], ◌∷◌, ◌++◌, map, Option, Some, None}
use Rattle.std.specs.Prelude.{if◌then◌else◌, nat_lt}
use Rattle.std.specs.List.{AllByRecursion, filter}
use Rattle.yp_base.specs.declared.row.Row.{Row}
use Rattle.yp_base.specs.declared.notice.Trigger.{Trigger}
use Rattle.yp_feed.specs.declared.item.Control.TheVariants.{Rules}
use Rattle.yp_feed.specs.Machine.{started}
use Rattle.yp_attempt.specs.Content.{Content}
use Rattle.yp_attempt.specs.Tracks.{Track, Answer, freeze_tried, rebased, after_answer}
use Rattle.yp_attempt.specs.Moments.{Moment, Act, Quiet, Starts, Controls, Drops, with_selection, with_control, after_act, after_rules, after_moment, is_kept_by, new_track}
use Rattle.yp_attempt.specs.Runs.{Found, with_started, Run, first_run, waits, run_advanced, run_settled}
use Rattle.yp_attempt.specs.Attempts.{Stop, stop, stop_or_go, until_offer, replay, attempts}
use Rattle.yp_attempt.specs.Alike.{IsSameFor, AreAlike}
use Rattle.yp_attempt.proofs.Replays.{answer_at}
use Rattle.yp_attempt.specs.ListLaws.{all_append, all_before, all_rest, all_map, all_filter, map_where}
use Rattle.yp_attempt.proofs.Offers.{found_first_offer}
use Rattle.yp_attempt.specs.TrackLaws.{act_same, moment_same, answer_same}
use Rattle.yp_attempt.proofs.Owners.{started_all, ended_all}

-- each of the run's tracks is this receiver's
abbrev AreMine : ℕ → Run → Type 0
AreMine receiver run = AllByRecursion (λ t. t.feed.receiver ≡ receiver) run.standing.tracks

alike_selection : (receiver : ℕ) (one two : Moment) → IsSameFor receiver one two → (t : Track) → t.feed.receiver ≡ receiver → with_selection one t ≡ with_selection two t
alike_selection receiver one two same t mine =
    let selection : one.selection t.feed.sub t.feed.receiver ≡ two.selection t.feed.sub t.feed.receiver = ap (λ (r : ℕ). one.selection t.feed.sub r) mine ∙ (same.selection t.feed.sub ∙ ap (λ (r : ℕ). two.selection t.feed.sub r) (sym mine)) in
    ap (λ (x : List Row). record t { later = t.later ++ x ∷ [] }) selection

alike_moment : (c : Content) (receiver n : ℕ) (one two : Moment) → IsSameFor receiver one two → (t : Track) → t.feed.receiver ≡ receiver → after_moment c one n t ≡ after_moment c two n t
alike_moment c receiver n one two same t mine =
    let k : Track = after_act n two.stamp two.act (with_selection two t) in
    let first : after_act n one.stamp one.act (with_selection one t) ≡ k = (λ i. after_act n (same.stamp i) (same.act i) (alike_selection receiver one two same t mine i)) in
    let own : k.feed.receiver ≡ receiver = (act_same n two.stamp two.act (with_selection two t)).1 ∙ mine in
    let rules : one.rules k.feed.receiver ≡ two.rules k.feed.receiver = ap one.rules own ∙ (same.rules ∙ ap two.rules (sym own)) in
    ap (λ (x : Track). freeze_tried c n one.stamp (after_rules n one x)) first ∙ (λ i. freeze_tried c n (same.stamp i) (if rules i then with_control n (same.stamp i) Rules k else k))

alike_new : (receiver n : ℕ) (one two : Moment) → IsSameFor receiver one two → (sub : ℕ) (trigger : Trigger) (configured b : Bool) → map (new_track one n sub trigger configured) (if b then receiver ∷ [] else []) ≡ map (new_track two n sub trigger configured) (if b then receiver ∷ [] else [])
alike_new receiver n one two same sub trigger configured true =
    λ i. record { feed = started (record { sub = sub; receiver = receiver; configured = configured; trigger = trigger }) n (same.stamp i); first = same.selection sub i; later = []; frozen = None } ∷ []
alike_new receiver n one two same sub trigger configured false = refl

alike_started : (receiver n : ℕ) (one two : Moment) → IsSameFor receiver one two → (act : Act) (tracks : List Track) → with_started one n act (receiver ∷ []) tracks ≡ with_started two n act (receiver ∷ []) tracks
alike_started receiver n one two same Quiet tracks = refl
alike_started receiver n one two same (Starts sub trigger configured names) tracks =
    ap (λ (xs : List Track). filter (λ t. nat_lt t.feed.sub sub) tracks ++ (xs ++ filter (λ t. not (nat_lt t.feed.sub sub)) tracks)) (alike_new receiver n one two same sub trigger configured (names receiver))
alike_started receiver n one two same (Controls sub control) tracks = refl
alike_started receiver n one two same (Drops sub) tracks = refl

alike_advanced : (c : Content) (receiver : ℕ) (one two : Moment) (run : Run) → IsSameFor receiver one two → AreMine receiver run → run_advanced c (receiver ∷ []) one run ≡ run_advanced c (receiver ∷ []) two run
alike_advanced c receiver one two run same mine =
    let Mine : Track → Type 0 = (λ t. t.feed.receiver ≡ receiver) in
    let n : ℕ = run.standing.position + 1 in
    let f : Track → Track = rebased c run.standing.position run.standing.stamp in
    let before : Act → List Track = (λ act. filter (is_kept_by act) (map f run.standing.tracks)) in
    let kept : AllByRecursion Mine (before one.act) = all_filter Mine (is_kept_by one.act) (map f run.standing.tracks) (all_map Mine Mine f run.standing.tracks (λ t m. m) mine) in
    let tracks : map (after_moment c one n) (before one.act) ≡ map (after_moment c two n) (before two.act) =
    map_where Mine (after_moment c one n) (after_moment c two n) (before one.act) (λ t m. alike_moment c receiver n one two same t m) kept ∙ (λ i. map (after_moment c two n) (before (same.act i))) in
    (λ i. record { standing = record { position = n; stamp = same.stamp i; tracks = with_started one n (same.act i) (receiver ∷ []) (tracks i) }; done = run.done })
    ∙ ap (λ (xs : List Track). record { standing = record { position = n; stamp = two.stamp; tracks = xs }; done = run.done }) (alike_started receiver n one two same two.act (map (after_moment c two n) (before two.act)))

advanced_mine : (c : Content) (receiver : ℕ) (m : Moment) (run : Run) → AreMine receiver run → AreMine receiver (run_advanced c (receiver ∷ []) m run)
advanced_mine c receiver m run mine =
    let Mine : Track → Type 0 = (λ t. t.feed.receiver ≡ receiver) in
    let f : Track → Track = rebased c run.standing.position run.standing.stamp in
    started_all Mine m (run.standing.position + 1) m.act (receiver ∷ []) (map (after_moment c m (run.standing.position + 1)) (filter (is_kept_by m.act) (map f run.standing.tracks))) (λ sub trigger configured. (refl, tt))
    (all_map Mine Mine (after_moment c m (run.standing.position + 1)) (filter (is_kept_by m.act) (map f run.standing.tracks)) (λ t p. (moment_same c m (run.standing.position + 1) t).1 ∙ p)
    (all_filter Mine (is_kept_by m.act) (map f run.standing.tracks) (all_map Mine Mine f run.standing.tracks (λ t p. p) mine)))

settled_mine : (c : Content) (receiver : ℕ) (run : Run) (found : Found) (answer : Answer) → waits c run ≡ Some found → AreMine receiver run → AreMine receiver (run_settled c run found answer)
settled_mine c receiver run found answer offers mine =
    let In : Track → Type 0 = (λ t. t.feed.receiver ≡ receiver) in
    let new : Track = after_answer c run.standing.position run.standing.stamp found.track found.item answer in
    let all : AllByRecursion In (found.before ++ found.track ∷ found.after) = subst (AllByRecursion In) (found_first_offer c run.standing.stamp run.standing.tracks found offers).parts mine in
    let here = all_rest In found.before (found.track ∷ found.after) all in
    all_append In found.before ((if new.feed.ended then [] else new ∷ []) ++ found.after) (all_before In found.before (found.track ∷ found.after) all)
    (ended_all In new found.after new.feed.ended ((answer_same c run.standing.position run.standing.stamp found.track found.item answer).1 ∙ here.0) here.1)

-- ---- up to the next offer, and over all answers

record ArriveAlike (receiver : ℕ) (p q : Stop) : Type 0 where
  pub run : p.run ≡ q.run
  pub mine : AreMine receiver p.run
  pub rest : AreAlike receiver p.rest q.rest

alike_by : (receiver : ℕ) (run : Run) (one two : Moment) (ones twos : List Moment) (p q : Stop) (o : Option Found) → AreMine receiver run → IsSameFor receiver one two × AreAlike receiver ones twos → ArriveAlike receiver p q
    → ArriveAlike receiver (stop_or_go o (stop run (one ∷ ones)) p) (stop_or_go o (stop run (two ∷ twos)) q)
alike_by receiver run one two ones twos p q None mine alike h = h
alike_by receiver run one two ones twos p q (Some found) mine alike h = record { run = refl; mine = mine; rest = alike }

until_offer_alike : (c : Content) (receiver : ℕ) (ones twos : List Moment) (run : Run) → AreAlike receiver ones twos → AreMine receiver run → ArriveAlike receiver (until_offer c (receiver ∷ []) run ones) (until_offer c (receiver ∷ []) run twos)
until_offer_alike c receiver [] [] run alike mine = record { run = refl; mine = mine; rest = tt }
until_offer_alike c receiver [] (two ∷ twos) run alike mine = absurd alike
until_offer_alike c receiver (one ∷ ones) [] run alike mine = absurd alike
until_offer_alike c receiver (one ∷ ones) (two ∷ twos) run alike mine =
    let next : ArriveAlike receiver (until_offer c (receiver ∷ []) (run_advanced c (receiver ∷ []) one run) ones) (until_offer c (receiver ∷ []) (run_advanced c (receiver ∷ []) one run) twos) =
    until_offer_alike c receiver ones twos (run_advanced c (receiver ∷ []) one run) alike.1 (advanced_mine c receiver one run mine) in
    alike_by receiver run one two ones twos (until_offer c (receiver ∷ []) (run_advanced c (receiver ∷ []) one run) ones) (until_offer c (receiver ∷ []) (run_advanced c (receiver ∷ []) two run) twos) (waits c run) mine alike
    (subst (λ (x : Run). ArriveAlike receiver (until_offer c (receiver ∷ []) (run_advanced c (receiver ∷ []) one run) ones) (until_offer c (receiver ∷ []) x twos)) (alike_advanced c receiver one two run alike.0 mine) next)

answers_by : (c : Content) (receiver : ℕ) (p q : Stop) (answer : Answer) (answers : List Answer) (o : Option Found) → waits c p.run ≡ o → ArriveAlike receiver p q
    → ((found : Found) → waits c p.run ≡ Some found → (replay c (receiver ∷ []) (run_settled c p.run found answer) p.rest answers).run ≡ (replay c (receiver ∷ []) (run_settled c p.run found answer) q.rest answers).run)
    → (answer_at c (receiver ∷ []) p answer answers (waits c p.run)).run
    ≡ (answer_at c (receiver ∷ []) q answer answers (waits c q.run)).run
answers_by c receiver p q answer answers o e h f =
    by o e ∙ ap (λ (x : Run). (answer_at c (receiver ∷ []) (stop x q.rest) answer answers (waits c x)).run) h.run
  where
    by : (o : Option Found) → waits c p.run ≡ o
        → (answer_at c (receiver ∷ []) p answer answers (waits c p.run)).run
        ≡ (answer_at c (receiver ∷ []) (stop p.run q.rest) answer answers (waits c p.run)).run
    by None w =
        ap (λ (x : Option Found). (answer_at c (receiver ∷ []) p answer answers x).run) w
        ∙ sym (ap (λ (x : Option Found). (answer_at c (receiver ∷ []) (stop p.run q.rest) answer answers x).run) w)
    by (Some found) w =
        ap (λ (x : Option Found). (answer_at c (receiver ∷ []) p answer answers x).run) w
        ∙ (f found w ∙ sym (ap (λ (x : Option Found). (answer_at c (receiver ∷ []) (stop p.run q.rest) answer answers x).run) w))

replay_alike : (c : Content) (receiver : ℕ) (answers : List Answer) (ones twos : List Moment) (run : Run) → AreAlike receiver ones twos → AreMine receiver run → (replay c (receiver ∷ []) run ones answers).run ≡ (replay c (receiver ∷ []) run twos answers).run
replay_alike c receiver [] ones twos run alike mine = (until_offer_alike c receiver ones twos run alike mine).run
replay_alike c receiver (answer ∷ answers) ones twos run alike mine =
    let h : ArriveAlike receiver (until_offer c (receiver ∷ []) run ones) (until_offer c (receiver ∷ []) run twos) = until_offer_alike c receiver ones twos run alike mine in
    answers_by c receiver (until_offer c (receiver ∷ []) run ones) (until_offer c (receiver ∷ []) run twos) answer answers (waits c (until_offer c (receiver ∷ []) run ones).run) refl h
    (λ found e. replay_alike c receiver answers (until_offer c (receiver ∷ []) run ones).rest (until_offer c (receiver ∷ []) run twos).rest (run_settled c (until_offer c (receiver ∷ []) run ones).run found answer) h.rest
    (settled_mine c receiver (until_offer c (receiver ∷ []) run ones).run found answer e h.mine))

pub attempts_alike : (c : Content) (receiver : ℕ) (ones twos : List Moment) (answers : List Answer) → AreAlike receiver ones twos → attempts c (receiver ∷ []) ones answers ≡ attempts c (receiver ∷ []) twos answers
attempts_alike c receiver ones twos answers alike = ap (λ (run : Run). run.done) (replay_alike c receiver answers ones twos first_run alike tt)
