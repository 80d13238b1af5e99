-- What is reached step by step is what replaying gives.
use Rattle.std.proofs.Common.{◌≡◌, ℕ, refl, sym, ap, ◌∙◌, List, [], ◌∷◌, ◌++◌, Option, Some, None}
use Rattle.yp_attempt.specs.Content.{Content}
use Rattle.yp_attempt.specs.Tracks.{Answer}
use Rattle.yp_attempt.specs.Moments.{Moment}
use Rattle.yp_attempt.specs.Runs.{Found, Run, first_run, waits, run_advanced, run_settled, Reaches, opened, advances, settles}
use Rattle.yp_attempt.specs.Attempts.{Stop, stop, stop_or_go, until_offer, Replayed, with_left, go_on, replay}
use Rattle.yp_attempt.specs.ListLaws.{not_empty}

-- ---- entries

until_offer_by : (c : Content) (receivers : List ℕ) (run : Run) (moments : List Moment) (o : Option Found) → waits c run ≡ o → (m : Moment) → until_offer c receivers run (m ∷ moments) ≡ stop_or_go o (stop run (m ∷ moments)) (until_offer c receivers (run_advanced c receivers m run) moments)
until_offer_by c receivers run moments o e m = ap (λ (x : Option Found). stop_or_go x (stop run (m ∷ moments)) (until_offer c receivers (run_advanced c receivers m run) moments)) e

last_by : (c : Content) (receivers : List ℕ) (run : Run) (x : Moment) (moments : List Moment) (m : Moment) (here there : Stop) (o : Option Found)
    → (here.rest ≡ [] → waits c here.run ≡ None → there ≡ stop (run_advanced c receivers m here.run) [])
    → (stop_or_go o (stop run (x ∷ moments)) here).rest ≡ [] → waits c (stop_or_go o (stop run (x ∷ moments)) here).run ≡ None
    → stop_or_go o (stop run (x ∷ (moments ++ m ∷ []))) there ≡ stop (run_advanced c receivers m (stop_or_go o (stop run (x ∷ moments)) here).run) []
last_by c receivers run x moments m here there None h e idle = h e idle
last_by c receivers run x moments m here there (Some found) h e idle = not_empty x moments e

-- where nothing is offered in the end, the run goes over one entry more
last_entry : (c : Content) (receivers : List ℕ) (moments : List Moment) (run : Run) (m : Moment) → (until_offer c receivers run moments).rest ≡ [] → waits c (until_offer c receivers run moments).run ≡ None → until_offer c receivers run (moments ++ m ∷ []) ≡ stop (run_advanced c receivers m (until_offer c receivers run moments).run) []
last_entry c receivers [] run m e idle = until_offer_by c receivers run [] None idle m
last_entry c receivers (x ∷ moments) run m e idle =
    last_by c receivers run x moments m (until_offer c receivers (run_advanced c receivers x run) moments) (until_offer c receivers (run_advanced c receivers x run) (moments ++ m ∷ [])) (waits c run)
    (last_entry c receivers moments (run_advanced c receivers x run) m) e idle

stops_from : (c : Content) (receivers : List ℕ) (more : List Moment) (run : Run) (found : Found) → waits c run ≡ Some found → until_offer c receivers run more ≡ stop run more
stops_from c receivers [] run found e = refl
stops_from c receivers (m ∷ more) run found e = until_offer_by c receivers run more (Some found) e m

stops_more : (c : Content) (run : Run) (m : Moment) (moments more : List Moment) (found : Found) (here there : Stop) (o : Option Found) → (waits c here.run ≡ Some found → there ≡ stop here.run (here.rest ++ more)) → waits c (stop_or_go o (stop run (m ∷ moments)) here).run ≡ Some found
    → stop_or_go o (stop run (m ∷ (moments ++ more))) there ≡ stop (stop_or_go o (stop run (m ∷ moments)) here).run ((stop_or_go o (stop run (m ∷ moments)) here).rest ++ more)
stops_more c run m moments more found here there None h e = h e
stops_more c run m moments more found here there (Some other) h e = refl

-- where something is offered in the end, more entries change nothing
pub more_after_offer : (c : Content) (receivers : List ℕ) (moments more : List Moment) (run : Run) (found : Found) → waits c (until_offer c receivers run moments).run ≡ Some found → until_offer c receivers run (moments ++ more) ≡ stop (until_offer c receivers run moments).run ((until_offer c receivers run moments).rest ++ more)
more_after_offer c receivers [] more run found e = stops_from c receivers more run found e
more_after_offer c receivers (m ∷ moments) more run found e =
    stops_more c run m moments more found (until_offer c receivers (run_advanced c receivers m run) moments) (until_offer c receivers (run_advanced c receivers m run) (moments ++ more)) (waits c run) (more_after_offer c receivers moments more (run_advanced c receivers m run) found) e

-- ---- answers

-- what a replay makes of an answer at a stop, by what is offered there
abbrev pub answer_at : Content → List ℕ → Stop → Answer → List Answer → Option Found → Replayed
answer_at c receivers here answer answers o = go_on o (with_left here (answer ∷ answers)) (λ found. replay c receivers (run_settled c here.run found answer) here.rest answers)

-- the run ends here, with no entry and no answer left
abbrev pub nothing_left : Run → Replayed
nothing_left run = record { run = run; rest = []; left = [] }

entry_by : (c : Content) (receivers : List ℕ) (p q : Stop) (m : Moment) (run : Run) (answer : Answer) (answers : List Answer) (o : Option Found) → waits c p.run ≡ o
    → ((found : Found) → waits c p.run ≡ Some found → q ≡ stop p.run (p.rest ++ m ∷ []))
    → ((found : Found) → replay c receivers (run_settled c p.run found answer) p.rest answers ≡ nothing_left run → replay c receivers (run_settled c p.run found answer) (p.rest ++ m ∷ []) answers ≡ nothing_left (run_advanced c receivers m run))
    → answer_at c receivers p answer answers (waits c p.run) ≡ nothing_left run
    → answer_at c receivers q answer answers (waits c q.run) ≡ nothing_left (run_advanced c receivers m run)
entry_by c receivers p q m run answer answers None w s h e = not_empty answer answers (ap (λ (x : Replayed). x.left)
    (ap (answer_at c receivers p answer answers) (sym w) ∙ e))
entry_by c receivers p q m run answer answers (Some found) w s h e =
    ap (λ (y : Stop). answer_at c receivers y answer answers (waits c y.run)) (s found w)
    ∙ (ap (answer_at c receivers (stop p.run (p.rest ++ m ∷ [])) answer answers) w
    ∙ h found (ap (answer_at c receivers p answer answers) (sym w) ∙ e))

replay_one_entry : (c : Content) (receivers : List ℕ) (answers : List Answer) (from : Run) (moments : List Moment) (m : Moment) (run : Run) → waits c run ≡ None → replay c receivers from moments answers ≡ nothing_left run → replay c receivers from (moments ++ m ∷ []) answers ≡ nothing_left (run_advanced c receivers m run)
replay_one_entry c receivers [] from moments m run idle e =
    let at : (until_offer c receivers from moments).run ≡ run = ap (λ (x : Replayed). x.run) e in
    let all : (until_offer c receivers from moments).rest ≡ [] = ap (λ (x : Replayed). x.rest) e in
    let last : until_offer c receivers from (moments ++ m ∷ []) ≡ stop (run_advanced c receivers m (until_offer c receivers from moments).run) [] = last_entry c receivers moments from m all (ap (λ (x : Run). waits c x) at ∙ idle) in
    ap (λ (y : Stop). with_left y []) last ∙ ap (λ (x : Run). nothing_left (run_advanced c receivers m x)) at
replay_one_entry c receivers (answer ∷ answers) from moments m run idle e =
    entry_by c receivers (until_offer c receivers from moments) (until_offer c receivers from (moments ++ m ∷ [])) m run answer answers (waits c (until_offer c receivers from moments).run) refl
    (λ found w. more_after_offer c receivers moments (m ∷ []) from found w)
    (λ found h. replay_one_entry c receivers answers (run_settled c (until_offer c receivers from moments).run found answer) (until_offer c receivers from moments).rest m run idle h) e

answer_by : (c : Content) (receivers : List ℕ) (p : Stop) (run last : Run) (answer : Answer) (answers more : List Answer) (o : Option Found) → waits c p.run ≡ o
    → ((found : Found) → replay c receivers (run_settled c p.run found answer) p.rest answers ≡ nothing_left run → replay c receivers (run_settled c p.run found answer) p.rest more ≡ nothing_left last)
    → answer_at c receivers p answer answers (waits c p.run) ≡ nothing_left run
    → answer_at c receivers p answer more (waits c p.run) ≡ nothing_left last
answer_by c receivers p run last answer answers more None w h e = not_empty answer answers (ap (λ (x : Replayed). x.left)
    (ap (answer_at c receivers p answer answers) (sym w) ∙ e))
answer_by c receivers p run last answer answers more (Some found) w h e =
    ap (answer_at c receivers p answer more) w
    ∙ h found (ap (answer_at c receivers p answer answers) (sym w) ∙ e)

replay_one_answer : (c : Content) (receivers : List ℕ) (answers : List Answer) (from : Run) (moments : List Moment) (run : Run) (found : Found) (answer : Answer) → waits c run ≡ Some found → replay c receivers from moments answers ≡ nothing_left run → replay c receivers from moments (answers ++ answer ∷ []) ≡ nothing_left (run_settled c run found answer)
replay_one_answer c receivers [] from moments run found answer offers e =
    let at : (until_offer c receivers from moments).run ≡ run = ap (λ (x : Replayed). x.run) e in
    let all : (until_offer c receivers from moments).rest ≡ [] = ap (λ (x : Replayed). x.rest) e in
    ap (λ (y : Run). answer_at c receivers (stop y (until_offer c receivers from moments).rest) answer [] (waits c y)) at
    ∙ (ap (answer_at c receivers (stop run (until_offer c receivers from moments).rest) answer []) offers
    ∙ ap (λ (ys : List Moment). replay c receivers (run_settled c run found answer) ys []) all)
replay_one_answer c receivers (first ∷ answers) from moments run found answer offers e =
    answer_by c receivers (until_offer c receivers from moments) run (run_settled c run found answer) first answers (answers ++ answer ∷ []) (waits c (until_offer c receivers from moments).run) refl
    (λ other h. replay_one_answer c receivers answers (run_settled c (until_offer c receivers from moments).run other first) (until_offer c receivers from moments).rest run found answer offers h) e

-- what is reached is what replaying gives
pub reached_is_replayed : (c : Content) (receivers : List ℕ) (past : List Moment) (answers : List Answer) (run : Run) → Reaches c receivers past answers run → replay c receivers first_run past answers ≡ nothing_left run
reached_is_replayed c receivers _ _ _ opened = refl
reached_is_replayed c receivers _ _ _ (advances past answers run m r may idle) = replay_one_entry c receivers answers first_run past m run idle (reached_is_replayed c receivers past answers run r)
reached_is_replayed c receivers _ _ _ (settles past answers run found answer r offers) = replay_one_answer c receivers answers first_run past run found answer offers (reached_is_replayed c receivers past answers run r)
