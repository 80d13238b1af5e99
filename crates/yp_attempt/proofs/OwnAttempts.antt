-- The attempts of several receivers, cut to one, are its own.
use Rattle.std.proofs.Common.{◌≡◌, ℕ, refl, sym, ap, subst, ◌∙◌, List, [], ◌∷◌, ◌++◌, Option, Some, None, append-nil, append_assoc}
use Rattle.std.proofs.lemmas.Option.{none-some}
use Rattle.yp_attempt.specs.Content.{Content}
use Rattle.yp_attempt.specs.Tracks.{Answer}
use Rattle.yp_attempt.specs.Moments.{Moment, MayFollow, AllMayFollow}
use Rattle.yp_attempt.specs.Runs.{Found, Run, first_run, waits, run_advanced, run_settled, Reaches, opened, advances, settles}
use Rattle.yp_attempt.specs.Attempts.{Stop, stop, stop_or_go, until_offer, Replayed, with_left, go_on, replay, IsReplayOf, attempts, of_receiver, answers_in, own_run, IsOneOf}
use Rattle.yp_attempt.specs.ListLaws.{not_empty}
use Rattle.yp_attempt.proofs.Replays.{answer_at, more_after_offer, nothing_left, reached_is_replayed}
use Rattle.yp_attempt.proofs.OwnRuns.{own_reaches}

-- ---- what a run up to the next offer has gone over

record IsUntilOffer (c : Content) (receivers : List ℕ) (past : List Moment) (answers : List Answer) (moments : List Moment) (p : Stop) : Type 0 where
  pub taken : List Moment
  pub splits : taken ++ p.rest ≡ moments
  pub reaches : Reaches c receivers (past ++ taken) answers p.run
  pub legal : AllMayFollow (past ++ taken) p.rest
  pub ends : waits c p.run ≡ None → p.rest ≡ []

reaches_by : (c : Content) (receivers : List ℕ) (past : List Moment) (answers : List Answer) (run : Run) (m : Moment) (moments : List Moment) (here : Stop) (o : Option Found) → waits c run ≡ o → Reaches c receivers past answers run → MayFollow past m → AllMayFollow past (m ∷ moments)
    → (waits c run ≡ None → IsUntilOffer c receivers (past ++ m ∷ []) answers moments here) → IsUntilOffer c receivers past answers (m ∷ moments) (stop_or_go o (stop run (m ∷ moments)) here)
reaches_by c receivers past answers run m moments here None e r may legal h =
    let k = h e in
    record {
      taken = m ∷ k.taken;
      splits = ap (λ (xs : List Moment). m ∷ xs) k.splits;
      reaches = subst (λ (xs : List Moment). Reaches c receivers xs answers here.run) (append_assoc past (m ∷ []) k.taken) k.reaches;
      legal = subst (λ (xs : List Moment). AllMayFollow xs here.rest) (append_assoc past (m ∷ []) k.taken) k.legal;
      ends = k.ends;
    }
reaches_by c receivers past answers run m moments here (Some found) e r may legal h = record {
  taken = [];
  splits = refl;
  reaches = subst (λ (xs : List Moment). Reaches c receivers xs answers run) (sym (append-nil past)) r;
  legal = subst (λ (xs : List Moment). AllMayFollow xs (m ∷ moments)) (sym (append-nil past)) legal;
  ends = λ w. absurd (none-some found (sym w ∙ e));
}

until_offer_reaches : (c : Content) (receivers : List ℕ) (answers : List Answer) (moments past : List Moment) (run : Run) → Reaches c receivers past answers run → AllMayFollow past moments → IsUntilOffer c receivers past answers moments (until_offer c receivers run moments)
until_offer_reaches c receivers answers [] past run r legal = record {
  taken = [];
  splits = refl;
  reaches = subst (λ (xs : List Moment). Reaches c receivers xs answers run) (sym (append-nil past)) r;
  legal = tt;
  ends = λ w. refl;
}
until_offer_reaches c receivers answers (m ∷ moments) past run r legal =
    reaches_by c receivers past answers run m moments (until_offer c receivers (run_advanced c receivers m run) moments) (waits c run) refl r legal.0 legal
    (λ idle. until_offer_reaches c receivers answers moments (past ++ m ∷ []) (run_advanced c receivers m run) (advances past answers run m r legal.0 idle) legal.1)

-- ---- what a replay has used

record IsUsed (c : Content) (receivers : List ℕ) (past moments : List Moment) (before answers : List Answer) (o : Replayed) : Type 0 where
  pub taken : List Moment
  pub given : List Answer
  pub splits : taken ++ o.rest ≡ moments
  pub parts : given ++ o.left ≡ answers
  pub reaches : Reaches c receivers (past ++ taken) (before ++ given) o.run

used_by : (c : Content) (receivers : List ℕ) (past moments : List Moment) (before : List Answer) (p : Stop) (answer : Answer) (answers : List Answer) (o : Option Found) (go : Found → Replayed) → waits c p.run ≡ o → (k : IsUntilOffer c receivers past before moments p)
    → ((found : Found) → waits c p.run ≡ Some found → IsUsed c receivers (past ++ k.taken) p.rest (before ++ answer ∷ []) answers (go found))
    → IsUsed c receivers past moments before (answer ∷ answers) (go_on o (with_left p (answer ∷ answers)) go)
used_by c receivers past moments before p answer answers None go e k h = record {
  taken = k.taken;
  given = [];
  splits = k.splits;
  parts = refl;
  reaches = subst (λ (xs : List Answer). Reaches c receivers (past ++ k.taken) xs p.run) (sym (append-nil before)) k.reaches;
}
used_by c receivers past moments before p answer answers (Some found) go e k h =
    let u = h found e in
    record {
      taken = k.taken ++ u.taken;
      given = answer ∷ u.given;
      splits = append_assoc k.taken u.taken (go found).rest ∙ (ap (λ (xs : List Moment). k.taken ++ xs) u.splits ∙ k.splits);
      parts = ap (λ (xs : List Answer). answer ∷ xs) u.parts;
      reaches = subst (λ (x : List Moment × List Answer). Reaches c receivers x.0 x.1 (go found).run) (λ i. (append_assoc past k.taken u.taken i, append_assoc before (answer ∷ []) u.given i)) u.reaches;
    }

replay_reaches : (c : Content) (receivers : List ℕ) (answers : List Answer) (moments past : List Moment) (before : List Answer) (run : Run) → Reaches c receivers past before run → AllMayFollow past moments → IsUsed c receivers past moments before answers (replay c receivers run moments answers)
replay_reaches c receivers [] moments past before run r legal =
    let k = until_offer_reaches c receivers before moments past run r legal in
    record {
      taken = k.taken;
      given = [];
      splits = k.splits;
      parts = refl;
      reaches = subst (λ (xs : List Answer). Reaches c receivers (past ++ k.taken) xs (until_offer c receivers run moments).run) (sym (append-nil before)) k.reaches;
    }
replay_reaches c receivers (answer ∷ answers) moments past before run r legal =
    let p = until_offer c receivers run moments in
    let k : IsUntilOffer c receivers past before moments p = until_offer_reaches c receivers before moments past run r legal in
    used_by c receivers past moments before p answer answers (waits c p.run) (λ found. replay c receivers (run_settled c p.run found answer) p.rest answers) refl k
    (λ found e. replay_reaches c receivers answers p.rest (past ++ k.taken) (before ++ answer ∷ []) (run_settled c p.run found answer) (settles (past ++ k.taken) before p.run found answer k.reaches e) k.legal)

pub replay_is_reached : (c : Content) (receivers : List ℕ) (journal : List Moment) (answers : List Answer) → AllMayFollow [] journal → IsReplayOf c receivers journal answers (replay c receivers first_run journal answers)
replay_is_reached c receivers journal answers legal =
    let u : IsUsed c receivers [] journal [] answers (replay c receivers first_run journal answers) = replay_reaches c receivers answers journal [] [] first_run opened legal in
    record { past = u.taken; given = u.given; entries = u.splits; met = u.parts; reaches = u.reaches }

-- ---- entries that no answer reaches

done_by : (run : Run) (moments : List Moment) (here : Stop) (o : Option Found) → here.run.done ≡ run.done → (stop_or_go o (stop run moments) here).run.done ≡ run.done
done_by run moments here None h = h
done_by run moments here (Some found) h = refl

pub until_offer_done : (c : Content) (receivers : List ℕ) (moments : List Moment) (run : Run) → (until_offer c receivers run moments).run.done ≡ run.done
until_offer_done c receivers [] run = refl
until_offer_done c receivers (m ∷ moments) run = done_by run (m ∷ moments) (until_offer c receivers (run_advanced c receivers m run) moments) (waits c run) (until_offer_done c receivers moments (run_advanced c receivers m run))

more_by : (c : Content) (receivers : List ℕ) (p q : Stop) (more : List Moment) (run : Run) (answer : Answer) (answers : List Answer) (o : Option Found) → waits c p.run ≡ o
    → ((found : Found) → waits c p.run ≡ Some found → q ≡ stop p.run (p.rest ++ more))
    → ((found : Found) → replay c receivers (run_settled c p.run found answer) p.rest answers ≡ nothing_left run → (replay c receivers (run_settled c p.run found answer) (p.rest ++ more) answers).run.done ≡ run.done)
    → answer_at c receivers p answer answers (waits c p.run) ≡ nothing_left run
    → (answer_at c receivers q answer answers (waits c q.run)).run.done ≡ run.done
more_by c receivers p q more run answer answers None w s h e = not_empty answer answers (ap (λ (x : Replayed). x.left)
    (ap (answer_at c receivers p answer answers) (sym w) ∙ e))
more_by c receivers p q more run answer answers (Some found) w s h e =
    ap (λ (y : Stop). (answer_at c receivers y answer answers (waits c y.run)).run.done) (s found w)
    ∙ (ap (λ (x : Option Found). (answer_at c receivers (stop p.run (p.rest ++ more)) answer answers x).run.done) w
    ∙ h found (ap (answer_at c receivers p answer answers) (sym w) ∙ e))

replay_more : (c : Content) (receivers : List ℕ) (answers : List Answer) (from : Run) (moments more : List Moment) (run : Run) → replay c receivers from moments answers ≡ nothing_left run → (replay c receivers from (moments ++ more) answers).run.done ≡ run.done
replay_more c receivers [] from moments more run e = until_offer_done c receivers (moments ++ more) from ∙ (sym (until_offer_done c receivers moments from) ∙ ap (λ (x : Replayed). x.run.done) e)
replay_more c receivers (answer ∷ answers) from moments more run e =
    more_by c receivers (until_offer c receivers from moments) (until_offer c receivers from (moments ++ more)) more run answer answers (waits c (until_offer c receivers from moments).run) refl
    (λ found w. more_after_offer c receivers moments more from found w)
    (λ found h. replay_more c receivers answers (run_settled c (until_offer c receivers from moments).run found answer) (until_offer c receivers from moments).rest more run h) e

pub own_attempts : (c : Content) (receiver : ℕ) (receivers : List ℕ) → IsOneOf receiver receivers → (journal : List Moment) (answers : List Answer) → AllMayFollow [] journal
    → of_receiver receiver (attempts c receivers journal answers) ≡ attempts c (receiver ∷ []) journal (answers_in (of_receiver receiver (attempts c receivers journal answers)))
own_attempts c receiver receivers one journal answers legal =
    let o : Replayed = replay c receivers first_run journal answers in
    let u : IsUsed c receivers [] journal [] answers o = replay_reaches c receivers answers journal [] [] first_run opened legal in
    let mine : List Answer = answers_in (of_receiver receiver o.run.done) in
    let part : Reaches c (receiver ∷ []) u.taken mine (own_run receiver o.run) = own_reaches c receiver receivers one u.taken u.given o.run u.reaches in
    sym (ap (λ (xs : List Moment). attempts c (receiver ∷ []) xs mine) (sym u.splits) ∙ replay_more c (receiver ∷ []) mine first_run u.taken o.rest (own_run receiver o.run) (reached_is_replayed c (receiver ∷ []) u.taken mine (own_run receiver o.run) part))
