-- A serial run is a run: by induction over the entries, and over the offers after each.
use Rattle.std.proofs.Common.{◌≡◌, ℕ, zero, suc, ◌+◌, refl, sym, subst, Bool, true, false, not, List, [], ◌∷◌, ◌++◌, map, Option, Some, None, append-nil, append_assoc}
use Rattle.std.specs.Prelude.{if◌then◌else◌, nat_lt, ◌==◌}
use Rattle.std.specs.List.{filter}
use Rattle.std.proofs.lemmas.List.{map-append}
use Rattle.yp_base.specs.declared.notice.Trigger.{Trigger}
use Rattle.yp_base.specs.declared.notice.Trigger.TheVariants.{Periodic as Every, OnChange}
use Rattle.yp_feed.specs.declared.item.Control.{Control}
use Rattle.yp_feed.specs.declared.item.Control.TheVariants.{Modify, Resync, Rules, End}
use Rattle.yp_feed.specs.Machine.{FeedState, amended, restarted, controlled}
use Rattle.yp_attempt.specs.Content.{Content, IsLawful}
use Rattle.yp_attempt.specs.Tracks.{Track, Answer, Attempt, roots_in, attempt, rebased}
use Rattle.yp_attempt.specs.Moments.{Moment, Act, Quiet, Starts, Controls, Drops, AllMayFollow, with_selection, with_control, after_act, after_rules, after_moment, is_kept_by, new_track}
use Rattle.yp_attempt.specs.Runs.{Found, with_started, waits, run_settled, Reaches, opened, advances, settles}
use Rattle.yp_attempt.specs.Attempts.{answers_in}
use Rattle.yp_attempt.specs.ListLaws.{all_append, all_map, all_filter}
use Rattle.yp_serial.specs.DueTicks.{HasDueTicks, HaveDueTicks, KeepsDueTicks, GivesDueTicks, GiveDueTicks}
use Rattle.yp_serial.specs.Posts.{Queueing}
use Rattle.yp_serial.specs.Serial.{Served, Taking, first_served, served_advanced, found_answer, served_settled, while_offered, offers_on, all_offered, serial, serial_run}
use Rattle.yp_serial.specs.Weights.{weights}
use Rattle.yp_serial.proofs.Settling.{FindsFirst}
use Rattle.yp_serial.proofs.Offering.{Due, freeze_trigger, due_on, offered_idle}

-- ---- an entry more

serial_more : (c : Content) (receivers : List ℕ) (q : Queueing) (takes : Taking) (served : Served) (moments : List Moment) (m : Moment)
    → serial c receivers q takes served (moments ++ m ∷ []) ≡ all_offered c q (served_advanced c receivers takes m (serial c receivers q takes served moments))
serial_more c receivers q takes served [] m = refl
serial_more c receivers q takes served (x ∷ moments) m = serial_more c receivers q takes (all_offered c q (served_advanced c receivers takes x served)) moments m

pub run_more : (c : Content) (receivers : List ℕ) (q : Queueing) (takes : Taking) (journal : List Moment) (m : Moment)
    → serial_run c receivers q takes (journal ++ m ∷ []) ≡ all_offered c q (served_advanced c receivers takes m (serial_run c receivers q takes journal))
run_more c receivers q takes journal m = serial_more c receivers q takes first_served journal m

-- ---- triggers have due ticks after an entry

amended_due : (old new : Trigger) → HasDueTicks old → HasDueTicks new → HasDueTicks (amended old new)
amended_due (Every period anchor) (Every new_period new_anchor) h k = k
amended_due (Every period anchor) (OnChange dampening sync excluded) h k = h
amended_due (OnChange dampening sync excluded) (Every period anchor) h k = tt
amended_due (OnChange dampening sync excluded) (OnChange new_dampening new_sync new_excluded) h k = tt

controlled_due : (f : FeedState) (control : Control) (n stamp : ℕ) → HasDueTicks f.trigger → KeepsDueTicks control → HasDueTicks (controlled f control n stamp).trigger
controlled_due f (Modify trigger notify) n stamp h k = amended_due f.trigger trigger h k
controlled_due f Resync n stamp h k = h
controlled_due f Rules n stamp h k = by f.owed.terminated
  where
    by : (b : Bool) → HasDueTicks (if b then f else restarted f n).trigger
    by true = h
    by false = h
controlled_due f End n stamp h k = h

act_due : (n stamp : ℕ) (act : Act) (t : Track) → GivesDueTicks act → HasDueTicks t.feed.trigger → HasDueTicks (after_act n stamp act t).feed.trigger
act_due n stamp Quiet t g h = h
act_due n stamp (Starts sub trigger configured names) t g h = h
act_due n stamp (Controls sub control) t g h = by (t.feed.sub == sub)
  where
    by : (b : Bool) → HasDueTicks (if b then with_control n stamp control t else t).feed.trigger
    by true = controlled_due t.feed control n stamp h g
    by false = h
act_due n stamp (Drops sub) t g h = h

rules_due : (n : ℕ) (m : Moment) (t : Track) → HasDueTicks t.feed.trigger → HasDueTicks (after_rules n m t).feed.trigger
rules_due n m t h = by (m.rules t.feed.receiver)
  where
    by : (b : Bool) → HasDueTicks (if b then with_control n m.stamp Rules t else t).feed.trigger
    by true = controlled_due t.feed Rules n m.stamp h tt
    by false = h

moment_due : (c : Content) (m : Moment) (n : ℕ) (t : Track) → GivesDueTicks m.act → HasDueTicks t.feed.trigger → HasDueTicks (after_moment c m n t).feed.trigger
moment_due c m n t g h =
    let ruled : Track = after_rules n m (after_act n m.stamp m.act (with_selection m t)) in
    subst HasDueTicks (sym (freeze_trigger ruled.feed (roots_in c ruled))) (rules_due n m (after_act n m.stamp m.act (with_selection m t)) (act_due n m.stamp m.act (with_selection m t) g h))

new_due : (m : Moment) (n sub : ℕ) (trigger : Trigger) (configured : Bool) (receivers : List ℕ) → HasDueTicks trigger → HaveDueTicks (map (new_track m n sub trigger configured) receivers)
new_due m n sub trigger configured [] h = tt
new_due m n sub trigger configured (r ∷ receivers) h = (h, new_due m n sub trigger configured receivers h)

started_due : (m : Moment) (n : ℕ) (act : Act) (receivers : List ℕ) (tracks : List Track) → GivesDueTicks act → HaveDueTicks tracks → HaveDueTicks (with_started m n act receivers tracks)
started_due m n Quiet receivers tracks g h = h
started_due m n (Starts sub trigger configured names) receivers tracks g h =
    let Has : Track → Type 0 = (λ t. HasDueTicks t.feed.trigger) in
    all_append Has (filter (λ t. nat_lt t.feed.sub sub) tracks) (map (new_track m n sub trigger configured) (filter names receivers) ++ filter (λ t. not (nat_lt t.feed.sub sub)) tracks)
    (all_filter Has (λ t. nat_lt t.feed.sub sub) tracks h)
    (all_append Has (map (new_track m n sub trigger configured) (filter names receivers)) (filter (λ t. not (nat_lt t.feed.sub sub)) tracks)
    (new_due m n sub trigger configured (filter names receivers) g)
    (all_filter Has (λ t. not (nat_lt t.feed.sub sub)) tracks h))
started_due m n (Controls sub control) receivers tracks g h = h
started_due m n (Drops sub) receivers tracks g h = h

pub advanced_due : (c : Content) (receivers : List ℕ) (takes : Taking) (m : Moment) (served : Served) → GivesDueTicks m.act → Due served → Due (served_advanced c receivers takes m served)
advanced_due c receivers takes m served g h =
    let Has : Track → Type 0 = (λ t. HasDueTicks t.feed.trigger) in
    let n : ℕ = served.run.standing.position + 1 in
    let moved : List Track = map (rebased c served.run.standing.position served.run.standing.stamp) served.run.standing.tracks in
    started_due m n m.act receivers (map (after_moment c m n) (filter (is_kept_by m.act) moved)) g
    (all_map Has Has (after_moment c m n) (filter (is_kept_by m.act) moved) (λ t k. moment_due c m n t g k)
    (all_filter Has (is_kept_by m.act) moved (all_map Has Has (rebased c served.run.standing.position served.run.standing.stamp) served.run.standing.tracks (λ t k. k) h)))

-- and so throughout a serial run
serial_due : FindsFirst → (c : Content) (receivers : List ℕ) (q : Queueing) (takes : Taking) (moments : List Moment) (served : Served) → Due served → GiveDueTicks moments → Due (serial c receivers q takes served moments)
serial_due finds c receivers q takes [] served h g = h
serial_due finds c receivers q takes (m ∷ moments) served h g =
    let next : Served = served_advanced c receivers takes m served in
    serial_due finds c receivers q takes moments (all_offered c q next) (due_on finds c q (weights c next.run.standing.stamp next.run.standing.tracks) next (advanced_due c receivers takes m served g.0 h)) g.1

pub run_due : FindsFirst → (c : Content) (receivers : List ℕ) (q : Queueing) (takes : Taking) (journal : List Moment) → GiveDueTicks journal → Due (serial_run c receivers q takes journal)
run_due finds c receivers q takes journal g = serial_due finds c receivers q takes journal first_served tt g

-- ---- nothing is offered at the end

serial_idle : FindsFirst → (c : Content) → IsLawful c → (receivers : List ℕ) (q : Queueing) (takes : Taking) (moments : List Moment) (served : Served) → Due served → waits c served.run ≡ None → GiveDueTicks moments
    → waits c (serial c receivers q takes served moments).run ≡ None
serial_idle finds c lawful receivers q takes [] served h idle g = idle
serial_idle finds c lawful receivers q takes (m ∷ moments) served h idle g =
    let next : Served = served_advanced c receivers takes m served in
    let due : Due next = advanced_due c receivers takes m served g.0 h in
    serial_idle finds c lawful receivers q takes moments (all_offered c q next) (due_on finds c q (weights c next.run.standing.stamp next.run.standing.tracks) next due) (offered_idle finds c lawful q next due) g.1

pub run_idle : FindsFirst → (c : Content) → IsLawful c → (receivers : List ℕ) (q : Queueing) (takes : Taking) (journal : List Moment) → GiveDueTicks journal → waits c (serial_run c receivers q takes journal).run ≡ None
run_idle finds c lawful receivers q takes journal g = serial_idle finds c lawful receivers q takes journal first_served tt refl g

-- ---- what is reached

-- entries, with the answers that a serial run gave, lead to its run
abbrev IsReached : Content → List ℕ → List Moment → Served → Type 0
IsReached c receivers past served = Reaches c receivers past (answers_in served.run.done) served.run

settled_reached : (c : Content) (receivers : List ℕ) (q : Queueing) (past : List Moment) (served : Served) (found : Found) → IsReached c receivers past served → waits c served.run ≡ Some found → IsReached c receivers past (served_settled c q found served)
settled_reached c receivers q past served found r e =
    let answer : Answer = found_answer q found served in
    let a : Attempt = attempt c served.run.standing.position served.run.standing.stamp found.track found.item answer in
    subst (λ (answers : List Answer). Reaches c receivers past answers (run_settled c served.run found answer)) (sym (map-append (λ (a : Attempt). a.answer) served.run.done (a ∷ [])))
    (settles past (answers_in served.run.done) served.run found answer r e)

reached_by : (c : Content) (receivers : List ℕ) (q : Queueing) (past : List Moment) (k : ℕ) (served : Served) → IsReached c receivers past served → (o : Option Found) → waits c served.run ≡ o
    → ((next : Served) → IsReached c receivers past next → IsReached c receivers past (offers_on c q k next))
    → IsReached c receivers past (while_offered o served (λ found. offers_on c q k (served_settled c q found served)))
reached_by c receivers q past k served r None e f = r
reached_by c receivers q past k served r (Some found) e f = f (served_settled c q found served) (settled_reached c receivers q past served found r e)

reached_on : (c : Content) (receivers : List ℕ) (q : Queueing) (past : List Moment) (k : ℕ) (served : Served) → IsReached c receivers past served → IsReached c receivers past (offers_on c q k served)
reached_on c receivers q past zero served r = r
reached_on c receivers q past (suc k) served r = reached_by c receivers q past k served r (waits c served.run) refl (λ next s. reached_on c receivers q past k next s)

serial_reached : FindsFirst → (c : Content) → IsLawful c → (receivers : List ℕ) (q : Queueing) (takes : Taking) (moments past : List Moment) (served : Served) → IsReached c receivers past served → Due served → waits c served.run ≡ None → AllMayFollow past moments → GiveDueTicks moments
    → IsReached c receivers (past ++ moments) (serial c receivers q takes served moments)
serial_reached finds c lawful receivers q takes [] past served r h idle may g = subst (λ (xs : List Moment). IsReached c receivers xs served) (sym (append-nil past)) r
serial_reached finds c lawful receivers q takes (m ∷ moments) past served r h idle may g =
    let next : Served = served_advanced c receivers takes m served in
    let k : ℕ = weights c next.run.standing.stamp next.run.standing.tracks in
    let due : Due next = advanced_due c receivers takes m served g.0 h in
    let there : IsReached c receivers (past ++ m ∷ []) next = advances past (answers_in served.run.done) served.run m r may.0 idle in
    subst (λ (xs : List Moment). IsReached c receivers xs (serial c receivers q takes (all_offered c q next) moments)) (append_assoc past (m ∷ []) moments)
    (serial_reached finds c lawful receivers q takes moments (past ++ m ∷ []) (all_offered c q next) (reached_on c receivers q (past ++ m ∷ []) k next there) (due_on finds c q k next due) (offered_idle finds c lawful q next due) may.1 g.1)

pub run_reached : FindsFirst → (c : Content) → IsLawful c → (receivers : List ℕ) (q : Queueing) (takes : Taking) (journal : List Moment) → AllMayFollow [] journal → GiveDueTicks journal
    → Reaches c receivers journal (answers_in (serial_run c receivers q takes journal).run.done) (serial_run c receivers q takes journal).run
run_reached finds c lawful receivers q takes journal may g = serial_reached finds c lawful receivers q takes journal [] first_served opened tt refl may g
