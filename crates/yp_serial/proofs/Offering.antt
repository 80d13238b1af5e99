-- Offers at a position come to an end, and more fuel than there are offers changes nothing.
use Rattle.std.proofs.Common.{◌≡◌, ℕ, zero, suc, ◌<◌, ◌≤◌, refl, sym, ap, subst, ◌∙◌, Bool, true, false, List, [], ◌∷◌, ◌++◌, Option, Some, None, arith}
use Rattle.std.specs.Prelude.{if◌then◌else◌}
use Rattle.yp_feed.specs.declared.item.Item.{Item}
use Rattle.yp_feed.specs.Machine.{FeedState, freezes, frozen, after_freeze, refused, counted, suspends, suspended}
use Rattle.yp_attempt.specs.Content.{Content, IsLawful}
use Rattle.yp_attempt.specs.Tracks.{Track, Answer, Took, Full, roots_in, with_feed, after_answer}
use Rattle.yp_attempt.specs.Runs.{Standing, Found, first_offer, settled, waits}
use Rattle.yp_attempt.specs.ListLaws.{all_append, all_before, all_rest}
use Rattle.yp_serial.specs.DueTicks.{HasDueTicks, HaveDueTicks}
use Rattle.yp_serial.specs.Posts.{Queueing}
use Rattle.yp_serial.specs.Serial.{Served, found_answer, served_settled, while_offered, offers_on, all_offered}
use Rattle.yp_serial.specs.Weights.{weights}
use Rattle.yp_serial.proofs.Settling.{FindsFirst, settled_fewer}

-- ---- triggers have due ticks

pub freeze_trigger : (f : FeedState) (roots : ℕ) → (after_freeze f roots).trigger ≡ f.trigger
freeze_trigger f roots = by (freezes f roots)
  where
    by : (b : Bool) → (if b then frozen f else f).trigger ≡ f.trigger
    by true = refl
    by false = refl

refused_trigger : (f : FeedState) (item : Item) (stamp : ℕ) → (refused f item stamp).trigger ≡ f.trigger
refused_trigger f item stamp = by (suspends (counted f item stamp))
  where
    by : (b : Bool) → (if b then suspended (counted f item stamp) else counted f item stamp).trigger ≡ f.trigger
    by true = refl
    by false = refl

answer_trigger : (c : Content) (n stamp : ℕ) (t : Track) (item : Item) (answer : Answer) → (after_answer c n stamp t item answer).feed.trigger ≡ t.feed.trigger
answer_trigger c n stamp t item Took = refl
answer_trigger c n stamp t item Full = freeze_trigger (refused t.feed item stamp) (roots_in c (with_feed t (refused t.feed item stamp) false)) ∙ refused_trigger t.feed item stamp

unless_due : (t : Track) (after : List Track) (b : Bool) → HasDueTicks t.feed.trigger → HaveDueTicks after → HaveDueTicks ((if b then [] else t ∷ []) ++ after)
unless_due t after true h k = k
unless_due t after false h k = (h, k)

-- of what is found
found_due : FindsFirst → (c : Content) (standing : Standing) (found : Found) → HaveDueTicks standing.tracks → first_offer c standing.stamp standing.tracks ≡ Some found → HaveDueTicks (found.before ++ found.track ∷ found.after)
found_due finds c standing found h e = subst HaveDueTicks (finds c standing.stamp standing.tracks found e).parts h

-- and after an answer
settled_due : FindsFirst → (c : Content) (standing : Standing) (found : Found) (answer : Answer) → HaveDueTicks standing.tracks → first_offer c standing.stamp standing.tracks ≡ Some found → HaveDueTicks (settled c standing found answer)
settled_due finds c standing found answer h e =
    let Due : Track → Type 0 = (λ t. HasDueTicks t.feed.trigger) in
    let new : Track = after_answer c standing.position standing.stamp found.track found.item answer in
    let all : HaveDueTicks (found.before ++ found.track ∷ found.after) = found_due finds c standing found h e in
    let here = all_rest Due found.before (found.track ∷ found.after) all in
    all_append Due found.before ((if new.feed.ended then [] else new ∷ []) ++ found.after) (all_before Due found.before (found.track ∷ found.after) all)
    (unless_due new found.after new.feed.ended (subst HasDueTicks (sym (answer_trigger c standing.position standing.stamp found.track found.item answer)) here.0) here.1)

-- ---- one offer

-- how many offers may still come
abbrev left : Content → Served → ℕ
left c served = weights c served.run.standing.stamp served.run.standing.tracks

abbrev pub Due : Served → Type 0
Due served = HaveDueTicks served.run.standing.tracks

-- one offer further fewer are left
step_fewer : FindsFirst → (c : Content) → IsLawful c → (q : Queueing) (served : Served) (found : Found) → Due served → waits c served.run ≡ Some found → left c (served_settled c q found served) < left c served
step_fewer finds c lawful q served found h e =
    settled_fewer finds c lawful served.run.standing found (found_answer q found served)
    (all_rest (λ t. HasDueTicks t.feed.trigger) found.before (found.track ∷ found.after) (found_due finds c served.run.standing found h e)).0 e

pub step_due : FindsFirst → (c : Content) (q : Queueing) (served : Served) (found : Found) → Due served → waits c served.run ≡ Some found → Due (served_settled c q found served)
step_due finds c q served found h e = settled_due finds c served.run.standing found (found_answer q found served) h e

stays : (c : Content) (q : Queueing) (k : ℕ) (served : Served) → waits c served.run ≡ None → offers_on c q k served ≡ served
stays c q zero served e = refl
stays c q (suc k) served e = ap (λ (o : Option Found). while_offered o served (λ found. offers_on c q k (served_settled c q found served))) e

pub goes : (c : Content) (q : Queueing) (k : ℕ) (served : Served) (found : Found) → waits c served.run ≡ Some found → offers_on c q (suc k) served ≡ offers_on c q k (served_settled c q found served)
goes c q k served found e = ap (λ (o : Option Found). while_offered o served (λ found. offers_on c q k (served_settled c q found served))) e

-- ---- enough offers

none_left : FindsFirst → (c : Content) → IsLawful c → (q : Queueing) (served : Served) → Due served → left c served ≤ 0 → (o : Option Found) → waits c served.run ≡ o → o ≡ None
none_left finds c lawful q served h small None e = refl
none_left finds c lawful q served h small (Some found) e =
    let less : left c (served_settled c q found served) < left c served = step_fewer finds c lawful q served found h e in
    let no_way : ⊥ = omega (arith, less, small) in absurd no_way

idle_by : FindsFirst → (c : Content) → IsLawful c → (q : Queueing) (k : ℕ) (served : Served) → Due served → left c served ≤ suc k → (o : Option Found) → waits c served.run ≡ o
    → ((next : Served) → Due next → left c next ≤ k → waits c (offers_on c q k next).run ≡ None) → waits c (offers_on c q (suc k) served).run ≡ None
idle_by finds c lawful q k served h small None e f = ap (λ (s : Served). waits c s.run) (stays c q (suc k) served e) ∙ e
idle_by finds c lawful q k served h small (Some found) e f =
    let less : left c (served_settled c q found served) < left c served = step_fewer finds c lawful q served found h e in
    ap (λ (s : Served). waits c s.run) (goes c q k served found e) ∙ f (served_settled c q found served) (step_due finds c q served found h e) (omega (arith, less, small))

idle_on : FindsFirst → (c : Content) → IsLawful c → (q : Queueing) (k : ℕ) (served : Served) → Due served → left c served ≤ k → waits c (offers_on c q k served).run ≡ None
idle_on finds c lawful q zero served h small = none_left finds c lawful q served h small (waits c served.run) refl
idle_on finds c lawful q (suc k) served h small = idle_by finds c lawful q k served h small (waits c served.run) refl (λ next d l. idle_on finds c lawful q k next d l)

more_by : FindsFirst → (c : Content) → IsLawful c → (q : Queueing) (j k : ℕ) (served : Served) → Due served → left c served ≤ suc j → left c served ≤ suc k → (o : Option Found) → waits c served.run ≡ o
    → ((next : Served) → Due next → left c next ≤ j → left c next ≤ k → offers_on c q j next ≡ offers_on c q k next) → offers_on c q (suc j) served ≡ offers_on c q (suc k) served
more_by finds c lawful q j k served h small few None e f = stays c q (suc j) served e ∙ sym (stays c q (suc k) served e)
more_by finds c lawful q j k served h small few (Some found) e f =
    let less : left c (served_settled c q found served) < left c served = step_fewer finds c lawful q served found h e in
    goes c q j served found e ∙ (f (served_settled c q found served) (step_due finds c q served found h e) (omega (arith, less, small)) (omega (arith, less, few)) ∙ sym (goes c q k served found e))

-- more than enough is the same
same_on : FindsFirst → (c : Content) → IsLawful c → (q : Queueing) (j k : ℕ) (served : Served) → Due served → left c served ≤ j → left c served ≤ k → offers_on c q j served ≡ offers_on c q k served
same_on finds c lawful q zero k served h small few = sym (stays c q k served (none_left finds c lawful q served h small (waits c served.run) refl))
same_on finds c lawful q (suc j) zero served h small few = stays c q (suc j) served (none_left finds c lawful q served h few (waits c served.run) refl)
same_on finds c lawful q (suc j) (suc k) served h small few = more_by finds c lawful q j k served h small few (waits c served.run) refl (λ next d l m. same_on finds c lawful q j k next d l m)

-- ---- all offers

pub offered_on : FindsFirst → (c : Content) → IsLawful c → (q : Queueing) (served : Served) (found : Found) → Due served → waits c served.run ≡ Some found → all_offered c q served ≡ all_offered c q (served_settled c q found served)
offered_on finds c lawful q served found h e =
    let next : Served = served_settled c q found served in
    let less : left c next < left c served = step_fewer finds c lawful q served found h e in
    same_on finds c lawful q (left c served) (suc (left c served)) served h (omega arith) (omega arith)
    ∙ (goes c q (left c served) served found e ∙ same_on finds c lawful q (left c served) (left c next) next (step_due finds c q served found h e) (omega (arith, less)) (omega arith))

pub offered_ends : (c : Content) (q : Queueing) (served : Served) → waits c served.run ≡ None → all_offered c q served ≡ served
offered_ends c q served e = stays c q (left c served) served e

pub offered_idle : FindsFirst → (c : Content) → IsLawful c → (q : Queueing) (served : Served) → Due served → waits c (all_offered c q served).run ≡ None
offered_idle finds c lawful q served h = idle_on finds c lawful q (left c served) served h (omega arith)

due_by : FindsFirst → (c : Content) (q : Queueing) (k : ℕ) (served : Served) → Due served → (o : Option Found) → waits c served.run ≡ o → ((next : Served) → Due next → Due (offers_on c q k next))
    → Due (while_offered o served (λ found. offers_on c q k (served_settled c q found served)))
due_by finds c q k served h None e f = h
due_by finds c q k served h (Some found) e f = f (served_settled c q found served) (step_due finds c q served found h e)

pub due_on : FindsFirst → (c : Content) (q : Queueing) (k : ℕ) (served : Served) → Due served → Due (offers_on c q k served)
due_on finds c q zero served h = h
due_on finds c q (suc k) served h = due_by finds c q k served h (waits c served.run) refl (λ next d. due_on finds c q k next d)
