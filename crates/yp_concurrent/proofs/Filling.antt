-- Queues that were full only where they could be, over more attempts.
use Rattle.std.proofs.Common.{◌≡◌, ℕ, zero, suc, ◌+◌, ◌<◌, ◌≤◌, ◌%◌, ◌==◌, Bool, true, false, List, [], ◌∷◌, ◌++◌, length, replicate, Some, refl, sym, ap, subst, ◌∙◌, arith, length-append}
use Rattle.std.specs.Prelude.{if◌then◌else◌}
use Rattle.std.specs.List.{AllByRecursion, slice_get}
use Rattle.std.proofs.lemmas.Bool.{eqb-true}
use Rattle.std.proofs.lemmas.List.Elements.{filter-append}
use Rattle.yp_journal.specs.declared.receiver.ReceiverInfo.{ReceiverInfo}
use Rattle.yp_attempt.specs.Attempts.{FillsFirst, Notification, of_receiver, taken_of}
use Rattle.yp_attempt.specs.AttemptLaws.{taken_append}
use Rattle.yp_attempt.specs.Content.{Content}
use Rattle.yp_attempt.specs.ListLaws.{all_append, all_before, all_filter, all_rest, filter_fail}
use Rattle.yp_attempt.specs.Moments.{Moment}
use Rattle.yp_attempt.specs.RunLaws.{FindsFirst, all_its, found_for}
use Rattle.yp_attempt.specs.Runs.{Reaches, Run, advances, first_run, opened, settles}
use Rattle.yp_attempt.specs.Tracks.{Answer, Attempt, Took, is_taken}
use Rattle.yp_attempt.specs.Workers.{numbers_of}
use Rattle.yp_crews.specs.Crews.{OnlyTookEach}
use Rattle.yp_handover.specs.Handover.{WentOnEach}
use Rattle.yp_concurrent.specs.Running.{EachFilled, HaveFilled}

-- ---- one queue

-- what stands in two lists stands in the first, or in the second
parted : {P : Type 0} (xs ys before : List Attempt) (y : Attempt) (after : List Attempt) → xs ++ ys ≡ before ++ y ∷ after
    → ((rest : List Attempt) → xs ≡ before ++ y ∷ rest → P) → ((rest : List Attempt) → before ≡ xs ++ rest → ys ≡ rest ++ y ∷ after → P) → P
parted [] ys before y after is earlier later = later before refl is
parted (x ∷ xs) ys [] y after is earlier later =
    let same : x ≡ y = cc in
    earlier xs (ap (λ (z : Attempt). z ∷ xs) same)
parted (x ∷ xs) ys (b ∷ before) y after is earlier later =
    let head : x ≡ b = cc in
    let tail : xs ++ ys ≡ before ++ y ∷ after = cc in
    parted xs ys before y after tail (λ rest same. earlier rest (λ i. head i ∷ same i)) (λ rest same cut. later rest (λ i. sym head i ∷ same i) cut)

fills_both : (places : ℕ) (xs ys : List Attempt) → FillsFirst places xs → FillsFirst places ys → FillsFirst places (xs ++ ys)
fills_both places xs ys here later before a after is full =
    parted xs ys before a after is (λ rest same. here before a rest same full)
    (λ rest same cut.
    let many : places ≤ length (taken_of rest) = later rest a after cut full in
    let count : length (taken_of before) ≡ length (taken_of xs) + length (taken_of rest) =
    ap (λ (those : List Attempt). length (taken_of those)) same ∙ (ap (λ (those : List Notification). length those) (taken_append xs rest) ∙ length-append (taken_of xs) (taken_of rest)) in
    omega (arith, many, count))

abbrev IsTook : Attempt → Type 0
IsTook a = a.answer ≡ Took

took_fills : (places : ℕ) (xs : List Attempt) → AllByRecursion IsTook xs → FillsFirst places xs
took_fills places xs all before a after is full =
    let rest : AllByRecursion IsTook (a ∷ after) = all_rest IsTook before (a ∷ after) (subst (AllByRecursion IsTook) is all) in
    let no : true ≡ false = sym (ap is_taken rest.0) ∙ full in
    absurd cc

-- ---- the queues of one worker

module _ (receivers : List ReceiverInfo) where
  filled_both : (mine : List ℕ) (done since : List Attempt) → HaveFilled receivers mine done → HaveFilled receivers mine since → HaveFilled receivers mine (done ++ since)
  filled_both [] done since here later = tt
  filled_both (n ∷ mine) done since here later = (
    λ info its.
        subst (FillsFirst info.places) (sym (filter-append (λ (a : Attempt). a.receiver == n) done since))
        (fills_both info.places (of_receiver n done) (of_receiver n since) (here.0 info its) (later.0 info its)),
    filled_both mine done since here.1 later.1,
  )

  took_filled : (mine : List ℕ) (done : List Attempt) → AllByRecursion IsTook done → HaveFilled receivers mine done
  took_filled [] done all = tt
  took_filled (n ∷ mine) done all = (
    λ info its. took_fills info.places (of_receiver n done) (all_filter IsTook (λ (a : Attempt). a.receiver == n) done all),
    took_filled mine done all,
  )

  -- ---- of several

  module _ (workers : ℕ) where
    pub first_filled : (n worker : ℕ) → EachFilled receivers workers worker (replicate n first_run)
    first_filled zero worker = tt
    first_filled (suc n) worker = (took_filled (numbers_of worker workers (length receivers)) [] tt, first_filled n (worker + 1))

    pub only_filled : (worker : ℕ) (befores afters : List Run) → OnlyTookEach befores afters → EachFilled receivers workers worker befores → EachFilled receivers workers worker afters
    only_filled worker [] [] only filled = tt
    only_filled worker [] (after ∷ afters) only filled = absurd only
    only_filled worker (before ∷ befores) [] only filled = absurd only
    only_filled worker (before ∷ befores) (after ∷ afters) only filled =
        let mine : List ℕ = numbers_of worker workers (length receivers) in (
          subst (HaveFilled receivers mine) (sym only.0.done) (filled_both mine before.done only.0.more filled.0 (took_filled mine only.0.more only.0.took)),
          only_filled (worker + 1) befores afters only.1 filled.1,
        )

    pub went_filled : (worker : ℕ) (befores afters : List Run) → WentOnEach receivers workers worker befores afters → EachFilled receivers workers worker befores → EachFilled receivers workers worker afters
    went_filled worker [] [] went filled = tt
    went_filled worker [] (after ∷ afters) went filled = absurd went
    went_filled worker (before ∷ befores) [] went filled = absurd went
    went_filled worker (before ∷ befores) (after ∷ afters) went filled =
        let mine : List ℕ = numbers_of worker workers (length receivers) in (
          subst (HaveFilled receivers mine) (sym went.0.done) (filled_both mine before.done went.0.since filled.0 went.0.fulls),
          went_filled (worker + 1) befores afters went.1 filled.1,
        )

    -- their number stays
    pub went_count : (worker : ℕ) (befores afters : List Run) → WentOnEach receivers workers worker befores afters → length afters ≡ length befores
    went_count worker [] [] went = refl
    went_count worker [] (after ∷ afters) went = absurd went
    went_count worker (before ∷ befores) [] went = absurd went
    went_count worker (before ∷ befores) (after ∷ afters) went = ap suc (went_count (worker + 1) befores afters went.1)

pub only_count : (befores afters : List Run) → OnlyTookEach befores afters → length afters ≡ length befores
only_count [] [] only = refl
only_count [] (after ∷ afters) only = absurd only
only_count (before ∷ befores) [] only = absurd only
only_count (before ∷ befores) (after ∷ afters) only = ap suc (only_count befores afters only.1)

-- ---- whatever the receiver

-- what holds of the numbers that a worker serves holds of each number below the count that leaves the worker's as remainder
member : (P : ℕ → Type 0) (worker workers count n : ℕ) → n < count → n % workers ≡ worker → AllByRecursion P (numbers_of worker workers count) → P n
member P worker workers zero n less its all = absurd (omega (arith, less))
member P worker workers (suc count) n less its all =
    by (n == count) refl (λ few. member P worker workers count n few its (all_before P (numbers_of worker workers count) (if count % workers == worker then count ∷ [] else []) all))
  where
    by : (b : Bool) → (n == count) ≡ b → (n < count → P n) → P n
    by true e earlier =
        let same : n ≡ count = eqb-true n count e in
        let here : count % workers ≡ worker = subst (λ (k : ℕ). k % workers ≡ worker) same its in
        let mine : (count % workers == worker) ≡ true = grind (arith, here) in
        let there : AllByRecursion P (count ∷ []) =
        subst (λ (b : Bool). AllByRecursion P (if b then count ∷ [] else [])) mine (all_rest P (numbers_of worker workers count) (if count % workers == worker then count ∷ [] else []) all) in
        subst P (sym same) there.0
    by false e earlier = let few : n < count = grind (arith, e, less) in earlier few

-- a run has attempts only for receivers of its own
done_belong : (Is : ℕ → Type 0) → FindsFirst → (c : Content) (receivers : List ℕ) → AllByRecursion Is receivers → (past : List Moment) (answers : List Answer) (run : Run) → Reaches c receivers past answers run
    → AllByRecursion (λ (a : Attempt). Is a.receiver) run.done
done_belong Is finds c receivers each _ _ _ opened = tt
done_belong Is finds c receivers each _ _ _ (advances past answers run m r may idle) = done_belong Is finds c receivers each past answers run r
done_belong Is finds c receivers each _ _ _ (settles past answers run found answer r offers) =
    all_append (λ (a : Attempt). Is a.receiver) run.done _ (done_belong Is finds c receivers each past answers run r) (found_for Is finds c receivers each past answers run found r offers, tt)

-- none for a receiver of another worker
others_none : (worker workers n : ℕ) → (n % workers == worker) ≡ false → (attempts : List Attempt) → AllByRecursion (λ (a : Attempt). a.receiver % workers ≡ worker) attempts → of_receiver n attempts ≡ []
others_none worker workers n other [] all = refl
others_none worker workers n other (a ∷ attempts) all =
    filter_fail (λ (x : Attempt). x.receiver == n) a attempts (by (a.receiver == n) refl) ∙ others_none worker workers n other attempts all.1
  where
    by : (b : Bool) → (a.receiver == n) ≡ b → (a.receiver == n) ≡ false
    by true e =
        let same : a.receiver ≡ n = eqb-true a.receiver n e in
        let here : n % workers ≡ worker = subst (λ (k : ℕ). k % workers ≡ worker) same all.0 in
        let its : (n % workers == worker) ≡ true = grind (arith, here) in
        let no : true ≡ false = sym its ∙ other in
        absurd cc
    by false e = e

-- so the queue of each receiver was full only where it could be
pub all_filled : FindsFirst → (c : Content) (receivers : List ReceiverInfo) (worker workers : ℕ) (past : List Moment) (answers : List Answer) (run : Run) → Reaches c (numbers_of worker workers (length receivers)) past answers run
    → HaveFilled receivers (numbers_of worker workers (length receivers)) run.done → (n : ℕ) (info : ReceiverInfo) → n < length receivers → slice_get receivers n ≡ Some info → FillsFirst info.places (of_receiver n run.done)
all_filled finds c receivers worker workers past answers run reaches filled n info less there = by (n % workers == worker) refl
  where
    by : (b : Bool) → (n % workers == worker) ≡ b → FillsFirst info.places (of_receiver n run.done)
    by true e =
        member (λ (k : ℕ). (i : ReceiverInfo) → slice_get receivers k ≡ Some i → FillsFirst i.places (of_receiver k run.done)) worker workers (length receivers) n less (eqb-true (n % workers) worker e) filled info there
    by false e =
        subst (FillsFirst info.places)
        (sym (others_none worker workers n e run.done (done_belong (λ (k : ℕ). k % workers ≡ worker) finds c (numbers_of worker workers (length receivers)) (all_its worker workers (length receivers)) past answers run reaches)))
        (took_fills info.places [] tt)
