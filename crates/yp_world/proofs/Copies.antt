-- What a receiver knows by what it took: after each update of a mirrored subscription its copy is what is selected where the update was made, the first update is a full one, and positions never fall.
use Rattle.std.proofs.Common.{◌≡◌, ℕ, ◌≤◌, refl, sym, ap, subst, ◌∙◌, Bool, true, false, ◌&&◌, List, [], ◌∷◌, ◌++◌, None, append_assoc}
use Rattle.std.specs.Prelude.{◌==◌}
use Rattle.std.specs.List.{AllByRecursion, filter}
use Rattle.std.proofs.lemmas.Bool.{and_parts, true≢false}
use Rattle.yp_base.specs.declared.row.Row.{Row}
use Rattle.yp_attempt.specs.Attempts.{Notification, notification_of, if_taken, taken_of}
use Rattle.yp_attempt.specs.Content.{Content}
use Rattle.yp_attempt.specs.ListLaws.{filter_pass, filter_fail}
use Rattle.yp_attempt.specs.Runs.{Run}
use Rattle.yp_attempt.specs.Tracks.{Body, All, Edits, Marked, Notice, Answer, Took, Full, Attempt, is_taken}
use Rattle.yp_mirror.specs.Heard.{Told, told_nothing, after_body, after_full, after_attempt, heard_all, told_by, of_sub, is_update, is_full_update, IsTakenUpdate}
use Rattle.yp_mirror.specs.Links.{IsRunOf, IsAttemptOf}
use Rattle.yp_mirror.specs.Stories.{Story}
use Rattle.yp_world.specs.Headline.{told_after, known_of, is_update_of, CopiesSelections, CopiesBeginFull, NeverFalls}
use Rattle.yp_world.specs.TakenLaws.{IsTakenAt, taken_at, sub_parts}

-- ---- the laws that are rested on

pub record CopyLaws : Type 0 where
  pub fresh : (c : Content) (story : Story) (receiver : ℕ) (run : Run) → IsRunOf c story receiver run → (sub : ℕ) (before : List Attempt) (a : Attempt) → IsAttemptOf run sub before a → IsTakenUpdate a → story.mirrored sub ≡ true
      → (told_by c (before ++ a ∷ [])).rows ≡ story.want sub a.made.position
  pub begins : (c : Content) (story : Story) (receiver : ℕ) (run : Run) → IsRunOf c story receiver run → (sub : ℕ) (before : List Attempt) (a : Attempt) → IsAttemptOf run sub before a → IsTakenUpdate a → story.mirrored sub ≡ true
      → (told_by c before).last ≡ None → is_full_update a.made.body ≡ true
  pub rising : (c : Content) (story : Story) (receiver : ℕ) (run : Run) → IsRunOf c story receiver run
      → (sub : ℕ) (before : List Attempt) (a : Attempt) (between : List Attempt) (b : Attempt) (later : List Attempt) → of_sub sub run.done ≡ before ++ a ∷ (between ++ b ∷ later) → IsTakenUpdate a → IsTakenUpdate b → a.made.position ≤ b.made.position

-- ---- what was taken tells what its attempts tell

-- the same copy, and the last update at the same position
record HaveSameCopy (t u : Told) : Type 0 where
  pub rows : t.rows ≡ u.rows
  pub last : t.last ≡ u.last

body_same : (c : Content) (t u : Told) (n : ℕ) (body : Body) → HaveSameCopy t u → HaveSameCopy (after_body c t n body) (after_body c u n body)
body_same c t u n (All rows) same = record { rows = refl; last = refl }
body_same c t u n (Edits edits) same = record { rows = ap (λ (rows : List Row). c.received rows edits) same.rows; last = refl }
body_same c t u n (Marked edits) same = record { rows = ap (λ (rows : List Row). c.received rows edits) same.rows; last = refl }
body_same c t u n (Notice item) same = record { rows = same.rows; last = same.last }

-- the notifications of a subscription among those that were taken
abbrev its_taken : ℕ → List Attempt → List Notification
its_taken sub attempts = filter (λ n. n.sub == sub) (taken_of attempts)

attempt_same : (c : Content) (sub : ℕ) (a : Attempt) (attempts : List Attempt) (answer : Answer) → a.answer ≡ answer → (b : Bool) → (a.sub == sub) ≡ b
    → ((t u : Told) → HaveSameCopy t u → HaveSameCopy (told_after c t (its_taken sub attempts)) (heard_all c u (of_sub sub attempts)))
    → (t u : Told) → HaveSameCopy t u → HaveSameCopy (told_after c t (filter (λ n. n.sub == sub) (if_taken answer (notification_of a) (taken_of attempts)))) (heard_all c u (of_sub sub (a ∷ attempts)))
attempt_same c sub a attempts Took e true mine later t u same =
    subst (λ (x : List Notification × List Attempt). HaveSameCopy (told_after c t x.0) (heard_all c u x.1))
    (λ i. (sym (filter_pass (λ n. n.sub == sub) (notification_of a) (taken_of attempts) mine) i, sym (filter_pass (λ (x : Attempt). x.sub == sub) a attempts mine) i))
    (subst (λ (x : Answer). HaveSameCopy (told_after c (after_body c t a.made.position a.made.body) (its_taken sub attempts)) (heard_all c (after_attempt c u a.made.position a.made.body a.stamp x) (of_sub sub attempts))) (sym e)
    (later (after_body c t a.made.position a.made.body) (after_body c u a.made.position a.made.body) (body_same c t u a.made.position a.made.body same)))
attempt_same c sub a attempts Full e true mine later t u same =
    subst (λ (xs : List Attempt). HaveSameCopy (told_after c t (its_taken sub attempts)) (heard_all c u xs)) (sym (filter_pass (λ (x : Attempt). x.sub == sub) a attempts mine))
    (subst (λ (x : Answer). HaveSameCopy (told_after c t (its_taken sub attempts)) (heard_all c (after_attempt c u a.made.position a.made.body a.stamp x) (of_sub sub attempts))) (sym e)
    (later t (after_full u a.stamp) (record { rows = same.rows; last = same.last })))
attempt_same c sub a attempts Took e false other later t u same =
    subst (λ (x : List Notification × List Attempt). HaveSameCopy (told_after c t x.0) (heard_all c u x.1))
    (λ i. (sym (filter_fail (λ n. n.sub == sub) (notification_of a) (taken_of attempts) other) i, sym (filter_fail (λ (x : Attempt). x.sub == sub) a attempts other) i)) (later t u same)
attempt_same c sub a attempts Full e false other later t u same =
    subst (λ (xs : List Attempt). HaveSameCopy (told_after c t (its_taken sub attempts)) (heard_all c u xs)) (sym (filter_fail (λ (x : Attempt). x.sub == sub) a attempts other)) (later t u same)

taken_same : (c : Content) (sub : ℕ) (attempts : List Attempt) (t u : Told) → HaveSameCopy t u → HaveSameCopy (told_after c t (its_taken sub attempts)) (heard_all c u (of_sub sub attempts))
taken_same c sub [] t u same = same
taken_same c sub (a ∷ attempts) t u same = attempt_same c sub a attempts a.answer refl (a.sub == sub) refl (λ x y is. taken_same c sub attempts x y is) t u same

-- ---- no update

none_after : (c : Content) (t : Told) (n : ℕ) (body : Body) → is_update body ≡ false → t.last ≡ None → (after_body c t n body).last ≡ None
none_after c t n (All rows) silent none = absurd (true≢false silent)
none_after c t n (Edits edits) silent none = absurd (true≢false silent)
none_after c t n (Marked edits) silent none = absurd (true≢false silent)
none_after c t n (Notice item) silent none = none

none_by : (c : Content) (sub : ℕ) (n : Notification) (ns : List Notification) (b : Bool) → (n.sub == sub) ≡ b → (b && is_update n.made.body) ≡ false → ((t : Told) → t.last ≡ None → (told_after c t (filter (λ x. x.sub == sub) ns)).last ≡ None)
    → (t : Told) → t.last ≡ None → (told_after c t (filter (λ x. x.sub == sub) (n ∷ ns))).last ≡ None
none_by c sub n ns true mine silent later t none =
    ap (λ (xs : List Notification). (told_after c t xs).last) (filter_pass (λ (x : Notification). x.sub == sub) n ns mine) ∙ later (after_body c t n.made.position n.made.body) (none_after c t n.made.position n.made.body silent none)
none_by c sub n ns false other silent later t none = ap (λ (xs : List Notification). (told_after c t xs).last) (filter_fail (λ (x : Notification). x.sub == sub) n ns other) ∙ later t none

none_told : (c : Content) (sub : ℕ) (ns : List Notification) → AllByRecursion (λ n. is_update_of sub n ≡ false) ns → (t : Told) → t.last ≡ None → (told_after c t (filter (λ x. x.sub == sub) ns)).last ≡ None
none_told c sub [] all t none = none
none_told c sub (n ∷ ns) all t none = none_by c sub n ns (n.sub == sub) refl all.0 (λ u is. none_told c sub ns all.1 u is) t none

-- ---- what was taken

-- attempts up to one that was taken
taken_up_to : (front : List Attempt) (a : Attempt) → is_taken a.answer ≡ true → taken_of (front ++ a ∷ []) ≡ taken_of front ++ notification_of a ∷ []
taken_up_to [] a taken = last a.answer taken
  where
    last : (answer : Answer) → is_taken answer ≡ true → if_taken answer (notification_of a) [] ≡ notification_of a ∷ []
    last Took taken = refl
    last Full taken = absurd (true≢false (sym taken))
taken_up_to (x ∷ front) a taken = by x.answer (taken_up_to front a taken)
  where
    by : (answer : Answer) → taken_of (front ++ a ∷ []) ≡ taken_of front ++ notification_of a ∷ [] → if_taken answer (notification_of x) (taken_of (front ++ a ∷ [])) ≡ if_taken answer (notification_of x) (taken_of front) ++ notification_of a ∷ []
    by Took h = ap (λ (ns : List Notification). notification_of x ∷ ns) h
    by Full h = h

module _ (laws : CopyLaws) (c : Content) (story : Story) (receiver : ℕ) (run : Run) (of : IsRunOf c story receiver run) (got waiting : List Notification) (accepted : taken_of run.done ≡ got ++ waiting) where
  there : (before : List Notification) (n : Notification) (after : List Notification) → got ≡ before ++ n ∷ after → IsTakenAt run.done before n (after ++ waiting)
  there before n after is = taken_at run.done before n (after ++ waiting) (accepted ∙ ap (λ (ns : List Notification). ns ++ waiting) is ∙ append_assoc before (n ∷ after) waiting)

  module _ (sub : ℕ) (before : List Notification) (update : Notification) (after : List Notification) (is : got ≡ before ++ update ∷ after) (updates : is_update_of sub update ≡ true) where
    abbrev at : IsTakenAt run.done before update (after ++ waiting)
    at = there before update after is

    said : (at.a.sub == sub) ≡ true × is_update at.a.made.body ≡ true
    said = and_parts (at.a.sub == sub) (is_update at.a.made.body) (ap (is_update_of sub) at.here ∙ updates)

    taken_update : IsTakenUpdate at.a
    taken_update = record { taken = at.taken; update = said.1 }

    of_it : IsAttemptOf run sub (of_sub sub at.front) at.a
    of_it = record { later = of_sub sub at.back; parts = ap (λ (xs : List Attempt). of_sub sub xs) at.parts ∙ sub_parts sub at.front at.a at.back said.0 }

    -- its attempts tell the same up to it
    same_up_to : (known_of c sub (before ++ update ∷ [])).rows ≡ (told_by c (of_sub sub at.front ++ at.a ∷ [])).rows
    same_up_to =
        ap (λ (ns : List Notification). (known_of c sub ns).rows) (sym (taken_up_to at.front at.a at.taken ∙ (λ i. at.first i ++ at.here i ∷ [])))
        ∙ (taken_same c sub (at.front ++ at.a ∷ []) told_nothing told_nothing (record { rows = refl; last = refl })).rows
        ∙ ap (λ (xs : List Attempt). (told_by c xs).rows) (sub_parts sub at.front at.a [] said.0)

    fresh_there : story.mirrored sub ≡ true → (known_of c sub (before ++ update ∷ [])).rows ≡ story.want sub update.made.position
    fresh_there mirrored =
        same_up_to ∙ laws.fresh c story receiver run of sub (of_sub sub at.front) at.a of_it taken_update mirrored ∙ ap (λ (n : Notification). story.want sub n.made.position) at.here

    full_there : story.mirrored sub ≡ true → AllByRecursion (λ n. is_update_of sub n ≡ false) before → is_full_update update.made.body ≡ true
    full_there mirrored none =
        subst (λ (n : Notification). is_full_update n.made.body ≡ true) at.here
        (laws.begins c story receiver run of sub (of_sub sub at.front) at.a of_it taken_update mirrored
        (sym (taken_same c sub at.front told_nothing told_nothing (record { rows = refl; last = refl })).last
        ∙ none_told c sub (taken_of at.front) (subst (λ (ns : List Notification). AllByRecursion (λ n. is_update_of sub n ≡ false) ns) (sym at.first) none) told_nothing refl))

  pub copies_selections : CopiesSelections c story got
  copies_selections sub mirrored before update after is updates = fresh_there sub before update after is updates mirrored

  pub copies_begin_full : CopiesBeginFull story got
  copies_begin_full sub mirrored before update after is updates none = full_there sub before update after is updates mirrored none

  -- two updates of one subscription, one after the other
  pub never_falls : NeverFalls got
  never_falls sub before one between other after is one_updates other_updates =
      let first : IsTakenAt run.done before one ((between ++ other ∷ after) ++ waiting) = there before one (between ++ other ∷ after) is in
      let second : IsTakenAt first.back between other (after ++ waiting) = taken_at first.back between other (after ++ waiting) (first.rest ∙ append_assoc between (other ∷ after) waiting) in
      let one_said = and_parts (first.a.sub == sub) (is_update first.a.made.body) (ap (is_update_of sub) first.here ∙ one_updates) in
      let other_said = and_parts (second.a.sub == sub) (is_update second.a.made.body) (ap (is_update_of sub) second.here ∙ other_updates) in
      let parts : of_sub sub run.done ≡ of_sub sub first.front ++ first.a ∷ (of_sub sub second.front ++ second.a ∷ of_sub sub second.back) =
      ap (λ (xs : List Attempt). of_sub sub xs) first.parts ∙ sub_parts sub first.front first.a first.back one_said.0
      ∙ ap (λ (xs : List Attempt). of_sub sub first.front ++ first.a ∷ xs) (ap (λ (xs : List Attempt). of_sub sub xs) second.parts ∙ sub_parts sub second.front second.a second.back other_said.0) in
      let low : first.a.made.position ≤ second.a.made.position =
      laws.rising c story receiver run of sub (of_sub sub first.front) first.a (of_sub sub second.front) second.a (of_sub sub second.back) parts (record { taken = first.taken; update = one_said.1 }) (record { taken = second.taken; update = other_said.1 }) in
      subst (λ (n : ℕ). n ≤ other.made.position) (ap (λ (n : Notification). n.made.position) first.here)
      (subst (λ (n : ℕ). first.a.made.position ≤ n) (ap (λ (n : Notification). n.made.position) second.here) low)
