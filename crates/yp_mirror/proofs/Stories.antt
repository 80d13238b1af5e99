-- What a journal tells of a receiver is a story of it.
use Rattle.std.proofs.Common.{◌≡◌, ℕ, ◌+◌, suc, refl, sym, ap, subst, ◌∙◌, Bool, true, false, ◌||◌, List, [], ◌∷◌, ◌++◌, length, take, Option, Some, None, arith, append-nil, append_assoc}
use Rattle.std.specs.Prelude.{if◌then◌else◌}
use Rattle.std.proofs.lemmas.Bool.{true≢false}
use Rattle.yp_base.specs.declared.row.Row.{Row}
use Rattle.yp_base.specs.declared.notice.Trigger.{Trigger}
use Rattle.yp_feed.specs.Machine.{is_mirrored, resyncs}
use Rattle.yp_attempt.specs.Moments.{Moment, Act, Quiet, Starts, Controls, Drops, starts_sub, was_started, IsUnused, MayFollow, AllMayFollow}
use Rattle.yp_mirror.specs.Stories.{StartsAs, IsStory, is_control_of, want_after, changes_after, trigger_of, or_later, trigger_in, passes, story_of}
use Rattle.yp_mirror.proofs.Lists.{number_is}

take_past : {X : Type 0} (past : List X) (m : X) (rest : List X) → take (length past + 1) (past ++ m ∷ rest) ≡ past ++ m ∷ []
take_past [] m rest = refl
take_past {X} (x ∷ past) m rest =
    let one_more : suc (length past) + 1 ≡ suc (length past + 1) = omega arith in
    ap (λ (n : ℕ). take n (x ∷ (past ++ m ∷ rest))) one_more ∙ ap (λ (xs : List X). x ∷ xs) (take_past past m rest)

want_last : (receiver sub : ℕ) (rows : List Row) (past : List Moment) (m : Moment) → want_after receiver sub rows (past ++ m ∷ []) ≡ m.selection sub receiver
want_last receiver sub rows [] m = refl
want_last receiver sub rows (x ∷ past) m = want_last receiver sub (x.selection sub receiver) past m

changes_last : (receiver sub : ℕ) (b : Bool) (past : List Moment) (m : Moment) → changes_after receiver sub b (past ++ m ∷ []) ≡ (is_control_of sub m.act || m.rules receiver)
changes_last receiver sub b [] m = refl
changes_last receiver sub b (x ∷ past) m = changes_last receiver sub (is_control_of sub x.act || x.rules receiver) past m

-- ---- the trigger with which a subscription starts

not_started : (act : Act) (sub : ℕ) → starts_sub act sub ≡ false → trigger_of sub act ≡ None
not_started Quiet sub e = refl
not_started (Starts other trigger configured names) sub e = ap (λ (b : Bool). if b then Some trigger else None) e
not_started (Controls other control) sub e = refl
not_started (Drops other) sub e = refl

neither : (b rest : Bool) → (if b then true else rest) ≡ false → (b ≡ false) × (rest ≡ false)
neither true rest e = absurd (true≢false e)
neither false rest e = (refl, e)

trigger_past : (past : List Moment) (m : Moment) (rest : List Moment) (sub : ℕ) → was_started past sub ≡ false → trigger_in sub (past ++ m ∷ rest) ≡ or_later (trigger_of sub m.act) (trigger_in sub rest)
trigger_past [] m rest sub e = refl
trigger_past (x ∷ past) m rest sub e =
    let k = neither (starts_sub x.act sub) (was_started past sub) e in
    ap (λ (o : Option Trigger). or_later o (trigger_in sub (past ++ m ∷ rest))) (not_started x.act sub k.0) ∙ trigger_past past m rest sub k.1

may_follow_at : (before past : List Moment) (m : Moment) (rest : List Moment) → AllMayFollow before (past ++ m ∷ rest) → MayFollow (before ++ past) m
may_follow_at before [] m rest h = subst (λ (xs : List Moment). MayFollow xs m) (sym (append-nil before)) h.0
may_follow_at before (x ∷ past) m rest h = subst (λ (xs : List Moment). MayFollow xs m) (append_assoc before (x ∷ []) past) (may_follow_at (before ++ x ∷ []) past m rest h.1)

starts_as : (journal : List Moment) (receiver : ℕ) (past : List Moment) (m : Moment) (rest : List Moment) (act : Act) → m.act ≡ act → past ++ m ∷ rest ≡ journal → IsUnused past act → StartsAs (story_of journal receiver) act
starts_as journal receiver past m rest Quiet a e unused = tt
starts_as journal receiver past m rest (Starts sub trigger configured names) a e unused =
    let is : trigger_in sub journal ≡ Some trigger =
    ap (λ (xs : List Moment). trigger_in sub xs) (sym e) ∙ (trigger_past past m rest sub unused
    ∙ (ap (λ (x : Act). or_later (trigger_of sub x) (trigger_in sub rest)) a ∙ ap (λ (b : Bool). or_later (if b then Some trigger else None) (trigger_in sub rest)) (number_is sub))) in
    (ap (passes is_mirrored) is, ap (passes resyncs) is)
starts_as journal receiver past m rest (Controls sub control) a e unused = tt
starts_as journal receiver past m rest (Drops sub) a e unused = tt

pub is_story : (journal : List Moment) (receiver : ℕ) → AllMayFollow [] journal → IsStory (story_of journal receiver) receiver journal
is_story journal receiver may past m rest e =
    let up_to : take (length past + 1) journal ≡ past ++ m ∷ [] = ap (λ (xs : List Moment). take (length past + 1) xs) (sym e) ∙ take_past past m rest in
    record {
      selection = λ sub. sym (ap (λ (xs : List Moment). want_after receiver sub [] xs) up_to ∙ want_last receiver sub [] past m);
      changes = λ sub. ap (λ (xs : List Moment). changes_after receiver sub false xs) up_to ∙ changes_last receiver sub false past m;
      starts = starts_as journal receiver past m rest m.act refl e (may_follow_at [] past m rest (subst (AllMayFollow []) (sym e) may)).unused;
    }
