-- Lists of tracks of different subscriptions, and attempts of one subscription.
use Rattle.std.proofs.Common.{◌≡◌, ℕ, refl, sym, ap, subst, ◌∙◌, Bool, true, false, List, [], ◌∷◌, ◌++◌, map, arith, append-nil}
use Rattle.std.specs.Prelude.{if◌then◌else◌, ◌==◌}
use Rattle.std.specs.List.{AllByRecursion, filter}
use Rattle.std.proofs.lemmas.Bool.{true≢false}
use Rattle.std.proofs.lemmas.List.Elements.{filter-append}
use Rattle.yp_attempt.specs.Content.{Content}
use Rattle.yp_attempt.specs.ListLaws.{all_append, all_before, all_rest, all_map, all_filter, filter_pass, filter_fail}
use Rattle.yp_attempt.specs.Moments.{Moment, last_stamp, starts_sub, was_started}
use Rattle.yp_attempt.specs.Tracks.{Track, Attempt}
use Rattle.yp_mirror.specs.Heard.{Told, heard, heard_all, of_sub}
use Rattle.yp_mirror.specs.Stories.{Story}
use Rattle.yp_mirror.specs.Following.{Follows, AllFollow}
use Rattle.yp_mirror.specs.Links.{HaveOwnSubs}

pub all_two : {X : Type 0} (P Q R : X → Type 0) (xs : List X) → ((x : X) → P x → Q x → R x) → AllByRecursion P xs → AllByRecursion Q xs → AllByRecursion R xs
all_two P Q R [] g h k = tt
all_two P Q R (x ∷ xs) g h k = (g x h.0 k.0, all_two P Q R xs g h.1 k.1)

pub same_number : (a b : ℕ) → (a == b) ≡ true → a ≡ b
same_number a b e = grind (arith, e)

pub other_number : (a b : ℕ) → (a == b) ≡ false → (b == a) ≡ false
other_number a b e = grind (arith, e)

pub number_is : (a : ℕ) → (a == a) ≡ true
number_is a = grind arith

-- ---- tracks of different subscriptions

-- a track of another subscription
abbrev pub IsOfOther : ℕ → Track → Type 0
IsOfOther sub other = (other.feed.sub == sub) ≡ false

pub own_map : (f : Track → Track) (tracks : List Track) → ((track : Track) → (f track).feed.sub ≡ track.feed.sub) → HaveOwnSubs tracks → HaveOwnSubs (map f tracks)
own_map f [] same h = tt
own_map f (track ∷ tracks) same h = (
  all_map (IsOfOther track.feed.sub) (IsOfOther (f track).feed.sub) f tracks (λ x e. (λ i. same x i == same track i) ∙ e) h.0,
  own_map f tracks same h.1,
)

if_own : (b : Bool) (track : Track) (ys zs : List Track) → ys ≡ (if b then track ∷ zs else zs) → AllByRecursion (IsOfOther track.feed.sub) zs → HaveOwnSubs zs → HaveOwnSubs ys
if_own true track ys zs e h k = subst HaveOwnSubs (sym e) (h, k)
if_own false track ys zs e h k = subst HaveOwnSubs (sym e) k

pub own_filter : (p : Track → Bool) (tracks : List Track) → HaveOwnSubs tracks → HaveOwnSubs (filter p tracks)
own_filter p [] h = tt
own_filter p (track ∷ tracks) h = if_own (p track) track (filter p (track ∷ tracks)) (filter p tracks) refl (all_filter (IsOfOther track.feed.sub) p tracks h.0) (own_filter p tracks h.1)

pub own_append : (xs ys : List Track) → HaveOwnSubs xs → HaveOwnSubs ys → AllByRecursion (λ x. AllByRecursion (IsOfOther x.feed.sub) ys) xs → HaveOwnSubs (xs ++ ys)
own_append [] ys h k cross = k
own_append (x ∷ xs) ys h k cross = (all_append (IsOfOther x.feed.sub) xs ys h.0 cross.0, own_append xs ys h.1 k cross.1)

-- the tracks around one of them
pub record AreAround (before : List Track) (track : Track) (after : List Track) : Type 0 where
  pub before_it : AllByRecursion (IsOfOther track.feed.sub) before
  pub after_it : AllByRecursion (IsOfOther track.feed.sub) after

pub own_around : (before : List Track) (track : Track) (after : List Track) → HaveOwnSubs (before ++ track ∷ after) → AreAround before track after
own_around [] track after h = record { before_it = tt; after_it = h.0 }
own_around (x ∷ before) track after h =
    let k = own_around before track after h.1 in
    let m = all_rest (IsOfOther x.feed.sub) before (track ∷ after) h.0 in
    record { before_it = (other_number track.feed.sub x.feed.sub m.0, k.before_it); after_it = k.after_it }

-- one of them gives way to another track of its subscription, or to none
pub own_settled : (before : List Track) (track new : Track) (after : List Track) (b : Bool) → new.feed.sub ≡ track.feed.sub → HaveOwnSubs (before ++ track ∷ after) → HaveOwnSubs (before ++ ((if b then [] else new ∷ []) ++ after))
own_settled [] track new after true same h = h.1
own_settled [] track new after false same h = (subst (λ (sub : ℕ). AllByRecursion (IsOfOther sub) after) (sym same) h.0, h.1)
own_settled (x ∷ before) track new after true same h = (
  all_append (IsOfOther x.feed.sub) before after (all_before (IsOfOther x.feed.sub) before (track ∷ after) h.0) (all_rest (IsOfOther x.feed.sub) before (track ∷ after) h.0).1,
  own_settled before track new after true same h.1,
)
own_settled (x ∷ before) track new after false same h = (
  all_append (IsOfOther x.feed.sub) before (new ∷ after) (all_before (IsOfOther x.feed.sub) before (track ∷ after) h.0)
      (ap (λ (y : ℕ). y == x.feed.sub) same ∙ (all_rest (IsOfOther x.feed.sub) before (track ∷ after) h.0).0, (all_rest (IsOfOther x.feed.sub) before (track ∷ after) h.0).1),
  own_settled before track new after false same h.1,
)

-- ---- attempts of one subscription

pub heard_last : (c : Content) (t : Told) (xs : List Attempt) (a : Attempt) → heard_all c t (xs ++ a ∷ []) ≡ heard c (heard_all c t xs) a
heard_last c t [] a = refl
heard_last c t (x ∷ xs) a = heard_last c (heard c t x) xs a

pub follow_last : (c : Content) (story : Story) (sub : ℕ) (t : Told) (xs : List Attempt) (a : Attempt) → AllFollow c story sub t xs → Follows c story sub (heard_all c t xs) a → AllFollow c story sub t (xs ++ a ∷ [])
follow_last c story sub t [] a h f = (f, tt)
follow_last c story sub t (x ∷ xs) a h f = (h.0, follow_last c story sub (heard c t x) xs a h.1 f)

pub of_same : (sub : ℕ) (done : List Attempt) (a : Attempt) → (a.sub == sub) ≡ true → of_sub sub (done ++ a ∷ []) ≡ of_sub sub done ++ a ∷ []
of_same sub done a e = filter-append (λ (x : Attempt). x.sub == sub) done (a ∷ []) ∙ ap (λ (xs : List Attempt). of_sub sub done ++ xs) (filter_pass (λ (x : Attempt). x.sub == sub) a [] e)

pub of_other : (sub : ℕ) (done : List Attempt) (a : Attempt) → (a.sub == sub) ≡ false → of_sub sub (done ++ a ∷ []) ≡ of_sub sub done
of_other sub done a e = filter-append (λ (x : Attempt). x.sub == sub) done (a ∷ []) ∙ (ap (λ (xs : List Attempt). of_sub sub done ++ xs) (filter_fail (λ (x : Attempt). x.sub == sub) a [] e) ∙ append-nil (of_sub sub done))

pub of_none : (sub : ℕ) (done : List Attempt) → AllByRecursion (λ a. (a.sub == sub) ≡ false) done → of_sub sub done ≡ []
of_none sub [] h = refl
of_none sub (a ∷ done) h = filter_fail (λ (x : Attempt). x.sub == sub) a done h.0 ∙ of_none sub done h.1

-- ---- entries

pub stamp_last : (stamp : ℕ) (past : List Moment) (m : Moment) → last_stamp stamp (past ++ m ∷ []) ≡ m.stamp
stamp_last stamp [] m = refl
stamp_last stamp (x ∷ past) m = stamp_last x.stamp past m

started_cons : (b rest more : Bool) → (rest ≡ true → more ≡ true) → (if b then true else rest) ≡ true → (if b then true else more) ≡ true
started_cons true rest more f e = refl
started_cons false rest more f e = f e

pub started_more : (past : List Moment) (m : Moment) (sub : ℕ) → was_started past sub ≡ true → was_started (past ++ m ∷ []) sub ≡ true
started_more [] m sub e = absurd (true≢false (sym e))
started_more (x ∷ past) m sub e = started_cons (starts_sub x.act sub) (was_started past sub) (was_started (past ++ m ∷ []) sub) (started_more past m sub) e

started_if : (b rest : Bool) → rest ≡ true → (if b then true else rest) ≡ true
started_if true rest e = refl
started_if false rest e = e

pub started_new : (past : List Moment) (m : Moment) (sub : ℕ) → starts_sub m.act sub ≡ true → was_started (past ++ m ∷ []) sub ≡ true
started_new [] m sub e = ap (λ (b : Bool). if b then true else false) e
started_new (x ∷ past) m sub e = started_if (starts_sub x.act sub) (was_started (past ++ m ∷ []) sub) (started_new past m sub e)

-- a subscription that wasn't started isn't one that was
pub unused_other : (past : List Moment) (new sub : ℕ) → was_started past new ≡ false → was_started past sub ≡ true → (sub == new) ≡ false
unused_other past new sub f k = by (sub == new) refl
  where
    by : (b : Bool) → (sub == new) ≡ b → b ≡ false
    by true e = absurd (true≢false (sym k ∙ (ap (λ (x : ℕ). was_started past x) (same_number sub new e) ∙ f)))
    by false e = refl
