-- Truth values, numbers, and what is told of positions and stamps.
use Rattle.std.proofs.Common.{◌≡◌, ℕ, ◌+◌, ◌<◌, ◌≤◌, min, refl, sym, subst, ◌∙◌, Bool, true, false, ◌||◌, List, [], ◌∷◌, ◌++◌, Option, Some, None, arith}
use Rattle.std.specs.Prelude.{if◌then◌else◌, nat_le, nat_lt, ◌==◌}
use Rattle.std.specs.List.{AllByRecursion}
use Rattle.std.proofs.lemmas.Bool.{true≢false}
use Rattle.yp_base.specs.declared.row.Row.{Row}
use Rattle.yp_base.specs.Rows.{last_of}
use Rattle.yp_feed.specs.Machine.{is_at}
use Rattle.yp_attempt.specs.ListLaws.{all_append, all_weaker}
use Rattle.yp_mirror.specs.Stories.{Story, Steady, IsWantedBetween}
use Rattle.yp_mirror.specs.Following.{IsAtMost, IsLessThan}
use Rattle.yp_mirror.specs.Links.{IsFreshCopy}

pub clash : {P : Type 0} → (b : Bool) → b ≡ true → b ≡ false → P
clash b t f = absurd (true≢false (sym t ∙ f))

pub or_other : (a b : Bool) → a ≡ false → (a || b) ≡ true → b ≡ true
or_other true b f e = absurd (true≢false f)
or_other false b f e = e

pub by_either : {P : Type 0} → (a b : Bool) → (a || b) ≡ true → (a ≡ true → P) → (b ≡ true → P) → P
by_either true b e f g = f refl
by_either false b e f g = g e

pub eight_no : {P : Type 0} → ◌≡◌ {A = ℕ} 0 8 → P
eight_no e = let h : ⊥ = omega (arith, e) in absurd h

-- ---- positions and stamps

pub none_between : (story : Story) (sub n : ℕ) → Steady story sub n n
none_between story sub n k below above = let h : ⊥ = omega (arith, below, above) in absurd h

pub at_most_later : (o : Option ℕ) (n m : ℕ) → n ≤ m → IsAtMost o n → IsAtMost o m
at_most_later None n m le h = tt
at_most_later (Some k) n m le h = omega (arith, le, h)

pub not_at : (o : Option ℕ) (stamp : ℕ) → is_at o stamp ≡ false → IsAtMost o stamp → IsLessThan o stamp
not_at None stamp e h = tt
not_at (Some tick) stamp e h = grind (arith, e, h)

pub copy_at : (story : Story) (sub : ℕ) (rows : List Row) (o : Option ℕ) (base : ℕ) → o ≡ Some base → IsFreshCopy story sub rows o → rows ≡ story.want sub base
copy_at story sub rows o base e h = subst (λ (x : Option ℕ). IsFreshCopy story sub rows x) e h

-- what is made at a position tells from there, and is offered there
pub here : (n : ℕ) → (n ≤ n) × (n ≤ n)
here n = (omega arith, omega arith)

-- ---- windows whose base may move

wanted_later : (story : Story) (sub base n : ℕ) (rows : List Row) → IsWantedBetween story sub base n rows → IsWantedBetween story sub base (n + 1) rows
wanted_later story sub base n rows wanted = (wanted.0, wanted.1, omega (arith, wanted.2), wanted.3)

pub wanted_more : (story : Story) (sub base n : ℕ) (later : List (List Row)) (rows : List Row) → base ≤ n → rows ≡ story.want sub (n + 1) → AllByRecursion (IsWantedBetween story sub base n) later → AllByRecursion (IsWantedBetween story sub base (n + 1)) (later ++ rows ∷ [])
wanted_more story sub base n later rows le e h =
    all_append (IsWantedBetween story sub base (n + 1)) later (rows ∷ [])
    (all_weaker (IsWantedBetween story sub base n) (IsWantedBetween story sub base (n + 1)) later (λ x wanted. wanted_later story sub base n x wanted) h) ((n + 1, omega (arith, le), omega arith, e), tt)

pub moved_current : (b : Bool) (first : List Row) (later : List (List Row)) → last_of (if b then last_of first later else first) (if b then [] else later) ≡ last_of first later
moved_current true first later = refl
moved_current false first later = refl

pub moved_first : (b : Bool) (first : List Row) (later : List (List Row)) (want : ℕ → List Row) (base n : ℕ) → first ≡ want base → last_of first later ≡ want n → (if b then last_of first later else first) ≡ want (if b then n else base)
moved_first true first later want base n e now = now
moved_first false first later want base n e now = e

pub moved_window : (story : Story) (sub : ℕ) (b : Bool) (base n : ℕ) (later : List (List Row)) → AllByRecursion (IsWantedBetween story sub base n) later → AllByRecursion (IsWantedBetween story sub (if b then n else base) n) (if b then [] else later)
moved_window story sub true base n later h = tt
moved_window story sub false base n later h = h

pub moved_base : (b : Bool) (base n : ℕ) → base ≤ n → (if b then n else base) ≤ n
moved_base true base n h = omega arith
moved_base false base n h = h

pub moved_steady : (story : Story) (sub : ℕ) (b : Bool) (base n : ℕ) → Steady story sub base n → Steady story sub (if b then n else base) n
moved_steady story sub true base n h = none_between story sub n
moved_steady story sub false base n h = h

-- ---- full answers in a row

pub more_tries : (tries fulls : ℕ) → tries ≡ min 8 fulls → min 8 (tries + 1) ≡ min 8 (fulls + 1)
more_tries tries fulls e = omega (arith, e)

pub full_eight : (tries fulls : ℕ) → tries ≡ min 8 fulls → nat_le 8 (fulls + 1) ≡ true → min 8 (tries + 1) ≡ 8
full_eight tries fulls e le = grind (arith, e, le)

pub eight_fulls : (tries fulls : ℕ) → tries ≡ min 8 fulls → (min 8 (tries + 1) == 8) ≡ true → nat_le 8 (fulls + 1) ≡ true
eight_fulls tries fulls e q = grind (arith, e, q)

pub some_full : (tries fulls : ℕ) → tries ≡ min 8 fulls → nat_lt 0 tries ≡ true → 0 < fulls
some_full tries fulls e q = grind (arith, e, q)

pub no_full : {P : Type 0} → ◌<◌ 0 0 → P
no_full h = let no_way : ⊥ = omega (arith, h) in absurd no_way
