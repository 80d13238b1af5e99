-- Lists that are made of others, and what is known of them place by place.
use Rattle.std.proofs.Common.{◌≡◌, ℕ, suc, ◌+◌, ◌<◌, List, [], ◌∷◌, ◌++◌, length, map, slice_index_or, arith, append-nil, refl, sym, ap, ◌∙◌}
use Rattle.std.specs.Prelude.{All, Err, IfOk, Ok, Result}
use Rattle.std.specs.List.{AllByRecursion}
use Rattle.std.proofs.lemmas.List.{map-append}
use Rattle.std.proofs.lemmas.List.Elements.{All-from_recursion}
use Rattle.yp_handover.specs.Handover.{Pairs}

-- once nothing is left, what is done is all
pub all_done : {X : Type 0} (done rest all : List X) → rest ≡ [] → done ++ rest ≡ all → done ≡ all
all_done {X} done rest all none is = sym (append-nil done) ∙ (ap (λ (more : List X). done ++ more) (sym none) ∙ is)

-- what two clauses say of an answer, one says
pub with_both : {X E : Type 0} (answer : Result X E) (P Q R : X → Type 0) → ((x : X) → P x → Q x → R x) → IfOk answer P → IfOk answer Q → IfOk answer R
with_both (Ok x) P Q R both one other = both x one other
with_both (Err e) P Q R both one other = tt

-- and what three say
pub with_three : {X E : Type 0} (answer : Result X E) (P Q S R : X → Type 0) → ((x : X) → P x → Q x → S x → R x) → IfOk answer P → IfOk answer Q → IfOk answer S → IfOk answer R
with_three (Ok x) P Q S R all one other third = all x one other third
with_three (Err e) P Q S R all one other third = tt

module _ {X : Type 0} (P : X → Type 0) where
  pub all_joined : (xs ys : List X) → AllByRecursion P xs → AllByRecursion P ys → AllByRecursion P (xs ++ ys)
  all_joined [] ys here later = later
  all_joined (x ∷ xs) ys here later = (here.0, all_joined xs ys here.1 later)

module _ {X Y : Type 0} (f : X → Y) where
  -- one more of both
  pub mapped_push : (xs new : List X) (x : X) (done : List Y) → new ≡ xs ++ x ∷ [] → map f xs ≡ done → map f new ≡ done ++ f x ∷ []
  mapped_push xs new x done is same = ap (λ (those : List X). map f those) is ∙ (map-append f xs (x ∷ []) ∙ ap (λ (those : List Y). those ++ f x ∷ []) same)

  by_mapped : (P : Y → Type 0) (xs : List X) → AllByRecursion P (map f xs) → AllByRecursion (λ (x : X). P (f x)) xs
  by_mapped P [] all = tt
  by_mapped P (x ∷ xs) all = (all.0, by_mapped P xs all.1)

  -- what others have that are made of these, these have through them
  pub mapped_holds : (P : Y → Type 0) (xs : List X) → AllByRecursion P (map f xs) → All (λ (x : X). P (f x)) xs
  mapped_holds P xs all = All-from_recursion (λ (x : X). P (f x)) xs (by_mapped P xs all)

  -- what belongs together place by place does so in lists made of both
  pub mapped_places : (R : Y → Y → Type 0) (olds news : List X) → length news ≡ length olds → ((place : ℕ) (none : X) → place < length olds → R (f (slice_index_or olds place none)) (f (slice_index_or news place none))) → Pairs R (map f olds) (map f news)
  mapped_places R [] [] same each = tt
  mapped_places R [] (new ∷ news) same each = absurd (omega (arith, same))
  mapped_places R (old ∷ olds) [] same each = absurd (omega (arith, same))
  mapped_places R (old ∷ olds) (new ∷ news) same each = (each 0 old (omega arith), mapped_places R olds news (omega (arith, same)) (λ place none less. each (suc place) none (omega (arith, less))))

module _ {X : Type 0} (R : X → X → Type 0) where
  pub by_places : (olds news : List X) → length news ≡ length olds → ((place : ℕ) (none : X) → place < length olds → R (slice_index_or olds place none) (slice_index_or news place none)) → Pairs R olds news
  by_places [] [] same each = tt
  by_places [] (new ∷ news) same each = absurd (omega (arith, same))
  by_places (old ∷ olds) [] same each = absurd (omega (arith, same))
  by_places (old ∷ olds) (new ∷ news) same each = (each 0 old (omega arith), by_places olds news (omega (arith, same)) (λ place none less. each (suc place) none (omega (arith, less))))

module _ {X Y : Type 0} where
  -- what belongs together by one relation does so by another
  pub pairs_weaker : (R S : X → Y → Type 0) → ((x : X) (y : Y) → R x y → S x y) → (xs : List X) (ys : List Y) → Pairs R xs ys → Pairs S xs ys
  pairs_weaker R S weaker [] [] all = tt
  pairs_weaker R S weaker [] (y ∷ ys) all = absurd all
  pairs_weaker R S weaker (x ∷ xs) [] all = absurd all
  pairs_weaker R S weaker (x ∷ xs) (y ∷ ys) all = (weaker x y all.0, pairs_weaker R S weaker xs ys all.1)

  -- and by two where those of the second list have more
  pub pairs_with : (R S : X → Y → Type 0) (P : Y → Type 0) → ((x : X) (y : Y) → R x y → P y → S x y) → (xs : List X) (ys : List Y) → Pairs R xs ys → AllByRecursion P ys → Pairs S xs ys
  pairs_with R S P both [] [] all have = tt
  pairs_with R S P both [] (y ∷ ys) all have = absurd all
  pairs_with R S P both (x ∷ xs) [] all have = absurd all
  pairs_with R S P both (x ∷ xs) (y ∷ ys) all have = (both x y all.0 have.0, pairs_with R S P both xs ys all.1 have.1)
