-- Lists whose elements all have a property, filters and choices.
use Rattle.std.proofs.Common.{◌≡◌, refl, sym, ap, subst, ◌∙◌, Bool, true, false, List, [], ◌∷◌, ◌++◌, map, Option, Some, None}
use Rattle.std.specs.Prelude.{if◌then◌else◌}
use Rattle.std.specs.List.{AllByRecursion, filter}
use Rattle.std.proofs.lemmas.Option.{none-some}

pub all_append : {X : Type 0} (P : X → Type 0) (xs ys : List X) → AllByRecursion P xs → AllByRecursion P ys → AllByRecursion P (xs ++ ys)
all_append P [] ys h k = k
all_append P (x ∷ xs) ys h k = (h.0, all_append P xs ys h.1 k)

pub all_before : {X : Type 0} (P : X → Type 0) (xs ys : List X) → AllByRecursion P (xs ++ ys) → AllByRecursion P xs
all_before P [] ys h = tt
all_before P (x ∷ xs) ys h = (h.0, all_before P xs ys h.1)

pub all_rest : {X : Type 0} (P : X → Type 0) (xs ys : List X) → AllByRecursion P (xs ++ ys) → AllByRecursion P ys
all_rest P [] ys h = h
all_rest P (x ∷ xs) ys h = all_rest P xs ys h.1

pub all_map : {X Y : Type 0} (P : X → Type 0) (Q : Y → Type 0) (f : X → Y) (xs : List X) → ((x : X) → P x → Q (f x)) → AllByRecursion P xs → AllByRecursion Q (map f xs)
all_map P Q f [] g h = tt
all_map P Q f (x ∷ xs) g h = (g x h.0, all_map P Q f xs g h.1)

cond_all : {X : Type 0} (P : X → Type 0) (b : Bool) (x : X) (ys zs : List X) → P x → ys ≡ (if b then x ∷ zs else zs) → AllByRecursion P zs → AllByRecursion P ys
cond_all P true x ys zs p e h = subst (λ t. AllByRecursion P t) (sym e) (p, h)
cond_all P false x ys zs p e h = subst (λ t. AllByRecursion P t) (sym e) h

pub all_filter : {X : Type 0} (P : X → Type 0) (p : X → Bool) (xs : List X) → AllByRecursion P xs → AllByRecursion P (filter p xs)
all_filter P p [] h = tt
all_filter P p (x ∷ xs) h = cond_all P (p x) x (filter p (x ∷ xs)) (filter p xs) h.0 refl (all_filter P p xs h.1)

pub all_weaker : {X : Type 0} (P Q : X → Type 0) (xs : List X) → ((x : X) → P x → Q x) → AllByRecursion P xs → AllByRecursion Q xs
all_weaker P Q [] g h = tt
all_weaker P Q (x ∷ xs) g h = (g x h.0, all_weaker P Q xs g h.1)

pub map_where : {X Y : Type 0} (P : X → Type 0) (f g : X → Y) (xs : List X) → ((x : X) → P x → f x ≡ g x) → AllByRecursion P xs → map f xs ≡ map g xs
map_where P f g [] e h = refl
map_where P f g (x ∷ xs) e h = (λ i. e x h.0 i ∷ map_where P f g xs e h.1 i)

pub map_map_where : {X : Type 0} (P : X → Type 0) (f g : X → X) (xs : List X) → ((x : X) → P x → f (g x) ≡ g x) → AllByRecursion P xs → map f (map g xs) ≡ map g xs
map_map_where P f g [] e h = refl
map_map_where P f g (x ∷ xs) e h = (λ i. e x h.0 i ∷ map_map_where P f g xs e h.1 i)

pub filter_pass : {X : Type 0} (p : X → Bool) (x : X) (xs : List X) → p x ≡ true → filter p (x ∷ xs) ≡ x ∷ filter p xs
filter_pass p x xs e = ap (λ (b : Bool). if b then x ∷ filter p xs else filter p xs) e

pub filter_fail : {X : Type 0} (p : X → Bool) (x : X) (xs : List X) → p x ≡ false → filter p (x ∷ xs) ≡ filter p xs
filter_fail p x xs e = ap (λ (b : Bool). if b then x ∷ filter p xs else filter p xs) e

-- a filter that the elements keep goes past a map
pub filter_map_same : {X Y : Type 0} (p : X → Bool) (q : Y → Bool) (f : X → Y) (xs : List X) → ((x : X) → q (f x) ≡ p x) → filter q (map f xs) ≡ map f (filter p xs)
filter_map_same p q f [] same = refl
filter_map_same {X} {Y} p q f (x ∷ xs) same = by (p x) refl (filter_map_same p q f xs same)
  where
    by : (b : Bool) → p x ≡ b → filter q (map f xs) ≡ map f (filter p xs) → filter q (f x ∷ map f xs) ≡ map f (filter p (x ∷ xs))
    by true e h = filter_pass q (f x) (map f xs) (same x ∙ e) ∙ (ap (λ (ys : List Y). f x ∷ ys) h ∙ ap (λ (zs : List X). map f zs) (sym (filter_pass p x xs e)))
    by false e h = filter_fail q (f x) (map f xs) (same x ∙ e) ∙ (h ∙ ap (λ (zs : List X). map f zs) (sym (filter_fail p x xs e)))

pub filter_swap : {X : Type 0} (p q : X → Bool) (xs : List X) → filter p (filter q xs) ≡ filter q (filter p xs)
filter_swap p q [] = refl
filter_swap {X} p q (x ∷ xs) = by (p x) (q x) refl refl (filter_swap p q xs)
  where
    by : (a b : Bool) → p x ≡ a → q x ≡ b → filter p (filter q xs) ≡ filter q (filter p xs) → filter p (filter q (x ∷ xs)) ≡ filter q (filter p (x ∷ xs))
    by true true e f h = ap (filter p) (filter_pass q x xs f) ∙ (filter_pass p x (filter q xs) e ∙ (ap (λ (ys : List X). x ∷ ys) h ∙ (sym (filter_pass q x (filter p xs) f) ∙ ap (filter q) (sym (filter_pass p x xs e)))))
    by true false e f h = ap (filter p) (filter_fail q x xs f) ∙ (h ∙ (sym (filter_fail q x (filter p xs) f) ∙ ap (filter q) (sym (filter_pass p x xs e))))
    by false true e f h = ap (filter p) (filter_pass q x xs f) ∙ (filter_fail p x (filter q xs) e ∙ (h ∙ ap (filter q) (sym (filter_fail p x xs e))))
    by false false e f h = ap (filter p) (filter_fail q x xs f) ∙ (h ∙ ap (filter q) (sym (filter_fail p x xs e)))

abbrev IsSomething : {X : Type 0} → List X → Type 0
IsSomething [] = ⊥
IsSomething (x ∷ xs) = Unit {0}

pub not_empty : {X P : Type 0} (x : X) (xs : List X) → x ∷ xs ≡ [] → P
not_empty {X} x xs e = absurd (subst (λ (ys : List X). IsSomething ys) e tt)

pub by_bool : {P : Type 0} → (b : Bool) → (b ≡ true → P) → (b ≡ false → P) → P
by_bool true f g = f refl
by_bool false f g = g refl

cond_passes : {X : Type 0} (p : X → Bool) (b : Bool) (x : X) (ys zs : List X) → p x ≡ b → ys ≡ (if b then x ∷ zs else zs) → AllByRecursion (λ y. p y ≡ true) zs → AllByRecursion (λ y. p y ≡ true) ys
cond_passes p true x ys zs q e h = subst (λ l. AllByRecursion (λ y. p y ≡ true) l) (sym e) (q, h)
cond_passes p false x ys zs q e h = subst (λ l. AllByRecursion (λ y. p y ≡ true) l) (sym e) h

pub filter_passes : {X : Type 0} (p : X → Bool) (xs : List X) → AllByRecursion (λ x. p x ≡ true) (filter p xs)
filter_passes p [] = tt
filter_passes p (x ∷ xs) = cond_passes p (p x) x (filter p (x ∷ xs)) (filter p xs) refl refl (filter_passes p xs)

-- what is chosen unless a test holds
pub unblocked : {X : Type 0} → (b : Bool) (x : Option X) (y : X) → (if b then None else x) ≡ Some y → (b ≡ false) × (x ≡ Some y)
unblocked true x y e = absurd (none-some y e)
unblocked false x y e = (refl, e)
