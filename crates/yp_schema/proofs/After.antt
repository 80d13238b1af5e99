-- What holds of each element of a list and those before it: step by step, and by the ways to split the list.
use Rattle.std.proofs.Common.{◌≡◌, List, [], ◌∷◌, ◌++◌, sym, ap, ◌∙◌, subst, append_assoc, append-nil}
use Rattle.std.specs.List.{AllByRecursion}
use Rattle.yp_schema.specs.Compiled.{EachAfter}

-- R holds of each element and those before it, with `before` in front of them
abbrev pub AllAfter : {X : Type 0} → (List X → X → Type 0) → List X → List X → Type 0
AllAfter R before [] = Unit {0}
AllAfter R before (x ∷ xs) = R before x × AllAfter R (before ++ x ∷ []) xs

after_split : {X : Type 0} (R : List X → X → Type 0) (before xs : List X) → AllAfter R before xs → (mid : List X) (x : X) (after : List X) → xs ≡ mid ++ x ∷ after → R (before ++ mid) x
after_split R before [] all [] x after is = cc
after_split R before [] all (y ∷ mid) x after is = cc
after_split R before (z ∷ zs) all [] x after is =
    let one : z ≡ x = cc in
    subst (λ ys. R ys x) (sym (append-nil before)) (subst (λ y. R before y) one all.0)
after_split R before (z ∷ zs) all (y ∷ mid) x after is =
    let one : z ≡ y = cc in
    let rest : zs ≡ mid ++ x ∷ after = cc in
    subst (λ ys. R ys x) (append_assoc before (z ∷ []) mid ∙ ap (λ w. before ++ w ∷ mid) one) (after_split R (before ++ z ∷ []) zs all.1 mid x after rest)

pub each_after : {X : Type 0} (R : List X → X → Type 0) (xs : List X) → AllAfter R [] xs → EachAfter R xs
each_after R xs all before x after is = after_split R [] xs all before x after is

-- of the elements of a part that is some of them
pub all_after : {X : Type 0} (R : List X → X → Type 0) (whole : List X) → EachAfter R whole → (before xs rest : List X) → whole ≡ before ++ (xs ++ rest) → AllAfter R before xs
all_after R whole each before [] rest is = tt
all_after R whole each before (x ∷ xs) rest is = (each before x (xs ++ rest) is, all_after R whole each (before ++ x ∷ []) xs rest (is ∙ sym (append_assoc before (x ∷ []) (xs ++ rest))))

pub after_weaker : {X : Type 0} (R S : List X → X → Type 0) → ((before : List X) (x : X) → R before x → S before x) → (before xs : List X) → AllAfter R before xs → AllAfter S before xs
after_weaker R S weaker before [] all = tt
after_weaker R S weaker before (x ∷ xs) all = (weaker before x all.0, after_weaker R S weaker (before ++ x ∷ []) xs all.1)

pub after_append : {X : Type 0} (R : List X → X → Type 0) (before xs ys : List X) → AllAfter R before xs → AllAfter R (before ++ xs) ys → AllAfter R before (xs ++ ys)
after_append R before [] ys first second = subst (λ zs. AllAfter R zs ys) (append-nil before) second
after_append R before (x ∷ xs) ys first second = (first.0, after_append R (before ++ x ∷ []) xs ys first.1 (subst (λ zs. AllAfter R zs ys) (sym (append_assoc before (x ∷ []) xs)) second))

-- where it speaks of the element alone
pub each_alone : {X : Type 0} (R : List X → X → Type 0) (P : X → Type 0) → ((before : List X) (x : X) → R before x → P x) → (before xs : List X) → AllAfter R before xs → AllByRecursion P xs
each_alone R P says before [] all = tt
each_alone R P says before (x ∷ xs) all = (says before x all.0, each_alone R P says (before ++ x ∷ []) xs all.1)

pub all_at : {X : Type 0} (P : X → Type 0) (xs : List X) → AllByRecursion P xs → (before : List X) (x : X) (after : List X) → xs ≡ before ++ x ∷ after → P x
all_at P [] all [] x after is = cc
all_at P [] all (y ∷ before) x after is = cc
all_at P (z ∷ zs) all [] x after is = let one : z ≡ x = cc in subst P one all.0
all_at P (z ∷ zs) all (y ∷ before) x after is = let rest : zs ≡ before ++ x ∷ after = cc in all_at P zs all.1 before x after rest
