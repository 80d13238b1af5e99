-- Rows with one segment make one branch of a forest.
use Rattle.std.proofs.Common.{◌≡◌, ℕ, ◌+◌, List, [], ◌∷◌, ◌++◌, Bool, true, false, Option, None, refl, sym, ap, subst, ◌∙◌, cond, drop}
use Rattle.std.specs.Ordering.{eq_by_cmp, is_eq}
use Rattle.std.specs.List.{AllByRecursion}
use Rattle.std.proofs.lemmas.Cmp.{tied_itself}
use Rattle.yp_base.specs.declared.path.Seg.{Seg}
use Rattle.yp_base.specs.declared.row.Value.{Value}
use Rattle.yp_base.specs.declared.row.Row.{Row}
use Rattle.yp_base.specs.Order.{segment_cmp}
use Rattle.yp_base.specs.OrderLaws.{segments_total}
use Rattle.yp_base.specs.Exact.{segments_decide}
use Rattle.yp_data_json.specs.Forest.{Forest, bare, branch, own_of, in_front, laid, laid_all, forest_at}
use Rattle.yp_data_json.specs.Runs.{HasSegment}

-- the first branch, if there is one, has another segment
abbrev pub StartsElse : Seg → Forest → Type 0
StartsElse seg bare = Unit {0}
StartsElse seg (branch first own kids next) = eq_by_cmp segment_cmp seg first ≡ false

-- the value of the own row among rows with one segment
abbrev pub own_at : ℕ → List Row → Option Value
own_at depth [] = None
own_at depth (row ∷ rows) = own_of (drop (depth + 1) row.path) row.value (own_at depth rows)

alike : (seg : Seg) → eq_by_cmp segment_cmp seg seg ≡ true
alike seg = ap is_eq (tied_itself segments_total seg)

in_new : (seg : Seg) (rest : List Seg) (v : Value) (inner : Forest → Forest) (more : Forest) → StartsElse seg more → in_front seg rest v inner more ≡ branch seg (own_of rest v None) (inner bare) more
in_new seg rest v inner bare h = refl
in_new seg rest v inner (branch first own kids next) h = rw h refl

lay_in : (depth : ℕ) (seg : Seg) (row : Row) (own : Option Value) (kids more : Forest) → HasSegment depth seg row
    → laid (drop depth row.path) row.value (branch seg own kids more)
    ≡ branch seg (own_of (drop (depth + 1) row.path) row.value own) (laid (drop (depth + 1) row.path) row.value kids) more
lay_in depth seg row own kids more here = rw (here, alike seg) refl

pub one_branch : (depth : ℕ) (seg : Seg) (row : Row) (rows : List Row) (more : Forest) → StartsElse seg more → HasSegment depth seg row → AllByRecursion (HasSegment depth seg) rows
    → laid_all depth (row ∷ rows) more ≡ branch seg (own_at depth (row ∷ rows)) (forest_at (depth + 1) (row ∷ rows)) more
one_branch depth seg row [] more h here all = rw here (in_new seg (drop (depth + 1) row.path) row.value (laid (drop (depth + 1) row.path) row.value) more h)
one_branch depth seg row (next ∷ rows) more h here all =
    ap (laid (drop depth row.path) row.value) (one_branch depth seg next rows more h all.0 all.1)
    ∙ lay_in depth seg row (own_at depth (next ∷ rows)) (forest_at (depth + 1) (next ∷ rows)) more here

pub laid_append : (depth : ℕ) (xs ys : List Row) (f : Forest) → laid_all depth (xs ++ ys) f ≡ laid_all depth xs (laid_all depth ys f)
laid_append depth [] ys f = refl
laid_append depth (row ∷ xs) ys f = ap (laid (drop depth row.path) row.value) (laid_append depth xs ys f)

starts_at : (b : Bool) (seg s first : Seg) (inner_own own other : Option Value) (inner kids below next : Forest) → eq_by_cmp segment_cmp s first ≡ b → eq_by_cmp segment_cmp seg s ≡ false
    → StartsElse seg (cond b (branch first inner_own inner next) (branch s other below (branch first own kids next)))
starts_at false seg s first inner_own own other inner kids below next is apart = apart
starts_at true seg s first inner_own own other inner kids below next is apart = subst (λ (x : Seg). eq_by_cmp segment_cmp seg x ≡ false) ((segments_decide s first).0 is) apart

in_front_starts : (seg s : Seg) (rest : List Seg) (v : Value) (inner : Forest → Forest) (f : Forest) → eq_by_cmp segment_cmp seg s ≡ false → StartsElse seg (in_front s rest v inner f)
in_front_starts seg s rest v inner bare apart = apart
in_front_starts seg s rest v inner (branch first own kids next) apart =
    starts_at (eq_by_cmp segment_cmp s first) seg s first (own_of rest v own) own (own_of rest v None) (inner kids) kids (inner bare) next refl apart

differ : (x y : Seg) (b : Bool) → eq_by_cmp segment_cmp x y ≡ b → (x ≡ y → ⊥) → b ≡ false
differ x y true e other = absurd (other ((segments_decide x y).0 e))
differ x y false e other = refl

pub apart_segments : (x y : Seg) → (x ≡ y → ⊥) → eq_by_cmp segment_cmp x y ≡ false
apart_segments x y other = differ x y (eq_by_cmp segment_cmp x y) refl other

-- rows of which the first has another segment begin with another branch
pub rows_start : (depth : ℕ) (seg s : Seg) (row : Row) (rows : List Row) (f : Forest) → HasSegment depth s row → (HasSegment depth seg row → ⊥) → StartsElse seg (laid_all depth (row ∷ rows) f)
rows_start depth seg s row rows f here apart =
    let other = apart_segments seg s (λ e. apart (here ∙ ap (λ (x : Seg). x ∷ drop (depth + 1) row.path) (sym e))) in
    rw here (in_front_starts seg s (drop (depth + 1) row.path) row.value (laid (drop (depth + 1) row.path) row.value) (laid_all depth rows f) other)
