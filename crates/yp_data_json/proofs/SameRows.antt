-- Rows in order are told by what they contain.
use Rattle.std.proofs.Common.{◌≡◌, ℕ, zero, suc, ◌<◌, length, List, [], ◌∷◌, true, true≢false, refl, sym, ap, subst, ◌∙◌, cond, arith}
use Rattle.std.specs.Prelude.{Some, Contains, slice_index_or}
use Rattle.std.specs.Ordering.{is_eq}
use Rattle.std.specs.declared.cmp.Ordering.TheVariants.{Less, Equal, Greater}
use Rattle.std.proofs.lemmas.Cmp.{tied_itself}
use Rattle.yp_base.specs.declared.path.Seg.{Seg}
use Rattle.yp_base.specs.declared.row.Row.{Row}
use Rattle.yp_base.specs.Order.{path_cmp}
use Rattle.yp_base.specs.OrderLaws.{paths_total}
use Rattle.yp_base.specs.Rows.{value_at, AreInOrder}
use Rattle.yp_base.specs.RowLaws.{AllPast, all_past, none_past, first_order, rest_order}
use Rattle.yp_base.specs.PathLaws.{greater_turned}
use Rattle.yp_data_json.proofs.PutRows.{same_or_apart}
use Rattle.yp_data_json.proofs.Adding.{Among, none_some, some_value}

-- the first row is among the rows
among_first : (row : Row) (rows : List Row) → Among row (row ∷ rows)
among_first row rows = ap (λ o. cond (is_eq o) (Some row.value) (value_at row.path rows)) (tied_itself paths_total row.path)

-- a row of rows isn't at the path of one before them
among_apart : (first row : Row) (rows : List Row) → AllPast first.path rows → Among row rows → is_eq (path_cmp row.path first.path) ≡ true → ⊥
among_apart first row rows past among tie =
    same_or_apart row.path first.path
    (λ e. none_some row.value (sym (none_past first.path rows past) ∙ ap (λ (p : List Seg). value_at p rows) (sym e) ∙ among))
    (λ e. true≢false (sym tie ∙ e))

among_later : (first row : Row) (rows : List Row) → AllPast first.path rows → Among row rows → Among row (first ∷ rows)
among_later first row rows past among =
    same_or_apart row.path first.path
    (λ e. absurd (among_apart first row rows past among (ap (λ (p : List Seg). is_eq (path_cmp p first.path)) e ∙ ap is_eq (tied_itself paths_total first.path))))
    (λ e. ap (λ b. cond b (Some first.value) (value_at row.path rows)) e ∙ among)

same_row : (one other : Row) → one.path ≡ other.path → one.value ≡ other.value → one ≡ other
same_row one other p v = λ i. record { path = p i; value = v i }

-- a row among rows is the first or among the others
among_either : {C : Type 0} (first row : Row) (rows : List Row) → Among row (first ∷ rows) → (row ≡ first → C) → (Among row rows → C) → C
among_either {C} first row rows among here later =
    same_or_apart row.path first.path
    (λ e.
    let first_value : Some first.value ≡ Some row.value =
    sym (ap (λ b. cond b (Some first.value) (value_at row.path rows)) (ap (λ (p : List Seg). is_eq (path_cmp p first.path)) e ∙ ap is_eq (tied_itself paths_total first.path))) ∙ among in
    here (same_row row first e (sym (some_value first.value row.value first_value))))
    (λ e. later (sym (ap (λ b. cond b (Some first.value) (value_at row.path rows)) e) ∙ among))

pub contained : (rows : List Row) (row : Row) → Among row rows → Contains rows row
contained [] row h = absurd (none_some row.value h)
contained (first ∷ rows) row h =
    among_either first row rows h
    (λ e. (0, omega arith, sym e))
    (λ k. let later = contained rows row k in (suc later.0, omega (arith, later.1), later.2))

contained_at : (rows : List Row) (row : Row) (k : ℕ) → AreInOrder rows → k < length rows → slice_index_or rows k row ≡ row → Among row rows
contained_at [] row k order low e = absurd (omega arith)
contained_at (first ∷ rows) row zero order low e = subst (λ (r : Row). Among r (first ∷ rows)) e (among_first first rows)
contained_at (first ∷ rows) row (suc k) order low e = among_later first row rows (first_order first rows order) (contained_at rows row k (rest_order first rows order) (omega arith) e)

pub among_contained : (rows : List Row) (row : Row) → AreInOrder rows → Contains rows row → Among row rows
among_contained rows row order h = contained_at rows row h.0 order h.1 h.2

-- what is among the rows of one list is among those of the other
abbrev IsPart : List Row → List Row → Type 0
IsPart xs ys = (row : Row) → Among row xs → Among row ys

part_rest : (x : Row) (xs ys : List Row) → AreInOrder (x ∷ xs) → IsPart (x ∷ xs) (x ∷ ys) → IsPart xs ys
part_rest x xs ys order part = λ row among.
    among_either x row ys (part row (among_later x row xs (first_order x xs order) among))
    (λ e. absurd (among_apart x row xs (first_order x xs order) among (ap (λ (r : Row). is_eq (path_cmp r.path x.path)) e ∙ ap is_eq (tied_itself paths_total x.path))))
    (λ k. k)

-- of two first rows neither path is before the other's
not_less : (x y : Row) (xs ys : List Row) → AreInOrder (y ∷ ys) → IsPart (x ∷ xs) (y ∷ ys) → path_cmp x.path y.path ≡ Less → ⊥
not_less x y xs ys order part less =
    none_some x.value (sym (none_past x.path (y ∷ ys) (less, all_past x.path y.path ys less (first_order y ys order))) ∙ part x (among_first x xs))

first_same : (x y : Row) (xs ys : List Row) → AreInOrder (x ∷ xs) → AreInOrder (y ∷ ys) → IsPart (x ∷ xs) (y ∷ ys) → IsPart (y ∷ ys) (x ∷ xs) → x ≡ y
first_same x y xs ys one two part back =
    elim (path_cmp x.path y.path) as (λ o. path_cmp x.path y.path ≡ o → x ≡ y) [
      | Less ↦ λ e. absurd (not_less x y xs ys two part e)
      | Equal ↦ λ e.
          among_either y x ys (part x (among_first x xs)) (λ same. same)
          (λ k. absurd (among_apart y x ys (first_order y ys two) k (ap is_eq e)))
      | Greater ↦ λ e. absurd (not_less y x ys xs one back (greater_turned x.path y.path e))
    ] refl

-- rows in order with the same rows among them are the same list
pub same_rows : (xs ys : List Row) → AreInOrder xs → AreInOrder ys → IsPart xs ys → IsPart ys xs → xs ≡ ys
same_rows [] [] one two part back = refl
same_rows [] (y ∷ ys) one two part back = absurd (none_some y.value (back y (among_first y ys)))
same_rows (x ∷ xs) [] one two part back = absurd (none_some x.value (part x (among_first x xs)))
same_rows (x ∷ xs) (y ∷ ys) one two part back =
    let same = first_same x y xs ys one two part back in
    let there : IsPart (x ∷ xs) (x ∷ ys) = subst (λ (r : Row). IsPart (x ∷ xs) (r ∷ ys)) (sym same) part in
    let again : IsPart (x ∷ ys) (x ∷ xs) = subst (λ (r : Row). IsPart (r ∷ ys) (x ∷ xs)) (sym same) back in
    let order : AreInOrder (x ∷ ys) = subst (λ (r : Row). AreInOrder (r ∷ ys)) (sym same) two in
    ap (λ (rows : List Row). x ∷ rows) (same_rows xs ys (rest_order x xs one) (rest_order y ys two) (part_rest x xs ys one there) (part_rest x ys xs order again))
    ∙ ap (λ (r : Row). r ∷ ys) same
