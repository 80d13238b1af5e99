-- A forest holds the rows that it was made of.
use Rattle.std.proofs.Common.{◌≡◌, List, [], ◌∷◌, ◌++◌, length, drop, Bool, true, false, true≢false, Option, Some, None, is_some, refl, sym, ap, ◌∙◌, subst, cond, append_assoc, Less}
use Rattle.std.specs.Ordering.{eq_by_cmp, is_lt}
use Rattle.std.proofs.Math.Seq.{drop-append_seam}
use Rattle.std.specs.List.{AllByRecursion}
use Rattle.std.specs.List.Sorted.{IsStrictlySortedBy}
use Rattle.std.proofs.lemmas.Cmp.{tied_itself}
use Rattle.yp_base.specs.declared.path.Seg.{Seg}
use Rattle.yp_base.specs.declared.row.Value.{Value}
use Rattle.yp_base.specs.declared.row.Row.{Row}
use Rattle.yp_base.specs.Order.{segment_cmp, path_cmp}
use Rattle.yp_base.specs.OrderLaws.{segments_total}
use Rattle.yp_base.specs.Exact.{segments_decide}
use Rattle.yp_base.specs.Rows.{AreInOrder}
use Rattle.yp_data_json.specs.Reading.{row_at}
use Rattle.yp_data_json.specs.Forest.{Forest, bare, branch, own_of, laid, forest_at}
use Rattle.yp_data_json.proofs.RowsIn.{own_rows, rows_in, front_cmp}

-- a path isn't before its own front
pub not_before : (xs rest : List Seg) → path_cmp (xs ++ rest) xs ≡ Less → ⊥
not_before [] [] h = absurd (true≢false (sym (ap is_lt h)))
not_before [] (s ∷ rest) h = absurd (true≢false (sym (ap is_lt h)))
not_before (x ∷ xs) rest h = not_before xs rest (sym (rw (tied_itself segments_total x) refl) ∙ h)

first_before : (row first : Row) (rows : List Row) → AreInOrder (row ∷ first ∷ rows) → path_cmp row.path first.path ≡ Less
unfolding IsStrictlySortedBy
first_before row first rows h = h.0.0

-- where a row is laid in a branch, the branch has no row of its own yet
unowned : (path : List Seg) (seg : Seg) (rest : List Seg) (v : Value) (own : Option Value) (more : List Row) → AreInOrder (row_at (path ++ seg ∷ rest) v ∷ own_rows (path ++ seg ∷ []) own ++ more) → own ≡ None
unowned path seg rest v None more h = refl
unowned path seg rest v (Some w) more h =
    absurd (not_before (path ++ seg ∷ []) rest (ap (λ p. path_cmp p (path ++ seg ∷ [])) (append_assoc path (seg ∷ []) rest) ∙ first_before (row_at (path ++ seg ∷ rest) v) (row_at (path ++ seg ∷ []) w) more h))

-- the row of a new branch
fresh : (path : List Seg) (seg : Seg) (rest : List Seg) (v : Value) (f : Forest) → rows_in path (branch seg (own_of rest v None) (laid rest v bare) f) ≡ row_at (path ++ seg ∷ rest) v ∷ rows_in path f
fresh path seg [] v f = refl
fresh path seg (s ∷ rest) v f =
    ap (λ xs. xs ++ rows_in path f) (fresh (path ++ seg ∷ []) s rest v bare) ∙ ap (λ p. row_at p v ∷ rows_in path f) (append_assoc path (seg ∷ []) (s ∷ rest))

-- one more in a branch that has its segment
inside : (path : List Seg) (seg : Seg) (rest : List Seg) (v : Value) (own : Option Value) (kids next : Forest)
    → own ≡ None
    → (AreInOrder (row_at ((path ++ seg ∷ []) ++ rest) v ∷ rows_in (path ++ seg ∷ []) kids) → (s : Seg) (more : List Seg) → rest ≡ s ∷ more → rows_in (path ++ seg ∷ []) (laid rest v kids) ≡ row_at ((path ++ seg ∷ []) ++ rest) v ∷ rows_in (path ++ seg ∷ []) kids)
    → AreInOrder (row_at (path ++ seg ∷ rest) v ∷ rows_in path (branch seg own kids next))
    → rows_in path (branch seg (own_of rest v own) (laid rest v kids) next) ≡ row_at (path ++ seg ∷ rest) v ∷ rows_in path (branch seg own kids next)
inside path seg rest v (Some w) kids next is inner order = absurd (true≢false (ap is_some is))
inside path seg [] v None kids next is inner order = refl
inside path seg (s ∷ rest) v None kids next is inner order =
    let far = append_assoc path (seg ∷ []) (s ∷ rest) in
    ap (λ xs. xs ++ rows_in path next) (inner (front_cmp (row_at ((path ++ seg ∷ []) ++ s ∷ rest) v ∷ rows_in (path ++ seg ∷ []) kids) (rows_in path next) (subst (λ p. AreInOrder (row_at p v ∷ rows_in (path ++ seg ∷ []) kids ++ rows_in path next)) (sym far) order)) s rest refl)
    ∙ ap (λ p. row_at p v ∷ (rows_in (path ++ seg ∷ []) kids ++ rows_in path next)) far

laid_at : (b : Bool) (path : List Seg) (seg : Seg) (rest : List Seg) (v : Value) (first : Seg) (own : Option Value) (kids next : Forest)
    → eq_by_cmp segment_cmp seg first ≡ b
    → ((s : Seg) (more : List Seg) → rest ≡ s ∷ more → AreInOrder (row_at ((path ++ first ∷ []) ++ rest) v ∷ rows_in (path ++ first ∷ []) kids) → rows_in (path ++ first ∷ []) (laid rest v kids) ≡ row_at ((path ++ first ∷ []) ++ rest) v ∷ rows_in (path ++ first ∷ []) kids)
    → AreInOrder (row_at (path ++ seg ∷ rest) v ∷ rows_in path (branch first own kids next))
    → rows_in path (cond b (branch first (own_of rest v own) (laid rest v kids) next) (branch seg (own_of rest v None) (laid rest v bare) (branch first own kids next))) ≡ row_at (path ++ seg ∷ rest) v ∷ rows_in path (branch first own kids next)
laid_at false path seg rest v first own kids next is inner order = fresh path seg rest v (branch first own kids next)
laid_at true path seg rest v first own kids next is inner order =
    let same = (segments_decide seg first).0 is in
    let here : AreInOrder (row_at (path ++ first ∷ rest) v ∷ rows_in path (branch first own kids next)) = subst (λ (s : Seg). AreInOrder (row_at (path ++ s ∷ rest) v ∷ rows_in path (branch first own kids next))) same order in
    let regrouped : AreInOrder (row_at (path ++ first ∷ rest) v ∷ own_rows (path ++ first ∷ []) own ++ (rows_in (path ++ first ∷ []) kids ++ rows_in path next)) =
    subst (λ (xs : List Row). AreInOrder (row_at (path ++ first ∷ rest) v ∷ xs)) (append_assoc (own_rows (path ++ first ∷ []) own) (rows_in (path ++ first ∷ []) kids) (rows_in path next)) here in
    inside path first rest v own kids next (unowned path first rest v own _ regrouped) (λ order s more is. inner s more is order) here
    ∙ ap (λ (s : Seg). row_at (path ++ s ∷ rest) v ∷ rows_in path (branch first own kids next)) (sym same)

abbrev has_none : List Seg → Bool
has_none [] = true
has_none (s ∷ more) = false

-- a row laid in front is the first
laid_first : (path : List Seg) (seg : Seg) (rest : List Seg) (v : Value) (f : Forest) → AreInOrder (row_at (path ++ seg ∷ rest) v ∷ rows_in path f) → rows_in path (laid (seg ∷ rest) v f) ≡ row_at (path ++ seg ∷ rest) v ∷ rows_in path f
laid_first path seg rest v bare order = fresh path seg rest v bare
laid_first path seg [] v (branch first own kids next) order =
    laid_at (eq_by_cmp segment_cmp seg first) path seg [] v first own kids next refl (λ s more is. absurd (true≢false (ap has_none is))) order
laid_first path seg (s ∷ rest) v (branch first own kids next) order =
    laid_at (eq_by_cmp segment_cmp seg first) path seg (s ∷ rest) v first own kids next refl (λ t more is inner_order. laid_first (path ++ first ∷ []) s rest v kids inner_order) order

tail_order : (row : Row) (rows : List Row) → AreInOrder (row ∷ rows) → AreInOrder rows
unfolding IsStrictlySortedBy
tail_order row rows h = h.1

-- a row stands below a place, and not at it
abbrev pub StandsUnder : List Seg → Row → Type 0
StandsUnder at row = (seg : Seg) × (rest : List Seg) × (row.path ≡ at ++ seg ∷ rest)

laid_row : (at : List Seg) (row : Row) (f : Forest) → StandsUnder at row → AreInOrder (row ∷ rows_in at f) → rows_in at (laid (drop (length at) row.path) row.value f) ≡ row ∷ rows_in at f
laid_row at row f under order =
    ap (λ path. rows_in at (laid path row.value f)) (ap (drop (length at)) under.2 ∙ drop-append_seam at (under.0 ∷ under.1))
    ∙ laid_first at under.0 under.1 row.value f (subst (λ p. AreInOrder (row_at p row.value ∷ rows_in at f)) under.2 order) ∙ ap (λ p. row_at p row.value ∷ rows_in at f) (sym under.2)

-- a forest holds the rows that it was made of
pub forest_rows : (at : List Seg) (rows : List Row) → AreInOrder rows → AllByRecursion (StandsUnder at) rows → rows_in at (forest_at (length at) rows) ≡ rows
forest_rows at [] order under = refl
forest_rows at (row ∷ rows) order under =
    let later = forest_rows at rows (tail_order row rows order) under.1 in
    laid_row at row (forest_at (length at) rows) under.0 (subst (λ (xs : List Row). AreInOrder (row ∷ xs)) (sym later) order) ∙ ap (λ (xs : List Row). row ∷ xs) later
