-- What is cut: the rows at or below a path, found one after another, and taken out one by one.
use Rattle.std.proofs.Common.{◌≡◌, List, [], ◌∷◌, ◌++◌, map, refl, sym, ap, ◌∙◌, cond, Bool, true, false, not, ◌||◌, Some, None, slice_get, append_assoc}
use Rattle.std.specs.Prelude.{unwrap_or, is_some}
use Rattle.std.specs.Ordering.{is_eq, is_gt}
use Rattle.std.specs.List.{AllByRecursion}
use Rattle.std.specs.List.Sorted.{IsStrictlySortedBy}
use Rattle.std.specs.BTreeMap.Range.{range_contains, entries_between}
use Rattle.std.specs.declared.ops.Bound.TheVariants.{Included, Unbounded}
use Rattle.std.specs.declared.cmp.Ordering.TheVariants.{Less}
use Rattle.std.proofs.lemmas.Cmp.{tied_itself}
use Rattle.std.proofs.lemmas.Map.Views.{tells_apart}
use Rattle.yp_base.specs.declared.path.Seg.{Seg}
use Rattle.yp_base.specs.declared.row.Value.{Value}
use Rattle.yp_base.specs.declared.row.Row.{Row}
use Rattle.yp_base.specs.Order.{path_cmp, is_within}
use Rattle.yp_base.specs.OrderLaws.{segments_total, paths_total}
use Rattle.yp_base.specs.Rows.{path_of, value_at, has_within, rows_within, rows_without, row_of, rows_of}
use Rattle.yp_base.specs.Exact.{paths_exact}
use Rattle.yp_base.specs.PathLaws.{within_itself}
use Rattle.yp_base.specs.Prefixes.{fronts_together}
use Rattle.yp_tree.proofs.Nexts.{first_row, less_not_greater, included_from, included_within}
use Rattle.yp_tree.specs.Listed.{without_row}

-- the first rows, as long as they are at or below a path
abbrev pub front_within : List Seg → List (List Seg × Value) → List (List Seg × Value)
front_within under [] = []
front_within under (e ∷ es) = cond (is_within under e.0) (e ∷ front_within under es) []

none_within : (under x : List Seg) → is_gt (path_cmp under x) ≡ false → is_within under x ≡ false → (es : List (List Seg × Value)) → AllByRecursion (λ y. path_cmp x y ≡ Less) (map path_of (rows_of es)) → rows_within under (rows_of es) ≡ []
none_within under x from apart [] past = refl
none_within under x from apart (e ∷ es) past =
    ap (λ b. cond b (row_of e ∷ rows_within under (rows_of es)) (rows_within under (rows_of es))) (fronts_together segments_total under x e.0 from apart (less_not_greater _ past.0))
    ∙ none_within under x from apart es past.1

-- of what lies in order from a path on, what is at or below the path comes first
pub within_comes_first : (under : List Seg) (es : List (List Seg × Value)) → IsStrictlySortedBy path_cmp (map path_of (rows_of es)) → rows_of (front_within under (entries_between path_cmp (Included under) Unbounded es)) ≡ rows_within under (rows_of es)
unfolding IsStrictlySortedBy
within_comes_first under [] s = refl
within_comes_first under (e ∷ es) s =
    let p : List Seg → Bool = range_contains path_cmp (Included under) Unbounded in
    let rest = entries_between path_cmp (Included under) Unbounded es in
    elim (p e.0) as (λ b. p e.0 ≡ b → rows_of (front_within under (cond b (e ∷ rest) rest)) ≡ rows_within under (row_of e ∷ rows_of es)) [
      | true ↦ λ h. elim (is_within under e.0) as (λ w. is_within under e.0 ≡ w → rows_of (cond w (e ∷ front_within under rest) []) ≡ cond w (row_of e ∷ rows_within under (rows_of es)) (rows_within under (rows_of es))) [
        | true ↦ λ k. ap (λ rows. row_of e ∷ rows) (within_comes_first under es s.1)
        | false ↦ λ k. sym (none_within under e.0 (included_from under e.0 h) k es s.0)
      ] refl
      | false ↦ λ h. elim (is_within under e.0) as (λ w. is_within under e.0 ≡ w → rows_of (front_within under rest) ≡ cond w (row_of e ∷ rows_within under (rows_of es)) (rows_within under (rows_of es))) [
        | true ↦ λ k. let both : true ≡ false = sym (included_within under e.0 k) ∙ h in cc
        | false ↦ λ k. within_comes_first under es s.1
      ] refl
    ] refl

first_front : (under : List Seg) (found : List (List Seg × Value)) → first_row under found ≡ slice_get (rows_of (front_within under found)) 0
first_front under [] = refl
first_front under (e ∷ es) = elim (is_within under e.0) as (λ b. cond b (Some (row_of e)) None ≡ slice_get (rows_of (cond b (e ∷ front_within under es) [])) 0) [ true ↦ refl | false ↦ refl ]

-- what `range` gives says which row is the first at or below the path
pub first_from_range : (under : List Seg) (es found : List (List Seg × Value)) (rows : List Row) → IsStrictlySortedBy path_cmp (map path_of (rows_of es)) → rows_of es ≡ rows → found ≡ entries_between path_cmp (Included under) Unbounded es → first_row under found ≡ slice_get (rows_within under rows) 0
first_from_range under es found rows order same range =
    first_front under found
    ∙ ap (λ found. slice_get (rows_of (front_within under found)) 0) range
    ∙ ap (λ within. slice_get within 0) (within_comes_first under es order ∙ ap (rows_within under) same)

-- there are rows at or below a path where there is a first one
pub there_where_first : (under : List Seg) (rows : List Row) → is_some (slice_get (rows_within under rows) 0) ≡ has_within under rows
there_where_first under [] = refl
there_where_first under (row ∷ rows) =
    elim (is_within under row.path) as (λ b. is_some (slice_get (cond b (row ∷ rows_within under rows) (rows_within under rows)) 0) ≡ (b || has_within under rows)) [
      | true ↦ refl
      | false ↦ there_where_first under rows
    ]

-- the first of the rows at or below a path is at or below it
first_is_within : (under : List Seg) (rows : List Row) (path : List Seg) (rest : List (List Seg)) → map path_of (rows_within under rows) ≡ path ∷ rest → is_within under path ≡ true
first_is_within under [] path rest h = cc
first_is_within under (row ∷ rows) path rest h =
    elim (is_within under row.path) as (λ b. is_within under row.path ≡ b → map path_of (cond b (row ∷ rows_within under rows) (rows_within under rows)) ≡ path ∷ rest → is_within under path ≡ true) [
      | true ↦ λ k m. let same : row.path ≡ path = cc in ap (is_within under) (sym same) ∙ k
      | false ↦ λ k m. first_is_within under rows path rest m
    ] refl h

-- taking out the row of the first of these paths takes the first of these rows, and no other row
pub taken : (under : List Seg) (rows : List Row) (path : List Seg) (rest : List (List Seg)) → map path_of (rows_within under rows) ≡ path ∷ rest → (value : Value) × (value_at path rows ≡ Some value) × (rows_within under rows ≡ record { path = path; value = value } ∷ rows_within under (without_row path rows)) × (rows_without under (without_row path rows) ≡ rows_without under rows)
taken under [] path rest h = cc
taken under (row ∷ rows) path rest h =
    elim (is_within under row.path) as (λ b. is_within under row.path ≡ b → map path_of (cond b (row ∷ rows_within under rows) (rows_within under rows)) ≡ path ∷ rest → (value : Value) × (value_at path (row ∷ rows) ≡ Some value) × (rows_within under (row ∷ rows) ≡ record { path = path; value = value } ∷ rows_within under (without_row path (row ∷ rows))) × (rows_without under (without_row path (row ∷ rows)) ≡ rows_without under (row ∷ rows))) [
      | true ↦ λ k m.
          let same : row.path ≡ path = cc in
          let at : is_eq (path_cmp path row.path) ≡ true = ap is_eq (ap (path_cmp path) same ∙ tied_itself paths_total path) in
          rw (k, at) (row.value, refl, (λ i. record { path = same i; value = row.value } ∷ rows_within under rows), refl)
      | false ↦ λ k m.
          let within = first_is_within under rows path rest m in
          let more = taken under rows path rest m in
          elim (is_eq (path_cmp path row.path)) as (λ b. is_eq (path_cmp path row.path) ≡ b → (value : Value) × (cond b (Some row.value) (value_at path rows) ≡ Some value) × (rows_within under (row ∷ rows) ≡ record { path = path; value = value } ∷ rows_within under (cond b rows (row ∷ without_row path rows))) × (rows_without under (cond b rows (row ∷ without_row path rows)) ≡ rows_without under (row ∷ rows))) [
            | true ↦ λ at. let both : true ≡ false = sym within ∙ ap (is_within under) (tells_apart paths_exact path row.path at) ∙ k in cc
            | false ↦ λ at. rw k (more.0, more.1, more.2, ap (λ rows. row ∷ rows) more.3)
          ] refl
    ] refl h

-- the next of the rows is cut
pub record Cut (under : List Seg) (old now new done more : List Row) (rest : List (List Seg)) : Type 0 where
  pub paths : map path_of (rows_within under new) ≡ rest
  pub rows : more ++ rows_within under new ≡ rows_within under old
  pub others : rows_without under new ≡ rows_without under now

pub cutting_grows : (under path : List Seg) (old now new done : List Row) (rest : List (List Seg)) (value : Value) → map path_of (rows_within under now) ≡ path ∷ rest → done ++ rows_within under now ≡ rows_within under old → Some value ≡ value_at path now → new ≡ without_row path now → Cut under old now new done (done ++ record { path = path; value = value } ∷ []) rest
cutting_grows under path old now new done rest value first so_far found left =
    let t = taken under now path rest first in
    let same : t.0 ≡ value = ap (λ kept. unwrap_or kept value) (sym t.1 ∙ sym found) in
    let row : Value → Row = λ v. record { path = path; value = v } in
    let split : rows_within under now ≡ row value ∷ rows_within under new = t.2 ∙ (λ i. row (same i) ∷ rows_within under (sym left i)) in
    let paths : path ∷ map path_of (rows_within under new) ≡ path ∷ rest = sym (ap (map path_of) split) ∙ first in
    record {
      paths = cc;
      rows = append_assoc done (row value ∷ []) (rows_within under new) ∙ ap (λ rows. done ++ rows) (sym split) ∙ so_far;
      others = ap (rows_without under) left ∙ t.3;
    }

-- each of the paths has a row
pub always_there : (under path : List Seg) (rows : List Row) (rest : List (List Seg)) → map path_of (rows_within under rows) ≡ path ∷ rest → None ≡ value_at path rows → ⊥
always_there under path rows rest first missing =
    let t = taken under rows path rest first in
    let both : None ≡ Some t.0 = missing ∙ t.1 in
    cc

-- where no row is at or below a path, the others are all
pub others_are_all : (under : List Seg) (rows : List Row) → map path_of (rows_within under rows) ≡ [] → rows_without under rows ≡ rows
others_are_all under [] h = refl
others_are_all under (row ∷ rows) h =
    elim (is_within under row.path) as (λ b. map path_of (cond b (row ∷ rows_within under rows) (rows_within under rows)) ≡ [] → cond (not b) (row ∷ rows_without under rows) (rows_without under rows) ≡ row ∷ rows) [
      | true ↦ λ m. cc
      | false ↦ λ m. ap (λ rows. row ∷ rows) (others_are_all under rows m)
    ] h

-- ---- a path below which no row lies

none_leaves : (under : List Seg) (rows : List Row) → map path_of (rows_within under rows) ≡ [] → rows_without under rows ≡ without_row under rows
none_leaves under [] none = refl
none_leaves under (row ∷ rows) none =
    elim (is_within under row.path) as (λ w. is_within under row.path ≡ w → map path_of (cond w (row ∷ rows_within under rows) (rows_within under rows)) ≡ [] → cond (not w) (row ∷ rows_without under rows) (rows_without under rows) ≡ cond (is_eq (path_cmp under row.path)) rows (row ∷ without_row under rows)) [
      | true ↦ λ within h. cc
      | false ↦ λ within h. elim (is_eq (path_cmp under row.path)) as (λ b. is_eq (path_cmp under row.path) ≡ b → row ∷ rows_without under rows ≡ cond b rows (row ∷ without_row under rows)) [
        | true ↦ λ here.
            let both : true ≡ false = sym (within_itself under) ∙ ap (is_within under) (tells_apart paths_exact under row.path here) ∙ within in
            cc
        | false ↦ λ here. ap (λ (rest : List Row). row ∷ rest) (none_leaves under rows h)
      ] refl
    ] refl none

one_leaves : (under : List Seg) (rows : List Row) → map path_of (rows_within under rows) ≡ under ∷ [] → rows_without under rows ≡ without_row under rows
one_leaves under rows one =
    let t = taken under rows under [] one in
    let less : List Row = without_row under rows in
    let whole : under ∷ map path_of (rows_within under less) ≡ under ∷ [] = sym (ap (map path_of) t.2) ∙ one in
    let none : map path_of (rows_within under less) ≡ [] = cc in
    sym t.3 ∙ others_are_all under less none

-- where what `range` gives begins with nothing at or below the path, or ends there with its row, the other rows are those without it
module _ (under : List Seg) (es found : List (List Seg × Value)) (rows : List Row) (order : IsStrictlySortedBy path_cmp (map path_of (rows_of es))) (same : rows_of es ≡ rows) (range : found ≡ entries_between path_cmp (Included under) Unbounded es) where
  begun : map path_of (rows_within under rows) ≡ map path_of (rows_of (front_within under found))
  begun = ap (map path_of) (sym (ap (λ es. rows_of (front_within under es)) range ∙ within_comes_first under es order ∙ ap (rows_within under) same))

  pub nothing_leaves : found ≡ [] → rows_without under rows ≡ without_row under rows
  nothing_leaves none = none_leaves under rows (begun ∙ ap (λ es. map path_of (rows_of (front_within under es))) none)

  pub outside_leaves : (first : List Seg × Value) (rest : List (List Seg × Value)) → found ≡ first ∷ rest → is_within under first.0 ≡ false → rows_without under rows ≡ without_row under rows
  outside_leaves first rest is outside =
      none_leaves under rows (begun ∙ ap (λ es. map path_of (rows_of (front_within under es))) is ∙ ap (λ w. map path_of (rows_of (cond w (first ∷ front_within under rest) []))) outside)

  its_row : (first : List Seg × Value) (rest : List (List Seg × Value)) → found ≡ first ∷ rest → is_eq (path_cmp under first.0) ≡ true → rows_of (front_within under rest) ≡ [] → rows_without under rows ≡ without_row under rows
  its_row first rest is here ends =
      let at : under ≡ first.0 = tells_apart paths_exact under first.0 here in
      let within : is_within under first.0 ≡ true = ap (is_within under) (sym at) ∙ within_itself under in
      one_leaves under rows (
      begun
      ∙ ap (λ es. map path_of (rows_of (front_within under es))) is
      ∙ ap (λ w. map path_of (rows_of (cond w (first ∷ front_within under rest) []))) within
      ∙ (λ i. sym at i ∷ map path_of (ends i)))

  pub row_leaves : (first : List Seg × Value) → found ≡ first ∷ [] → is_eq (path_cmp under first.0) ≡ true → rows_without under rows ≡ without_row under rows
  row_leaves first is here = its_row first [] is here refl

  pub row_first_leaves : (first second : List Seg × Value) (rest : List (List Seg × Value)) → found ≡ first ∷ second ∷ rest → is_eq (path_cmp under first.0) ≡ true → is_within under second.0 ≡ false → rows_without under rows ≡ without_row under rows
  row_first_leaves first second rest is here outside = its_row first (second ∷ rest) is here (ap (λ w. rows_of (cond w (second ∷ front_within under rest) [])) outside)
