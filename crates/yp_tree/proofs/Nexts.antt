-- The row that is next, and where it is found.
use Rattle.std.proofs.Common.{◌≡◌, List, [], ◌∷◌, map, refl, sym, ap, ◌∙◌, cond, Bool, true, false, ◌&&◌, Some, None, slice_get}
use Rattle.std.specs.Borrow.{Bor}
use Rattle.std.specs.Prelude.{Option, MatchOption, option_map, filter}
use Rattle.std.specs.List.{AllByRecursion}
use Rattle.std.specs.List.Sorted.{IsStrictlySortedBy}
use Rattle.std.specs.Ordering.{is_lt, is_gt, is_le, ordering_reverse}
use Rattle.std.specs.BTreeMap.Range.{range_contains, entries_between}
use Rattle.std.specs.declared.ops.Bound.{Bound}
use Rattle.std.specs.declared.ops.Bound.TheVariants.{Included, Excluded, Unbounded}
use Rattle.std.specs.declared.cmp.Ordering.{Ordering}
use Rattle.std.specs.declared.cmp.Ordering.TheVariants.{Less, Equal, Greater}
use Rattle.std.proofs.lemmas.Cmp.{alike_right}
use Rattle.yp_base.specs.declared.path.Seg.{Seg}
use Rattle.yp_base.specs.declared.row.Value.{Value}
use Rattle.yp_base.specs.declared.row.Row.{Row}
use Rattle.yp_base.specs.Order.{path_cmp, is_within, segment_cmp}
use Rattle.yp_base.specs.OrderLaws.{segments_total, paths_total}
use Rattle.yp_base.specs.Prefixes.{front_not_after, fronts_together}
use Rattle.yp_tree.specs.Begins.{Begins}
use Rattle.yp_tree.specs.Gaps.{rows_from}
use Rattle.yp_base.specs.Rows.{path_of, next_row, row_of, rows_of}
use Rattle.yp_base.specs.PathLaws.{less_told}

pub less_not_greater : (o : Ordering) → o ≡ Less → is_gt o ≡ false
less_not_greater Less e = refl
less_not_greater Equal e = refl
less_not_greater Greater e = cc

and_false : (b : Bool) → (b && false) ≡ false
and_false true = refl
and_false false = refl

-- the first of these, where it is within
abbrev pub first_row : List Seg → List (List Seg × Value) → Option Row
first_row under [] = None
first_row under (e ∷ es) = cond (is_within under e.0) (Some (row_of e)) None

module _ (p : List Seg → Bool) (after under : List Seg) (from_under : (x : List Seg) → p x ≡ true → is_gt (path_cmp under x) ≡ false) (past_after : (x : List Seg) → is_within under x ≡ true → p x ≡ is_lt (path_cmp after x)) where
  none_within : (x : List Seg) → p x ≡ true → is_within under x ≡ false → (es : List (List Seg × Value)) → AllByRecursion (λ y. path_cmp x y ≡ Less) (map path_of (rows_of es)) → next_row after under (rows_of es) ≡ None
  none_within x here apart [] above = refl
  none_within x here apart (e ∷ es) above =
      let outside : is_within under e.0 ≡ false = fronts_together segments_total under x e.0 (from_under x here) apart (less_not_greater _ above.0) in
      ap (λ b. cond b (Some (row_of e)) (next_row after under (rows_of es))) (ap (λ b. is_lt (path_cmp after e.0) && b) outside ∙ and_false (is_lt (path_cmp after e.0)))
      ∙ none_within x here apart es above.1

  pub first_within : (es : List (List Seg × Value)) → IsStrictlySortedBy path_cmp (map path_of (rows_of es)) → next_row after under (rows_of es) ≡ first_row under (filter (λ e. p e.0) es)
  unfolding IsStrictlySortedBy
  first_within [] s = refl
  first_within (e ∷ es) s =
      elim (p e.0) as (λ b. p e.0 ≡ b → next_row after under (row_of e ∷ rows_of es) ≡ first_row under (cond b (e ∷ filter (λ e. p e.0) es) (filter (λ e. p e.0) es))) [
        | true ↦ λ h. elim (is_within under e.0) as (λ w. is_within under e.0 ≡ w → cond (is_lt (path_cmp after e.0) && w) (Some (row_of e)) (next_row after under (rows_of es)) ≡ cond w (Some (row_of e)) None) [
          | true ↦ λ k. ap (λ b. cond (b && true) (Some (row_of e)) (next_row after under (rows_of es))) (sym (past_after e.0 k) ∙ h)
          | false ↦ λ k. ap (λ b. cond b (Some (row_of e)) (next_row after under (rows_of es))) (and_false (is_lt (path_cmp after e.0))) ∙ none_within e.0 h k es s.0
        ] refl
        | false ↦ λ h. elim (is_within under e.0) as (λ w. is_within under e.0 ≡ w → cond (is_lt (path_cmp after e.0) && w) (Some (row_of e)) (next_row after under (rows_of es)) ≡ first_row under (filter (λ e. p e.0) es)) [
          | true ↦ λ k. ap (λ b. cond (b && true) (Some (row_of e)) (next_row after under (rows_of es))) (sym (past_after e.0 k) ∙ h) ∙ first_within es s.1
          | false ↦ λ k. ap (λ b. cond b (Some (row_of e)) (next_row after under (rows_of es))) (and_false (is_lt (path_cmp after e.0))) ∙ first_within es s.1
        ] refl
      ] refl

and_true : (b : Bool) → (b && true) ≡ b
and_true true = refl
and_true false = refl

le_not_gt : (o : Ordering) → is_le o ≡ true → is_gt o ≡ false
le_not_gt Less e = refl
le_not_gt Equal e = refl
le_not_gt Greater e = cc

not_gt_le : (o : Ordering) → is_gt o ≡ false → is_le o ≡ true
not_gt_le Less e = refl
not_gt_le Equal e = refl
not_gt_le Greater e = cc

-- below is below, whichever way the second comes
before_both : (a b c : List Seg) → path_cmp a b ≡ Less → is_gt (path_cmp b c) ≡ false → path_cmp a c ≡ Less
before_both a b c h k =
    elim (path_cmp b c) as (λ r. path_cmp b c ≡ r → is_gt r ≡ false → path_cmp a c ≡ Less) [
      | Less ↦ λ e m. paths_total.trans a b c h e
      | Equal ↦ λ e m. sym (alike_right paths_total b c a e) ∙ h
      | Greater ↦ λ e m. cc
    ] refl k

before_all : (a b c : List Seg) → is_gt (path_cmp a b) ≡ false → path_cmp b c ≡ Less → path_cmp a c ≡ Less
before_all a b c h k =
    elim (path_cmp a b) as (λ r. path_cmp a b ≡ r → is_gt r ≡ false → path_cmp a c ≡ Less) [
      | Less ↦ λ e m. paths_total.trans a b c e k
      | Equal ↦ λ e m. paths_total.congr a b c e ∙ k
      | Greater ↦ λ e m. cc
    ] refl h

flipped : (a b : List Seg) → is_lt (path_cmp a b) ≡ false → is_gt (path_cmp b a) ≡ false
flipped a b h = elim (path_cmp a b) as (λ r. path_cmp a b ≡ r → is_lt r ≡ false → is_gt (path_cmp b a) ≡ false) [
  | Less ↦ λ e m. cc
  | Equal ↦ λ e m. ap is_gt (paths_total.antisymm b a ∙ ap ordering_reverse e)
  | Greater ↦ λ e m. ap is_gt (paths_total.antisymm b a ∙ ap ordering_reverse e)
] refl h

-- what lies from `under` on isn't before it
pub included_from : (under x : List Seg) → range_contains path_cmp (Included under) Unbounded x ≡ true → is_gt (path_cmp under x) ≡ false
included_from under x e = le_not_gt _ (sym (and_true _) ∙ e)

-- what is at or below `under` lies from it on
pub included_within : (under x : List Seg) → is_within under x ≡ true → range_contains path_cmp (Included under) Unbounded x ≡ true
included_within under x e = and_true _ ∙ not_gt_le _ (front_not_after segment_cmp under x e)

-- where `after` is before `under`, the rows begin at `under`
pub begins_at : (after under : List Seg) → path_cmp after under ≡ Less → Begins after under (Included under)
begins_at after under h = record {
  from_under = included_from under;
  past_after = λ x e. included_within under x e ∙ sym (ap is_lt (before_both after under x h (front_not_after segment_cmp under x e)));
}

-- elsewhere, past `after`
pub begins_past : (after under : List Seg) → is_lt (path_cmp after under) ≡ false → Begins after under (Excluded after)
begins_past after under h = record {
  from_under = λ x e. less_not_greater _ (before_all under after x (flipped after under h) (less_told _ (sym (and_true _) ∙ e)));
  past_after = λ x e. and_true _;
}

-- what `range` gives says which row is next
pub next_from_range : (after under : List Seg) (start : Bound (List Seg)) (es found : List (List Seg × Value)) (rows : List Row) → Begins after under start → IsStrictlySortedBy path_cmp (map path_of (rows_of es)) → rows_of es ≡ rows → found ≡ entries_between path_cmp start Unbounded es → first_row under found ≡ next_row after under rows
next_from_range after under start es found rows begins order same range =
    ap (first_row under) range
    ∙ sym (first_within (range_contains path_cmp start Unbounded) after under begins.from_under begins.past_after es order)
    ∙ ap (next_row after under) same

-- the rows from a path on are those of the range that begins there
picked_from : (from : List Seg) (es : List (List Seg × Value)) → rows_of (entries_between path_cmp (Included from) Unbounded es) ≡ rows_from from (rows_of es)
picked_from from [] = refl
picked_from from (e ∷ es) =
    let rest = entries_between path_cmp (Included from) Unbounded es in
    elim (is_le (path_cmp from e.0)) as (λ b. rows_of (cond (b && true) (e ∷ rest) rest) ≡ cond b (row_of e ∷ rows_from from (rows_of es)) (rows_from from (rows_of es))) [
      | true ↦ ap (λ (rows : List Row). row_of e ∷ rows) (picked_from from es)
      | false ↦ picked_from from es
    ]

-- what a range gives first is the first row from a path on
pub first_of_range : (from : List Seg) (es found : List (List Seg × Value)) (rows : List Row) → rows_of es ≡ rows → found ≡ entries_between path_cmp (Included from) Unbounded es → slice_get (rows_of found) 0 ≡ slice_get (rows_from from rows) 0
first_of_range from es found rows same range = ap (λ rest. slice_get (rows_of rest) 0) range ∙ ap (λ rest. slice_get rest 0) (picked_from from es ∙ ap (rows_from from) same)

-- the first of what is left, where there is one
pub first_of_rest : (first : Option (Bor (List Seg) × Bor Value)) (found rest : List (List Seg × Value)) → MatchOption first ((found ≡ []) × (rest ≡ [])) (λ x. found ≡ (x.0.now, x.1.now) ∷ rest)
    → option_map (λ x. row_of (x.0.now, x.1.now)) first ≡ slice_get (rows_of found) 0
first_of_rest None found rest steps = sym (ap (λ left. slice_get (rows_of left) 0) steps.0)
first_of_rest (Some x) found rest steps = sym (ap (λ left. slice_get (rows_of left) 0) steps)
