-- What changes make of rows, path by path.
use Rattle.std.proofs.lemmas.List.{append_assoc}
use Rattle.std.proofs.Common.{◌≡◌, List, [], ◌∷◌, ◌++◌, refl, sym, ap, subst, ◌∙◌, cond, true, false, Option, Some, None, arith}
use Rattle.std.specs.Prelude.{is_some}
use Rattle.std.specs.List.{cons_option}
use Rattle.std.specs.List.Sorted.{IsStrictlySortedBy}
use Rattle.std.specs.Ordering.{is_eq, match_ordering}
use Rattle.std.specs.declared.cmp.Ordering.TheVariants.{Less, Equal, Greater}
use Rattle.yp_base.specs.declared.path.Seg.{Seg}
use Rattle.yp_base.specs.declared.row.Value.{Value}
use Rattle.yp_base.specs.declared.row.Row.{Row}
use Rattle.yp_base.specs.Order.{path_cmp}
use Rattle.yp_base.specs.Exact.{paths_exact}
use Rattle.yp_base.specs.PathLaws.{are_one, less_turned, greater_turned, IsBefore, before_all}
use Rattle.yp_base.specs.Rows.{value_at, put_row, AreInOrder}
use Rattle.yp_base.specs.RowLaws.{AllPast, all_past, none_past, put_first, put_keeps_order, put_last_row, first_order, rest_order, value_at_put}
use Rattle.yp_tree.specs.Alike.{same_rows}
use Rattle.yp_tree.specs.Listed.{without_row}
use Rattle.yp_changes.specs.declared.changed.ChangedRow.{ChangedRow}
use Rattle.yp_changes.specs.ChangeLaws.{paths_in, change_in, AreSorted, none_before, alike_is, changed_at, changed_sorted}
use Rattle.yp_changes.specs.Changes.{are_alike, change_of, changed_rows}
use Rattle.yp_changes.specs.Commits.{Differ}
use Rattle.yp_changes.specs.Renewals.{new_row, with_value, with_row, made, Begins}
use Rattle.yp_changes.specs.TakingLaws.{value_at_without_row, without_row_order, none_taken}

-- ---- a row before all changes stays first

with_later : (path : List Seg) (value : Option Value) (row : Row) (rows : List Row) → path_cmp row.path path ≡ Less → with_value path value (row ∷ rows) ≡ row ∷ with_value path value rows
with_later path None row rows less = ap (λ o. cond (is_eq o) rows (row ∷ without_row path rows)) (less_turned row.path path less)
with_later path (Some value) row rows less =
    ap (λ o. match_ordering o (record { path = path; value = value } ∷ row ∷ rows) (record row { value = value } ∷ rows) (row ∷ put_row (record { path = path; value = value }) rows)) (less_turned row.path path less)

made_later : (changes : List ChangedRow) (row : Row) (rows : List Row) → IsBefore row.path (paths_in changes) → made changes (row ∷ rows) ≡ row ∷ made changes rows
made_later [] row rows before = refl
made_later (change ∷ changes) row rows before =
    ap (made changes) (with_later change.path change.new row rows before.0) ∙ made_later changes row (with_value change.path change.new rows) before.1

-- ---- a change before all rows, and one of the first row

made_first : (change : ChangedRow) (changes : List ChangedRow) (rows : List Row) → AreSorted (change ∷ changes) → AllPast change.path rows → made (change ∷ changes) rows ≡ cons_option (new_row change) (made changes rows)
unfolding IsStrictlySortedBy
made_first change changes rows sorted past =
    elim change.new as (λ v. made changes (with_value change.path v rows) ≡ cons_option (new_row (record change { new = v })) (made changes rows)) [
      | None ↦ ap (made changes) (none_taken change.path rows (ap is_some (none_past change.path rows past)))
      | Some value ↦
          let row : Row = record { path = change.path; value = value } in
          ap (made changes) (put_first row rows past) ∙ made_later changes row rows sorted.0
    ]

made_same : (change : ChangedRow) (changes : List ChangedRow) (row : Row) (rows : List Row) → AreSorted (change ∷ changes) → path_cmp row.path change.path ≡ Equal → made (change ∷ changes) (row ∷ rows) ≡ cons_option (new_row change) (made changes rows)
unfolding IsStrictlySortedBy
made_same change changes row rows sorted equal =
    let same : row.path ≡ change.path = paths_exact row.path change.path equal in
    let tied : path_cmp change.path row.path ≡ Equal = ap (λ p. path_cmp p row.path) (sym same) ∙ ap (path_cmp row.path) same ∙ equal in
    elim change.new as (λ v. made changes (with_value change.path v (row ∷ rows)) ≡ cons_option (new_row (record change { new = v })) (made changes rows)) [
      | None ↦ ap (λ o. made changes (cond (is_eq o) rows (row ∷ without_row change.path rows))) tied
      | Some value ↦
          let new : Row = record { path = change.path; value = value } in
          ap (λ o. made changes (match_ordering o (new ∷ row ∷ rows) (record row { value = value } ∷ rows) (row ∷ put_row new rows))) tied
          ∙ ap (λ p. made changes (record { path = p; value = value } ∷ rows)) same
          ∙ made_later changes new rows sorted.0
    ]

-- ---- the first path of rows and of changes

later_changes : (change : ChangedRow) (changes : List ChangedRow) → AreSorted (change ∷ changes) → AreSorted changes
unfolding IsStrictlySortedBy
later_changes change changes sorted = sorted.1

before_changes : (path : List Seg) (change : ChangedRow) (changes : List ChangedRow) → AreSorted (change ∷ changes) → path_cmp path change.path ≡ Less → IsBefore path (paths_in (change ∷ changes))
unfolding IsStrictlySortedBy
before_changes path change changes sorted less = (less, before_all path change.path (paths_in changes) less sorted.0)

pub row_begins : (row : Row) (rows : List Row) (changes : List ChangedRow) → AreInOrder (row ∷ rows) → AreSorted changes → IsBefore row.path (paths_in changes) → Begins (row ∷ rows) changes (Some row) rows changes
row_begins row rows changes order sorted before = record { rows_order = rest_order row rows order; changes_order = sorted; fewer = omega arith; all_made = made_later changes row rows before }

pub change_begins : (rows : List Row) (change : ChangedRow) (changes : List ChangedRow) → AreInOrder rows → AreSorted (change ∷ changes) → AllPast change.path rows → Begins rows (change ∷ changes) (new_row change) rows changes
change_begins rows change changes order sorted past = record { rows_order = order; changes_order = later_changes change changes sorted; fewer = omega arith; all_made = made_first change changes rows sorted past }

pub both_begin : (row : Row) (rows : List Row) (change : ChangedRow) (changes : List ChangedRow) → AreInOrder (row ∷ rows) → AreSorted (change ∷ changes) → path_cmp row.path change.path ≡ Equal → Begins (row ∷ rows) (change ∷ changes) (new_row change) rows changes
both_begin row rows change changes order sorted equal = record { rows_order = rest_order row rows order; changes_order = later_changes change changes sorted; fewer = omega arith; all_made = made_same change changes row rows sorted equal }

module _ (rows rows_left : List Row) (changes changes_left : List ChangedRow) (row : Row) (change : ChangedRow) (order : AreInOrder rows) (sorted : AreSorted changes) (rows_are : rows ≡ row ∷ rows_left) (changes_are : changes ≡ change ∷ changes_left) where
  rows_order : AreInOrder (row ∷ rows_left)
  rows_order = subst AreInOrder rows_are order

  changes_order : AreSorted (change ∷ changes_left)
  changes_order = subst AreSorted changes_are sorted

  pub less_begins : path_cmp row.path change.path ≡ Less → Begins rows changes (Some row) rows_left changes
  less_begins less =
      subst (λ (some : List Row). Begins some changes (Some row) rows_left changes) (sym rows_are)
      (row_begins row rows_left changes rows_order sorted (subst (λ (some : List ChangedRow). IsBefore row.path (paths_in some)) (sym changes_are) (before_changes row.path change changes_left changes_order less)))

  pub equal_begins : (new : Option Row) → new ≡ new_row change → path_cmp row.path change.path ≡ Equal → Begins rows changes new rows_left changes_left
  equal_begins new is equal =
      subst (λ (some : Option Row). Begins rows changes some rows_left changes_left) (sym is)
      (subst (λ (some : List Row). Begins some changes (new_row change) rows_left changes_left) (sym rows_are)
      (subst (λ (some : List ChangedRow). Begins (row ∷ rows_left) some (new_row change) rows_left changes_left) (sym changes_are)
      (both_begin row rows_left change changes_left rows_order changes_order equal)))

  pub greater_begins : (new : Option Row) → new ≡ new_row change → path_cmp row.path change.path ≡ Greater → Begins rows changes new rows changes_left
  greater_begins new is greater =
      let less = greater_turned row.path change.path greater in
      let past : AllPast change.path (row ∷ rows_left) = (less, all_past change.path row.path rows_left less (first_order row rows_left rows_order)) in
      subst (λ (some : Option Row). Begins rows changes some rows changes_left) (sym is)
      (subst (λ (some : List ChangedRow). Begins rows some (new_row change) rows changes_left) (sym changes_are)
      (change_begins rows change changes_left order changes_order (subst (AllPast change.path) (sym rows_are) past)))

pub rows_begin : (rows rows_left : List Row) (changes : List ChangedRow) (row : Row) → AreInOrder rows → AreSorted changes → rows ≡ row ∷ rows_left → changes ≡ [] → Begins rows changes (Some row) rows_left changes
rows_begin rows rows_left changes row order sorted rows_are none =
    subst (λ (some : List Row). Begins some changes (Some row) rows_left changes) (sym rows_are)
    (row_begins row rows_left changes (subst AreInOrder rows_are order) sorted (subst (λ (some : List ChangedRow). IsBefore row.path (paths_in some)) (sym none) tt))

pub changes_begin : (rows : List Row) (changes changes_left : List ChangedRow) (change : ChangedRow) (new : Option Row) → AreInOrder rows → AreSorted changes → rows ≡ [] → changes ≡ change ∷ changes_left → new ≡ new_row change → Begins rows changes new rows changes_left
changes_begin rows changes changes_left change new order sorted none changes_are is =
    subst (λ (some : Option Row). Begins rows changes some rows changes_left) (sym is)
    (subst (λ (some : List ChangedRow). Begins rows some (new_row change) rows changes_left) (sym changes_are)
    (change_begins rows change changes_left order (subst AreSorted changes_are sorted) (subst (AllPast change.path) (sym none) tt)))

pub none_made : (rows : List Row) (changes : List ChangedRow) → rows ≡ [] → changes ≡ [] → made changes rows ≡ []
none_made rows changes rows_none changes_none = λ i. made (changes_none i) (rows_none i)

-- ---- rows that are put one past another

pub made_order : (changes : List ChangedRow) (rows : List Row) → AreInOrder rows → AreInOrder (made changes rows)
made_order [] rows order = order
made_order (change ∷ changes) rows order = made_order changes (with_value change.path change.new rows) (step change.new)
  where
    step : (value : Option Value) → AreInOrder (with_value change.path value rows)
    step None = without_row_order change.path rows order
    step (Some value) = put_keeps_order (record { path = change.path; value = value }) rows order

one_appended : (news new more all : List Row) (row : Row) → new ≡ put_row row news → news ++ row ∷ more ≡ all → AreInOrder all → new ++ more ≡ all
one_appended news new more all row is whole order =
    ap (λ (rows : List Row). rows ++ more) (is ∙ put_last_row news row more (subst AreInOrder (sym whole) order)) ∙ append_assoc news (row ∷ []) more ∙ whole

pub one_added : (news new more all : List Row) (row : Option Row) → new ≡ with_row row news → news ++ cons_option row more ≡ all → AreInOrder all → new ++ more ≡ all
one_added news new more all None is whole order = ap (λ (rows : List Row). rows ++ more) is ∙ whole
one_added news new more all (Some row) is whole order = one_appended news new more all row is whole order

-- ---- what changes make is what they differ by

after_of : Option ChangedRow → Option Value → Option Value
after_of None old = old
after_of (Some change) old = change.new

with_value_at : (q path : List Seg) (value : Option Value) (rows : List Row) → AreInOrder rows → value_at q (with_value path value rows) ≡ cond (is_eq (path_cmp q path)) value (value_at q rows)
with_value_at q path None rows order = value_at_without_row q path rows order
with_value_at q path (Some value) rows order = value_at_put q (record { path = path; value = value }) rows

with_value_order : (path : List Seg) (value : Option Value) (rows : List Row) → AreInOrder rows → AreInOrder (with_value path value rows)
with_value_order path None rows order = without_row_order path rows order
with_value_order path (Some value) rows order = put_keeps_order (record { path = path; value = value }) rows order

made_at : (q : List Seg) (changes : List ChangedRow) (rows : List Row) → AreSorted changes → AreInOrder rows → value_at q (made changes rows) ≡ after_of (change_in q changes) (value_at q rows)
unfolding IsStrictlySortedBy after_of
made_at q [] rows sorted order = refl
made_at q (change ∷ changes) rows sorted order =
    made_at q changes (with_value change.path change.new rows) sorted.1 (with_value_order change.path change.new rows order)
    ∙ ap (after_of (change_in q changes)) (with_value_at q change.path change.new rows order)
    ∙ elim (is_eq (path_cmp q change.path)) as (λ b. is_eq (path_cmp q change.path) ≡ b → after_of (change_in q changes) (cond b change.new (value_at q rows)) ≡ after_of (cond b (Some change) (change_in q changes)) (value_at q rows)) [
      | true ↦ λ here. ap (λ (c : Option ChangedRow). after_of c change.new) (none_before q changes (subst (λ (p : List Seg). IsBefore p (paths_in changes)) (sym (are_one q change.path here)) sorted.0))
      | false ↦ λ here. refl
    ] refl

after_right : (q : List Seg) (old new : Option Value) → after_of (change_of q old new) old ≡ new
unfolding after_of
after_right q old new =
    elim (are_alike old new) as (λ b. are_alike old new ≡ b → after_of (cond b None (Some (record { path = q; old = old; new = new }))) old ≡ new) [
      | true ↦ λ h. alike_is old new h
      | false ↦ λ h. refl
    ] refl

made_after : (before after : List Row) → AreInOrder before → AreInOrder after → made (changed_rows before after) before ≡ after
made_after before after order after_order =
    same_rows (made (changed_rows before after) before) after (made_order (changed_rows before after) before order) after_order (λ q.
    made_at q (changed_rows before after) before (changed_sorted before after order) order
    ∙ ap (λ (c : Option ChangedRow). after_of c (value_at q before)) (changed_at before after q)
    ∙ after_right q (value_at q before) (value_at q after))

pub made_differ : (changes : List ChangedRow) (before after now : List Row) → AreInOrder before → Differ changes before after → now ≡ made changes before → Differ changes before now
made_differ changes before after now order differ is =
    let same : now ≡ after = is ∙ ap (λ (some : List ChangedRow). made some before) differ.changed ∙ made_after before after order differ.in_order in
    subst (λ (rows : List Row). Differ changes before rows) (sym same) differ

pub differ_sorted : (changes : List ChangedRow) (before after : List Row) → AreInOrder before → Differ changes before after → AreSorted changes
differ_sorted changes before after order differ = subst AreSorted (sym differ.changed) (changed_sorted before after order)
