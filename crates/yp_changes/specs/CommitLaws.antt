-- What follows of changes that are made to rows: they make of the rows before those after, and of no other rows.
use Rattle.std.proofs.Common.{◌≡◌, List, [], ◌∷◌, map, refl, sym, ap, subst, ◌∙◌, cond, Bool, true, false, not, Option, Some, None}
use Rattle.std.specs.Prelude.{is_some}
use Rattle.std.specs.Option.{option_or}
use Rattle.std.specs.List.{filter_map, cons_option}
use Rattle.std.specs.List.Sorted.{IsStrictlySortedBy}
use Rattle.std.specs.Ordering.{is_eq}
use Rattle.yp_base.specs.declared.path.Seg.{Seg}
use Rattle.yp_base.specs.declared.row.Value.{Value}
use Rattle.yp_base.specs.declared.row.Row.{Row}
use Rattle.yp_base.specs.Order.{path_cmp}
use Rattle.yp_base.specs.Rows.{path_of, value_at, put_row, put_rows, AreInOrder}
use Rattle.yp_base.specs.PathLaws.{are_one, IsBefore}
use Rattle.yp_base.specs.RowLaws.{value_at_put, value_at_puts, puts_order, still_some}
use Rattle.yp_tree.specs.Alike.{same_rows}
use Rattle.yp_tree.specs.Listed.{without_row}
use Rattle.yp_changes.specs.declared.changed.ChangedRow.{ChangedRow}
use Rattle.yp_changes.specs.ChangeLaws.{paths_in, change_in, AreSorted, none_before, alike_is, changed_at, changed_sorted}
use Rattle.yp_changes.specs.Changes.{are_alike, change_of, changed_rows}
use Rattle.yp_changes.specs.Commits.{row_with, added_row, given_value, given_row, without_missing}
use Rattle.yp_changes.specs.TakingLaws.{value_at_without_row, without_row_order}

-- ---- rows that are put

-- a row that is there stays where others are put
pub put_stays : (path : List Seg) (new : Row) (rows : List Row) → is_some (value_at path rows) ≡ true → is_some (value_at path (put_row new rows)) ≡ true
put_stays path new rows h = ap is_some (value_at_put path new rows) ∙ still_some (is_eq (path_cmp path new.path)) new.value (value_at path rows) h

pub puts_stay : (path : List Seg) (news rows : List Row) → is_some (value_at path rows) ≡ true → is_some (value_at path (put_rows news rows)) ≡ true
puts_stay path [] rows h = h
puts_stay path (new ∷ news) rows h = puts_stay path news (put_row new rows) (put_stays path new rows h)

-- ---- rows that changes bring

abbrev pub row_value : Option Row → Option Value
row_value None = None
row_value (Some row) = Some row.value

abbrev pub of_found : (ChangedRow → Option Row) → Option ChangedRow → Option Value
of_found g None = None
of_found g (Some change) = row_value (g change)

module _ (g : ChangedRow → Option Row) (of_path : (change : ChangedRow) (row : Row) → g change ≡ Some row → row.path ≡ change.path) where
  brought_at : (q : List Seg) (changes : List ChangedRow) → AreSorted changes → value_at q (filter_map g changes) ≡ of_found g (change_in q changes)
  unfolding IsStrictlySortedBy
  brought_at q [] s = refl
  brought_at q (change ∷ changes) s =
      elim (g change) as (λ r. g change ≡ r → value_at q (cons_option r (filter_map g changes)) ≡ of_found g (change_in q (change ∷ changes))) [
        | None ↦ λ is. brought_at q changes s.1 ∙ elim (is_eq (path_cmp q change.path)) as (λ b. is_eq (path_cmp q change.path) ≡ b → of_found g (change_in q changes) ≡ of_found g (cond b (Some change) (change_in q changes))) [
          | true ↦ λ here.
              ap (of_found g) (none_before q changes (subst (λ (p : List Seg). IsBefore p (paths_in changes)) (sym (are_one q change.path here)) s.0))
              ∙ sym (ap row_value is)
          | false ↦ λ here. refl
        ] refl
        | Some row ↦ λ is.
            ap (λ p. cond (is_eq (path_cmp q p)) (Some row.value) (value_at q (filter_map g changes))) (of_path change row is)
            ∙ elim (is_eq (path_cmp q change.path)) as (λ b. cond b (Some row.value) (value_at q (filter_map g changes)) ≡ of_found g (cond b (Some change) (change_in q changes))) [
              | true ↦ sym (ap row_value is)
              | false ↦ brought_at q changes s.1
            ]
      ] refl

  brought_before : (p : List Seg) (changes : List ChangedRow) → IsBefore p (paths_in changes) → IsBefore p (map path_of (filter_map g changes))
  brought_before p [] all = tt
  brought_before p (change ∷ changes) all =
      elim (g change) as (λ r. g change ≡ r → IsBefore p (map path_of (cons_option r (filter_map g changes)))) [
        | None ↦ λ is. brought_before p changes all.1
        | Some row ↦ λ is. (ap (path_cmp p) (of_path change row is) ∙ all.0, brought_before p changes all.1)
      ] refl

  pub brought_order : (changes : List ChangedRow) → AreSorted changes → AreInOrder (filter_map g changes)
  unfolding IsStrictlySortedBy
  brought_order [] s = tt
  brought_order (change ∷ changes) s =
      elim (g change) as (λ r. g change ≡ r → AreInOrder (cons_option r (filter_map g changes))) [
        | None ↦ λ is. brought_order changes s.1
        | Some row ↦ λ is. (subst (λ (p : List Seg). IsBefore p (map path_of (filter_map g changes))) (sym (of_path change row is)) (brought_before change.path changes s.0), brought_order changes s.1)
      ] refl

  -- what is brought to rows that make others
  pub brought : (before after : List Row) (q : List Seg) → AreInOrder before → value_at q (filter_map g (changed_rows before after)) ≡ of_found g (change_of q (value_at q before) (value_at q after))
  brought before after q order = brought_at q (changed_rows before after) (changed_sorted before after order) ∙ ap (of_found g) (changed_at before after q)

with_path : (path : List Seg) (value : Option Value) (row : Row) → row_with path value ≡ Some row → row.path ≡ path
with_path path None row h = let no : None ≡ Some row = h in cc
with_path path (Some v) row h = let made : Row = record { path = path; value = v } in let same : made ≡ row = cc in ap (λ (r : Row). r.path) (sym same)

pub given_path : (change : ChangedRow) (row : Row) → given_row change ≡ Some row → row.path ≡ change.path
given_path change row h = with_path change.path (given_value change) row h

pub added_path : (change : ChangedRow) (row : Row) → added_row change ≡ Some row → row.path ≡ change.path
added_path change row h =
    elim (is_some change.old) as (λ b. cond b None (row_with change.path change.new) ≡ Some row → row.path ≡ change.path) [
      | true ↦ λ k. let no : None ≡ Some row = k in cc
      | false ↦ λ k. with_path change.path change.new row k
    ] h

-- ---- rows that are taken out

abbrev pub old_value : ChangedRow → Option Value
old_value change = change.old

abbrev pub new_value : ChangedRow → Option Value
new_value change = change.new

abbrev pub is_missing : (ChangedRow → Option Value) → Option ChangedRow → Bool
is_missing value None = false
is_missing value (Some change) = not (is_some (value change))

pub left_order : (value : ChangedRow → Option Value) (changes : List ChangedRow) (rows : List Row) → AreInOrder rows → AreInOrder (without_missing value changes rows)
left_order value [] rows order = order
left_order value (change ∷ changes) rows order =
    elim (is_some (value change)) as (λ b. AreInOrder (without_missing value changes (cond b rows (without_row change.path rows)))) [
      | true ↦ left_order value changes rows order
      | false ↦ left_order value changes (without_row change.path rows) (without_row_order change.path rows order)
    ]

none_kept : (b : Bool) (value : Option Value) → value ≡ None → cond b value value ≡ None
none_kept true value h = h
none_kept false value h = h

left_at : (value : ChangedRow → Option Value) (q : List Seg) (changes : List ChangedRow) (rows : List Row) → AreSorted changes → AreInOrder rows
    → value_at q (without_missing value changes rows) ≡ cond (is_missing value (change_in q changes)) None (value_at q rows)
unfolding IsStrictlySortedBy
left_at value q [] rows s order = refl
left_at value q (change ∷ changes) rows s order =
    let nothing_else : is_eq (path_cmp q change.path) ≡ true → change_in q changes ≡ None = λ here.
    none_before q changes (subst (λ (p : List Seg). IsBefore p (paths_in changes)) (sym (are_one q change.path here)) s.0) in
    elim (is_some (value change)) as (λ n. is_some (value change) ≡ n → value_at q (without_missing value changes (cond n rows (without_row change.path rows))) ≡ cond (is_missing value (change_in q (change ∷ changes))) None (value_at q rows)) [
      | true ↦ λ is. left_at value q changes rows s.1 order ∙ elim (is_eq (path_cmp q change.path)) as (λ b. is_eq (path_cmp q change.path) ≡ b → cond (is_missing value (change_in q changes)) None (value_at q rows) ≡ cond (is_missing value (cond b (Some change) (change_in q changes))) None (value_at q rows)) [
        | true ↦ λ here. ap (λ f. cond (is_missing value f) None (value_at q rows)) (nothing_else here) ∙ sym (ap (λ n. cond (not n) None (value_at q rows)) is)
        | false ↦ λ here. refl
      ] refl
      | false ↦ λ is.
          left_at value q changes (without_row change.path rows) s.1 (without_row_order change.path rows order)
          ∙ ap (cond (is_missing value (change_in q changes)) None) (value_at_without_row q change.path rows order)
          ∙ elim (is_eq (path_cmp q change.path)) as (λ b. is_eq (path_cmp q change.path) ≡ b → cond (is_missing value (change_in q changes)) None (cond b None (value_at q rows)) ≡ cond (is_missing value (cond b (Some change) (change_in q changes))) None (value_at q rows)) [
            | true ↦ λ here. none_kept (is_missing value (change_in q changes)) None refl ∙ sym (ap (λ n. cond (not n) None (value_at q rows)) is)
            | false ↦ λ here. refl
          ] refl
    ] refl

-- what is left of rows that make others
pub left : (value : ChangedRow → Option Value) (before after rows : List Row) (q : List Seg) → AreInOrder before → AreInOrder rows
    → value_at q (without_missing value (changed_rows before after) rows) ≡ cond (is_missing value (change_of q (value_at q before) (value_at q after))) None (value_at q rows)
left value before after rows q before_order order =
    left_at value q (changed_rows before after) rows (changed_sorted before after before_order) order ∙ ap (λ f. cond (is_missing value f) None (value_at q rows)) (changed_at before after q)

-- ---- changes that are made

-- what a change makes of a value
made_of : Option Value → Option ChangedRow → Option Value
made_of old change = cond (is_missing new_value change) None (option_or (of_found given_row change) (option_or (of_found added_row change) old))

made_new : (q : List Seg) (old new : Option Value) → made_of old (Some (record { path = q; old = old; new = new })) ≡ new
unfolding made_of
made_new q None None = refl
made_new q None (Some v) = refl
made_new q (Some o) None = refl
made_new q (Some o) (Some v) = refl

made_right : (q : List Seg) (old new : Option Value) → made_of old (change_of q old new) ≡ new
unfolding made_of
made_right q old new =
    elim (are_alike old new) as (λ b. are_alike old new ≡ b → made_of old (cond b None (Some (record { path = q; old = old; new = new }))) ≡ new) [
      | true ↦ λ h. alike_is old new h
      | false ↦ λ h. made_new q old new
    ] refl

abbrev pub committed : List ChangedRow → List Row → List Row
committed changes rows = without_missing new_value changes (put_rows (filter_map given_row changes) (put_rows (filter_map added_row changes) rows))

-- the rows that differ make one list the other
pub made_all : (before after : List Row) → AreInOrder before → AreInOrder after → committed (changed_rows before after) before ≡ after
unfolding made_of
made_all before after order after_order =
    let changes = changed_rows before after in
    let sorted = changed_sorted before after order in
    let added = filter_map added_row changes in
    let given = filter_map given_row changes in
    let first_order = puts_order added before order in
    let second_order = puts_order given (put_rows added before) first_order in
    same_rows (committed changes before) after (left_order new_value changes (put_rows given (put_rows added before)) second_order) after_order (λ q.
    left new_value before after (put_rows given (put_rows added before)) q order second_order
    ∙ ap (cond (is_missing new_value (change_of q (value_at q before) (value_at q after))) None) (
    value_at_puts q given (put_rows added before) (brought_order given_row given_path changes sorted)
    ∙ ap (option_or (value_at q given)) (value_at_puts q added before (brought_order added_row added_path changes sorted))
    ∙ (λ i. option_or (brought given_row given_path before after q order i) (option_or (brought added_row added_path before after q order i) (value_at q before))))
    ∙ made_right q (value_at q before) (value_at q after))

-- rows that differ by the same are the same
pub same_after : (before one other : List Row) → AreInOrder before → AreInOrder one → AreInOrder other → changed_rows before one ≡ changed_rows before other → one ≡ other
same_after before one other order one_order other_order same = sym (made_all before one order one_order) ∙ ap (λ (cs : List ChangedRow). committed cs before) same ∙ made_all before other order other_order
