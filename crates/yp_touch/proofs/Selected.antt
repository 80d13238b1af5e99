-- How the rows that are selected of two lists differ.
use Rattle.std.proofs.Common.{◌≡◌, Bool, true, false, List, [], ◌∷◌, map, Option, Some, None, refl, sym, ap, subst, ◌∙◌, cond}
use Rattle.std.specs.Prelude.{filter}
use Rattle.std.specs.List.{filter_map, cons_option, AllByRecursion}
use Rattle.yp_base.specs.declared.path.Seg.{Seg}
use Rattle.yp_base.specs.declared.row.Value.{Value}
use Rattle.yp_base.specs.declared.row.Row.{Row}
use Rattle.yp_base.specs.Rows.{path_of, value_at, put_rows, AreInOrder}
use Rattle.yp_base.specs.RowLaws.{all_puts, paths_of_some, picked-puts}
use Rattle.yp_changes.specs.declared.changed.ChangedRow.{ChangedRow}
use Rattle.yp_changes.specs.Changes.{are_alike, change_of, row_change as change_at, changed_rows, paths_of_both}
use Rattle.yp_nacm.specs.Decision.{visible_rows}
use Rattle.yp_kept.specs.SelectionLaws.{value_selected}
use Rattle.yp_touch.specs.Looked.{IsBetween}

told : (path : List Seg) (old new : Option Value) (row : ChangedRow) → change_of path old new ≡ Some row → row ≡ record { path = path; old = old; new = new }
told path old new row is =
    elim (are_alike old new) as (λ b. cond b None (Some (record { path = path; old = old; new = new })) ≡ Some row → row ≡ record { path = path; old = old; new = new }) [
      | true ↦ λ h. let no : None ≡ Some row = h in cc
      | false ↦ λ h. let made : ChangedRow = record { path = path; old = old; new = new } in let same : made ≡ row = cc in sym same
    ] is

at_path : (old new : List Row) (path : List Seg) (row : ChangedRow) → change_at old new path ≡ Some row → row.path ≡ path
at_path old new path row is = ap (λ (r : ChangedRow). r.path) (told path (value_at path old) (value_at path new) row is)

between : (old new : List Row) (path : List Seg) (row : ChangedRow) → change_at old new path ≡ Some row → IsBetween old new row
between old new path row is =
    let made = told path (value_at path old) (value_at path new) row is in
    let here : path ≡ row.path = sym (at_path old new path row is) in
    record {
      before = ap (λ (r : ChangedRow). r.old) made ∙ ap (λ p. value_at p old) here;
      after = ap (λ (r : ChangedRow). r.new) made ∙ ap (λ p. value_at p new) here;
    }

all_found : (old new : List Row) (paths : List (List Seg)) → AllByRecursion (IsBetween old new) (filter_map (change_at old new) paths)
all_found old new [] = tt
all_found old new (path ∷ paths) =
    elim (change_at old new path) as (λ r. change_at old new path ≡ r → AllByRecursion (IsBetween old new) (cons_option r (filter_map (change_at old new) paths))) [
      | None ↦ λ is. all_found old new paths
      | Some row ↦ λ is. (between old new path row is, all_found old new paths)
    ] refl

-- each row that differs has its values in the two lists
pub all_between : (old new : List Row) → AllByRecursion (IsBetween old new) (changed_rows old new)
all_between old new = all_found old new (paths_of_both old new)

paths_found : (P : List Seg → Type 0) (old new : List Row) (paths : List (List Seg)) → AllByRecursion P paths → AllByRecursion (λ row. P row.path) (filter_map (change_at old new) paths)
paths_found P old new [] all = tt
paths_found P old new (path ∷ paths) all =
    elim (change_at old new path) as (λ r. change_at old new path ≡ r → AllByRecursion (λ row. P row.path) (cons_option r (filter_map (change_at old new) paths))) [
      | None ↦ λ is. paths_found P old new paths all.1
      | Some row ↦ λ is. (subst P (sym (at_path old new path row is)) all.0, paths_found P old new paths all.1)
    ] refl

path_of_each : (P : List Seg → Type 0) (rows : List Row) → AllByRecursion (λ row. P row.path) rows → AllByRecursion P (map path_of rows)
path_of_each P [] all = tt
path_of_each P (row ∷ rows) all = (all.0, path_of_each P rows all.1)

-- what holds of the paths of both lists holds of the paths of the rows that differ
pub changed_paths_keep : (P : List Seg → Type 0) (old new : List Row) → AllByRecursion (λ row. P row.path) old → AllByRecursion (λ row. P row.path) new → AllByRecursion (λ row. P row.path) (changed_rows old new)
changed_paths_keep P old new all_old all_new =
    paths_found P old new (paths_of_both old new) (path_of_each P (put_rows new old) (all_puts (λ row. P row.path) new old all_new all_old))

module _ (readable : List Seg → Bool) where
  -- the value at a path that may be read
  pub value_readable : (path : List Seg) (rows : List Row) → readable path ≡ true → value_at path (visible_rows readable rows) ≡ value_at path rows
  value_readable path rows is = value_selected readable path rows ∙ ap (λ b. cond b (value_at path rows) None) is

  -- the changed rows that may be read
  abbrev pub chosen : List ChangedRow → List ChangedRow
  chosen rows = filter (λ row. readable row.path) rows

  same_found : (f g : List Seg → Option ChangedRow) → ((path : List Seg) → readable path ≡ true → f path ≡ g path) → (paths : List (List Seg)) → filter_map f (filter readable paths) ≡ filter_map g (filter readable paths)
  same_found f g same [] = refl
  same_found f g same (path ∷ paths) =
      elim (readable path) as (λ b. readable path ≡ b → filter_map f (cond b (path ∷ filter readable paths) (filter readable paths)) ≡ filter_map g (cond b (path ∷ filter readable paths) (filter readable paths))) [
        | true ↦ λ h. (λ i. cons_option (same path h i) (same_found f g same paths i))
        | false ↦ λ h. same_found f g same paths
      ] refl

  found_chosen : (f : List Seg → Option ChangedRow) → ((path : List Seg) (row : ChangedRow) → f path ≡ Some row → row.path ≡ path) → (paths : List (List Seg)) → filter_map f (filter readable paths) ≡ chosen (filter_map f paths)
  found_chosen f of_path [] = refl
  found_chosen f of_path (path ∷ paths) =
      elim (readable path) as (λ b. readable path ≡ b → filter_map f (cond b (path ∷ filter readable paths) (filter readable paths)) ≡ chosen (cons_option (f path) (filter_map f paths))) [
        | true ↦ λ h. elim (f path) as (λ r. f path ≡ r → cons_option r (filter_map f (filter readable paths)) ≡ chosen (cons_option r (filter_map f paths))) [
          | None ↦ λ is. found_chosen f of_path paths
          | Some row ↦ λ is.
              ap (λ (rows : List ChangedRow). row ∷ rows) (found_chosen f of_path paths)
              ∙ sym (ap (λ b. cond b (row ∷ chosen (filter_map f paths)) (chosen (filter_map f paths))) (ap readable (of_path path row is) ∙ h))
        ] refl
        | false ↦ λ h. elim (f path) as (λ r. f path ≡ r → filter_map f (filter readable paths) ≡ chosen (cons_option r (filter_map f paths))) [
          | None ↦ λ is. found_chosen f of_path paths
          | Some row ↦ λ is.
              found_chosen f of_path paths
              ∙ sym (ap (λ b. cond b (row ∷ chosen (filter_map f paths)) (chosen (filter_map f paths))) (ap readable (of_path path row is) ∙ h))
        ] refl
      ] refl

  -- the rows that differ between two selections are those, of all that differ, that may be read
  pub changed_selected : (old new : List Row) → AreInOrder old → changed_rows (visible_rows readable old) (visible_rows readable new) ≡ chosen (changed_rows old new)
  changed_selected old new order =
      let both : paths_of_both (visible_rows readable old) (visible_rows readable new) ≡ filter readable (paths_of_both old new) =
      ap (map path_of) (sym (picked-puts readable new old order)) ∙ paths_of_some readable (put_rows new old) in
      ap (filter_map (change_at (visible_rows readable old) (visible_rows readable new))) both
      ∙ same_found (change_at (visible_rows readable old) (visible_rows readable new)) (change_at old new) (λ path is. (λ i. change_of path (value_readable path old is i) (value_readable path new is i))) (paths_of_both old new)
      ∙ found_chosen (change_at old new) (at_path old new) (paths_of_both old new)
