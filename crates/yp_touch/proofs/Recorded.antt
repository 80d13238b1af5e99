-- The edits of the topmost changed rows that may be read are the record of a step.
use Rattle.std.proofs.Common.{◌≡◌, Bool, true, false, not, ◌&&◌, List, [], ◌∷◌, map, Option, Some, None, refl, sym, ap, ◌∙◌, cond}
use Rattle.std.specs.List.{AllByRecursion}
use Rattle.yp_base.specs.declared.path.Seg.{Seg}
use Rattle.yp_base.specs.declared.row.Row.{Row}
use Rattle.yp_base.specs.Rows.{AreInOrder, value_at}
use Rattle.yp_base.specs.RowLaws.{some_keep_order}
use Rattle.yp_nacm.specs.Decision.{visible_rows}
use Rattle.yp_changes.specs.declared.changed.ChangedRow.{ChangedRow}
use Rattle.yp_changes.specs.Changes.{changed_rows}
use Rattle.yp_changes.specs.ChangeLaws.{paths_in, changed_sorted}
use Rattle.yp_base.specs.Paths.{topmost as roots_of, is_covered}
use Rattle.yp_changes.specs.Records.{change_at, changed_paths, change_record}
use Rattle.yp_touch.specs.Looked.{IsBetween}
use Rattle.yp_touch.specs.Roots.{row_edit}
use Rattle.yp_touch.proofs.Selected.{all_between, value_readable, chosen, changed_selected}
use Rattle.yp_touch.proofs.Topmost.{tops, roots_found}

module _ (readable : List Seg → Bool) where
  -- the changed rows that may be read and that no other such row is above, where a root was found before
  abbrev pub topmost : Option (List Seg) → List ChangedRow → List ChangedRow
  topmost root [] = []
  topmost root (row ∷ rows) = cond (readable row.path && not (is_covered root row.path)) (row ∷ topmost (Some row.path) rows) (topmost root rows)

  paths_topmost : (root : Option (List Seg)) (rows : List ChangedRow) → paths_in (topmost root rows) ≡ tops root (paths_in (chosen readable rows))
  paths_topmost root [] = refl
  paths_topmost root (row ∷ rows) =
      elim (readable row.path) as (λ b. paths_in (cond (b && not (is_covered root row.path)) (row ∷ topmost (Some row.path) rows) (topmost root rows)) ≡ tops root (paths_in (cond b (row ∷ chosen readable rows) (chosen readable rows)))) [
        | true ↦ elim (is_covered root row.path) as (λ k. paths_in (cond (not k) (row ∷ topmost (Some row.path) rows) (topmost root rows)) ≡ cond k (tops root (paths_in (chosen readable rows))) (row.path ∷ tops (Some row.path) (paths_in (chosen readable rows)))) [
          | true ↦ paths_topmost root rows
          | false ↦ ap (λ (paths : List (List Seg)). row.path ∷ paths) (paths_topmost (Some row.path) rows)
        ]
        | false ↦ paths_topmost root rows
      ]

  one_edit : (old new : List Row) (row : ChangedRow) → readable row.path ≡ true → IsBetween old new row → change_at (visible_rows readable old) (visible_rows readable new) row.path ≡ row_edit (visible_rows readable new) row
  one_edit old new row may values =
      let before : value_at row.path (visible_rows readable old) ≡ row.old = value_readable readable row.path old may ∙ sym values.before in
      let after : value_at row.path (visible_rows readable new) ≡ row.new = value_readable readable row.path new may ∙ sym values.after in
      λ i. row_edit (visible_rows readable new) (record { path = row.path; old = before i; new = after i })

  edits_of : (old new : List Row) (root : Option (List Seg)) (rows : List ChangedRow) → AllByRecursion (IsBetween old new) rows
      → map (change_at (visible_rows readable old) (visible_rows readable new)) (paths_in (topmost root rows)) ≡ map (row_edit (visible_rows readable new)) (topmost root rows)
  edits_of old new root [] all = refl
  edits_of old new root (row ∷ rows) all =
      let change = change_at (visible_rows readable old) (visible_rows readable new) in
      let edit = row_edit (visible_rows readable new) in
      elim (readable row.path) as (λ b. readable row.path ≡ b → map change (paths_in (cond (b && not (is_covered root row.path)) (row ∷ topmost (Some row.path) rows) (topmost root rows))) ≡ map edit (cond (b && not (is_covered root row.path)) (row ∷ topmost (Some row.path) rows) (topmost root rows))) [
        | true ↦ λ may. elim (is_covered root row.path) as (λ k. map change (paths_in (cond (not k) (row ∷ topmost (Some row.path) rows) (topmost root rows))) ≡ map edit (cond (not k) (row ∷ topmost (Some row.path) rows) (topmost root rows))) [
          | true ↦ edits_of old new root rows all.1
          | false ↦ (λ i. one_edit old new row may all.0 i ∷ edits_of old new (Some row.path) rows all.1 i)
        ]
        | false ↦ λ may. edits_of old new root rows all.1
      ] refl

  -- the edits of the topmost changed rows that may be read are the record of the two selections
  pub recorded : (old new : List Row) → AreInOrder old → map (row_edit (visible_rows readable new)) (topmost None (changed_rows old new)) ≡ change_record (visible_rows readable old) (visible_rows readable new)
  recorded old new order =
      let change = change_at (visible_rows readable old) (visible_rows readable new) in
      let paths : changed_paths (visible_rows readable old) (visible_rows readable new) ≡ paths_in (chosen readable (changed_rows old new)) = ap paths_in (changed_selected readable old new order) in
      let roots : roots_of (changed_paths (visible_rows readable old) (visible_rows readable new)) ≡ paths_in (topmost None (changed_rows old new)) =
      roots_found (changed_paths (visible_rows readable old) (visible_rows readable new)) (changed_sorted (visible_rows readable old) (visible_rows readable new) (some_keep_order readable old order))
      ∙ ap (tops None) paths
      ∙ sym (paths_topmost None (changed_rows old new)) in
      sym (edits_of old new None (changed_rows old new) (all_between old new)) ∙ ap (map change) (sym roots)
