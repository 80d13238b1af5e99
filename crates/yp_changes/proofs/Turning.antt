-- Changes the other way round are those from the rows after to the rows before.
use Rattle.std.proofs.Common.{◌≡◌, List, [], ◌∷◌, map, refl, sym, ap, subst, ◌∙◌, cond, Bool, true, false, true≢false, Option, Some, None}
use Rattle.std.specs.Prelude.{option_map}
use Rattle.std.specs.List.Sorted.{IsStrictlySortedBy}
use Rattle.std.specs.Ordering.{is_eq}
use Rattle.yp_base.specs.declared.path.Seg.{Seg}
use Rattle.yp_base.specs.declared.row.Value.{Value}
use Rattle.yp_base.specs.declared.row.Row.{Row}
use Rattle.yp_base.specs.Order.{path_cmp}
use Rattle.yp_base.specs.Rows.{value_at, AreInOrder}
use Rattle.yp_changes.specs.declared.changed.ChangedRow.{ChangedRow}
use Rattle.yp_changes.specs.ChangeLaws.{paths_in, change_in, AreSorted, alike_itself, alike_is, no_change, same_changes, changed_at, changed_sorted}
use Rattle.yp_changes.specs.Changes.{are_alike, change_of, changed_rows, turned}

unlike : (old new : Option Value) → are_alike old new ≡ false → are_alike new old ≡ false
unlike old new h =
    elim (are_alike new old) as (λ b. are_alike new old ≡ b → b ≡ false) [
      | true ↦ λ k. absurd (true≢false (sym (ap (are_alike old) (alike_is new old k) ∙ alike_itself old) ∙ h))
      | false ↦ λ k. refl
    ] refl

turned_change : (q : List Seg) (old new : Option Value) → option_map turned (change_of q old new) ≡ change_of q new old
turned_change q old new =
    elim (are_alike old new) as (λ b. are_alike old new ≡ b → option_map turned (cond b None (Some (record { path = q; old = old; new = new }))) ≡ change_of q new old) [
      | true ↦ λ h. sym (no_change q new old (sym (alike_is old new h)))
      | false ↦ λ h. ap (λ b. cond b None (Some (record { path = q; old = new; new = old }))) (sym (unlike old new h))
    ] refl

turned_in : (q : List Seg) (changes : List ChangedRow) → change_in q (map turned changes) ≡ option_map turned (change_in q changes)
turned_in q [] = refl
turned_in q (change ∷ changes) =
    elim (is_eq (path_cmp q change.path)) as (λ b. cond b (Some (turned change)) (change_in q (map turned changes)) ≡ option_map turned (cond b (Some change) (change_in q changes))) [
      | true ↦ refl
      | false ↦ turned_in q changes
    ]

turned_paths : (changes : List ChangedRow) → paths_in (map turned changes) ≡ paths_in changes
turned_paths [] = refl
turned_paths (change ∷ changes) = ap (λ (paths : List (List Seg)). change.path ∷ paths) (turned_paths changes)

turned_sorted : (changes : List ChangedRow) → AreSorted changes → AreSorted (map turned changes)
turned_sorted changes sorted = subst (IsStrictlySortedBy path_cmp) (sym (turned_paths changes)) sorted

pub changes_turned : (before after : List Row) → AreInOrder before → AreInOrder after → map turned (changed_rows before after) ≡ changed_rows after before
changes_turned before after order after_order =
    same_changes (map turned (changed_rows before after)) (changed_rows after before) (turned_sorted (changed_rows before after) (changed_sorted before after order)) (changed_sorted after before after_order) (λ q.
    turned_in q (changed_rows before after)
    ∙ ap (option_map turned) (changed_at before after q)
    ∙ turned_change q (value_at q before) (value_at q after)
    ∙ sym (changed_at after before q))
