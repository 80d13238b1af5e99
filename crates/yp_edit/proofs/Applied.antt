-- Rows in order stay in order under a patch, and the rows that differ are those before it and after it.
use Rattle.std.proofs.Common.{◌≡◌, ℕ, ◌+◌, List, [], ◌∷◌, refl, sym, ap, ◌∙◌, cond, Bool, true, false, Option}
use Rattle.std.specs.Prelude.{Result, Ok, Err, IfOk, nat_lt, length}
use Rattle.yp_base.specs.declared.path.Seg.{Seg}
use Rattle.yp_base.specs.declared.row.Row.{Row}
use Rattle.yp_base.specs.Rows.{rows_without, has_within, AreInOrder}
use Rattle.yp_base.specs.RowLaws.{puts_order, without_keeps_order}
use Rattle.yp_schema.specs.declared.schema.SchemaNode.{SchemaNode}
use Rattle.serde_json.specs.Data.{Data}
use Rattle.yp_edit.specs.declared.halt.Refusal.{Refusal}
use Rattle.yp_patch.specs.declared.patch.EditOp.{EditOp}
use Rattle.yp_patch.specs.declared.patch.EditOp.TheVariants.{Create, Delete, Insert, Merge, Move, Replace, Remove}
use Rattle.yp_patch.specs.declared.patch.Edit.{Edit}
use Rattle.yp_patch.specs.declared.patch.Patch.{Patch}
use Rattle.yp_changes.specs.declared.changed.ChangedRow.{ChangedRow}
use Rattle.yp_changes.specs.Changes.{changed_rows}
use Rattle.yp_changes.specs.Commits.{Differ}
use Rattle.yp_base.specs.Results.{◌>>=◌}
use Rattle.yp_edit.specs.Patches.{RefusedEdit, target_of, new_rows, within_limit, row_limit, performed, edited, of_edit, all_edited, applied, changes_by}
use Rattle.yp_changes.specs.CommitLaws.{same_after}

-- ---- order

pub then_ok : {A B F : Type 0} (P : A → Type 0) (Q : B → Type 0) (r : Result A F) (f : A → Result B F) → IfOk r P → ((x : A) → P x → IfOk (f x) Q) → IfOk (r >>= f) Q
then_ok P Q (Ok x) f h k = k x h
then_ok P Q (Err e) f h k = tt

any_ok : {A F : Type 0} (r : Result A F) → IfOk r (λ x. Unit {0})
any_ok (Ok x) = tt
any_ok (Err e) = tt

pub choice_ok : {A F : Type 0} (P : A → Type 0) (b : Bool) (r s : Result A F) → IfOk r P → IfOk s P → IfOk (cond b r s) P
choice_ok P true r s h k = h
choice_ok P false r s h k = k

by_order : (op : EditOp) (nodes : List SchemaNode) (target : List Seg) (value : Option Data) (rows : List Row) → AreInOrder rows → IfOk (performed op nodes target value rows) AreInOrder
by_order Create nodes target value rows order =
    then_ok (λ x. Unit {0}) AreInOrder (new_rows nodes target value rows) _ (any_ok (new_rows nodes target value rows)) (λ new u. choice_ok AreInOrder (has_within target rows) _ _ tt (puts_order new rows order))
by_order Merge nodes target value rows order =
    then_ok (λ x. Unit {0}) AreInOrder (new_rows nodes target value rows) _ (any_ok (new_rows nodes target value rows)) (λ new u. puts_order new rows order)
by_order Replace nodes target value rows order =
    then_ok (λ x. Unit {0}) AreInOrder (new_rows nodes target value rows) _ (any_ok (new_rows nodes target value rows)) (λ new u. puts_order new (rows_without target rows) (without_keeps_order target rows order))
by_order Delete nodes target value rows order = choice_ok AreInOrder (has_within target rows) _ _ (without_keeps_order target rows order) tt
by_order Remove nodes target value rows order = without_keeps_order target rows order
by_order Insert nodes target value rows order = tt
by_order Move nodes target value rows order = tt

edit_order : (nodes : List SchemaNode) (rows : List Row) (edit : Edit) → AreInOrder rows → IfOk (edited nodes rows edit) AreInOrder
edit_order nodes rows edit order =
    then_ok (λ x. Unit {0}) AreInOrder (target_of nodes edit.target) _ (any_ok (target_of nodes edit.target)) (λ target u.
    then_ok AreInOrder AreInOrder (performed edit.op nodes target edit.value rows) within_limit (by_order edit.op nodes target edit.value rows order)
    (λ x h. choice_ok AreInOrder (nat_lt row_limit (length x)) _ _ tt h))

pub numbered_ok : {A : Type 0} (P : A → Type 0) (n : ℕ) (r : Result A Refusal) → IfOk r P → IfOk (of_edit n r) P
numbered_ok P n (Ok x) h = h
numbered_ok P n (Err e) h = tt

all_order : (nodes : List SchemaNode) (n : ℕ) (rows : List Row) (edits : List Edit) → AreInOrder rows → IfOk (all_edited nodes n rows edits) AreInOrder
all_order nodes n rows [] order = order
all_order nodes n rows (edit ∷ edits) order =
    then_ok AreInOrder AreInOrder (of_edit n (edited nodes rows edit)) _ (numbered_ok AreInOrder n (edited nodes rows edit) (edit_order nodes rows edit order)) (λ x h. all_order nodes (n + 1) x edits h)

-- ---- a patch

-- the rows after a patch that is applied
pub record Outcome (nodes : List SchemaNode) (rows : List Row) (patch : Patch) (changes : List ChangedRow) : Type 0 where
  pub after : List Row
  pub is : applied nodes rows patch ≡ Ok after
  pub differ : Differ changes rows after

abbrev answered : List ChangedRow → Result (List ChangedRow) RefusedEdit
answered changes = Ok changes

same_answer : (a b : List ChangedRow) → answered a ≡ answered b → a ≡ b
same_answer a b e = cc

outcome_at : (r : Result (List Row) RefusedEdit) (nodes : List SchemaNode) (rows : List Row) (patch : Patch) (changes : List ChangedRow) → applied nodes rows patch ≡ r → IfOk r AreInOrder → (r >>= λ after. Ok (changed_rows rows after)) ≡ Ok changes → Outcome nodes rows patch changes
outcome_at (Ok after) nodes rows patch changes is order h = record { after = after; is = is; differ = record { in_order = order; changed = sym (same_answer (changed_rows rows after) changes h) } }
outcome_at (Err e) nodes rows patch changes is order h = let left : Result (List ChangedRow) RefusedEdit = Err e in let right : Result (List ChangedRow) RefusedEdit = Ok changes in let no : left ≡ right = h in cc

outcome : (nodes : List SchemaNode) (rows : List Row) (patch : Patch) (changes : List ChangedRow) → AreInOrder rows → changes_by nodes rows patch ≡ Ok changes → Outcome nodes rows patch changes
outcome nodes rows patch changes order h = outcome_at (applied nodes rows patch) nodes rows patch changes refl (all_order nodes 0 rows patch.edits order) h

-- the changes of a patch make the rows after it
pub patch_changes : (nodes : List SchemaNode) (rows : List Row) (patch : Patch) (changes : List ChangedRow) → AreInOrder rows → changes_by nodes rows patch ≡ Ok changes → (after : List Row) × Differ changes rows after
patch_changes nodes rows patch changes order h = let out = outcome nodes rows patch changes order h in (out.after, out.differ)

-- and no others
pub patch_made : (nodes : List SchemaNode) (rows new : List Row) (patch : Patch) (changes : List ChangedRow) → AreInOrder rows → changes_by nodes rows patch ≡ Ok changes → Differ changes rows new → applied nodes rows patch ≡ Ok new
patch_made nodes rows new patch changes order h differ =
    let out = outcome nodes rows patch changes order h in
    out.is ∙ ap (λ (after : List Row). Ok after) (same_after rows out.after new order out.differ.in_order differ.in_order (sym out.differ.changed ∙ differ.changed))
