-- The edit that a refusal names.
use Rattle.std.proofs.Common.{◌≡◌, ℕ, ◌+◌, ◌<◌, List, [], ◌∷◌, length, refl, ap, ◌∙◌, arith}
use Rattle.std.specs.Prelude.{Result, Ok, Err}
use Rattle.yp_base.specs.declared.row.Row.{Row}
use Rattle.yp_schema.specs.declared.schema.SchemaNode.{SchemaNode}
use Rattle.yp_changes.specs.declared.changed.ChangedRow.{ChangedRow}
use Rattle.yp_edit.specs.declared.fault.EditFault.{EditFault}
use Rattle.yp_edit.specs.declared.fault.EditFault.TheVariants.{Refused, Memory}
use Rattle.yp_patch.specs.declared.patch.Edit.{Edit}
use Rattle.yp_patch.specs.declared.patch.Patch.{Patch}
use Rattle.yp_edit.specs.Answers.{SaysAll, NamesOneOf}
use Rattle.yp_changes.specs.Changes.{changed_rows}
use Rattle.yp_base.specs.Results.{◌>>=◌}
use Rattle.yp_edit.specs.Patches.{RefusedEdit, of_edit, edited, all_edited, applied, changes_by}

-- the number of the refused edit is that of one of the edits
number_within : (nodes : List SchemaNode) (n : ℕ) (rows : List Row) (edits : List Edit) (refusal : RefusedEdit) → all_edited nodes n rows edits ≡ Err refusal → refusal.number < n + length edits
number_within nodes n rows [] refusal h = let never : Ok rows ≡ Err refusal = h in cc
number_within nodes n rows (edit ∷ edits) refusal h =
    elim (edited nodes rows edit) as (λ r. (of_edit n r >>= λ after. all_edited nodes (n + 1) after edits) ≡ Err refusal → refusal.number < n + length (edit ∷ edits)) [
      | Ok after ↦ λ g. let rest : refusal.number < n + 1 + length edits = number_within nodes (n + 1) after edits refusal g in omega arith
      | Err why ↦ λ g. let same : n ≡ refusal.number = cc in omega arith
    ] h

refused : RefusedEdit → Result (List Row) RefusedEdit
refused refusal = Err refusal

-- a patch's refusal names one of its edits
pub names_one : (nodes : List SchemaNode) (rows : List Row) (patch : Patch) (result : Result (List ChangedRow) EditFault) → SaysAll result (changes_by nodes rows patch) → NamesOneOf result (length patch.edits)
unfolding refused
names_one nodes rows patch (Ok changes) says = tt
names_one nodes rows patch (Err Memory) says = tt
names_one nodes rows patch (Err (Refused number tag path)) says =
    let refusal : RefusedEdit = record { number = number; tag = tag; path = path } in
    elim (applied nodes rows patch) as (λ r. applied nodes rows patch ≡ r → (r >>= λ after. Ok (changed_rows rows after)) ≡ Err refusal → number < length patch.edits) [
      | Ok after ↦ λ is h. let never : Ok (changed_rows rows after) ≡ Err refusal = h in cc
      | Err why ↦ λ is h.
          let same : why ≡ refusal = cc in
          let within : number < 0 + length patch.edits = number_within nodes 0 rows patch.edits refusal (is ∙ ap refused same) in
          omega arith
    ] refl says
