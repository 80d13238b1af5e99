-- What a patch does to the rows of a datastore (RFC 8072 sections 2.2 and 2.5).
use Rattle.std.specs.Prelude.{ℕ, ◌+◌, List, [], ◌∷◌, length, map, Bool, not, ◌||◌, Option, Some, None, Result, Ok, Err, if◌then◌else◌, nat_lt}
use Rattle.std.specs.List.{list_all}
use Rattle.yp_base.specs.declared.path.Seg.{Seg}
use Rattle.yp_base.specs.declared.row.Row.{Row}
use Rattle.yp_base.specs.Results.{◌>>=◌}
use Rattle.yp_base.specs.Rows.{put_rows, has_within, rows_without}
use Rattle.yp_schema.specs.declared.schema.SchemaNode.{SchemaNode}
use Rattle.yp_schema.specs.Datastore.{ends_in_key, ends_in_entry, has_row}
use Rattle.yp_path.specs.declared.fault.PathFault.{PathFault}
use Rattle.yp_path.specs.declared.fault.PathFault.TheVariants as path
use Rattle.yp_path.specs.Targets.{target_in, target_text}
use Rattle.yp_data_json.specs.declared.fault.DataFault.{DataFault}
use Rattle.yp_data_json.specs.declared.fault.DataFault.TheVariants as data_fault
use Rattle.yp_data_json.specs.AtPath.{rows_read}
use Rattle.serde_json.specs.Data.{Data}
use Rattle.yp_edit.specs.declared.fault.Tag.{Tag}
use Rattle.yp_edit.specs.declared.fault.Tag.TheVariants.{UnknownElement, InvalidValue, DataMissing, DataExists, TooBig}
use Rattle.yp_edit.specs.declared.halt.Refusal.{Refusal}
use Rattle.yp_patch.specs.declared.patch.EditOp.{EditOp}
use Rattle.yp_patch.specs.declared.patch.EditOp.TheVariants.{Create, Delete, Insert, Merge, Move, Replace, Remove}
use Rattle.yp_patch.specs.declared.patch.Edit.{Edit}
use Rattle.yp_patch.specs.declared.patch.Patch.{Patch}
use Rattle.yp_changes.specs.declared.changed.ChangedRow.{ChangedRow}
use Rattle.yp_changes.specs.Changes.{changed_rows}

-- a refusal of this tag
abbrev pub refused : {A : Type 0} → Tag → Result A Refusal
refused tag = Err (record { tag = tag; path = None })

-- ---- what an edit names

abbrev pub path_tag : PathFault → Tag
path_tag path.Syntax = InvalidValue
path_tag path.UnknownNode = UnknownElement
path_tag path.KeyCount = InvalidValue
path_tag path.KeyValue = InvalidValue
path_tag path.Memory = InvalidValue

abbrev pub path_or : Result (List Seg) PathFault → Result (List Seg) Refusal
path_or (Ok x) = Ok x
path_or (Err e) = refused (path_tag e)

-- a path that ends in no key leaf; the refusal of one that does has its text
abbrev pub no_key : List SchemaNode → List Seg → Result (List Seg) Refusal
no_key nodes target = if ends_in_key nodes target then Err (record { tag = InvalidValue; path = Some (target_text nodes target) }) else Ok target

-- the path of a target
abbrev pub target_of : List SchemaNode → List ℕ → Result (List Seg) Refusal
target_of nodes text = path_or (target_in nodes text) >>= no_key nodes

abbrev pub data_tag : DataFault → Tag
data_tag data_fault.UnknownElement = UnknownElement
data_tag data_fault.InvalidValue = InvalidValue
data_tag data_fault.MissingKey = InvalidValue
data_tag data_fault.RepeatedKey = InvalidValue
data_tag data_fault.Memory = InvalidValue

abbrev pub rows_or : Result (List Row) DataFault → Result (List Row) Refusal
rows_or (Ok x) = Ok x
rows_or (Err e) = refused (data_tag e)

-- the rows of a value at a target; an edit that asks for a value and has none has a wrong one
abbrev pub value_rows : List SchemaNode → List Seg → Option Data → Result (List Row) Refusal
value_rows nodes target None = refused InvalidValue
value_rows nodes target (Some d) = rows_or (rows_read nodes target d)

-- ---- what stands in the datastore

-- the paths above a path, from the top down
abbrev pub paths_above : List Seg → List (List Seg)
paths_above [] = []
paths_above (seg ∷ segs) = [] ∷ map (λ above. seg ∷ above) (paths_above segs)

-- whether there is a row of a path, where it ends in a list entry or a presence container
abbrev pub has_its_row : List SchemaNode → List Row → List Seg → Bool
has_its_row nodes rows path = not (ends_in_entry nodes path) || has_row path rows

-- whether each list entry and presence container above a path has its row
abbrev pub stand_above : List SchemaNode → List Seg → List Row → Bool
stand_above nodes path rows = list_all (has_its_row nodes rows) (paths_above path)

-- the most rows that a datastore has
abbrev pub row_limit : ℕ
row_limit = 20000

abbrev pub within_limit : List Row → Result (List Row) Refusal
within_limit rows = if nat_lt row_limit (length rows) then refused TooBig else Ok rows

-- ---- edits

-- the rows that an edit brings to a target: those of its value, where what must stand above the target does
abbrev pub new_rows : List SchemaNode → List Seg → Option Data → List Row → Result (List Row) Refusal
new_rows nodes target value rows = value_rows nodes target value >>= λ new. if stand_above nodes target rows then Ok new else refused DataMissing

abbrev pub created : List Seg → List Row → List Row → Result (List Row) Refusal
created target new rows = if has_within target rows then refused DataExists else Ok (put_rows new rows)

abbrev pub deleted : List Seg → List Row → Result (List Row) Refusal
deleted target rows = if has_within target rows then Ok (rows_without target rows) else refused DataMissing

-- the rows after an edit of an operation at a target, or its refusal (RFC 8072 section 2.5); of two refusals the one that is named first stands
abbrev pub performed : EditOp → List SchemaNode → List Seg → Option Data → List Row → Result (List Row) Refusal
performed Create nodes target value rows = new_rows nodes target value rows >>= λ new. created target new rows
performed Merge nodes target value rows = new_rows nodes target value rows >>= λ new. Ok (put_rows new rows)
performed Replace nodes target value rows = new_rows nodes target value rows >>= λ new. Ok (put_rows new (rows_without target rows))
performed Delete nodes target value rows = deleted target rows
performed Remove nodes target value rows = Ok (rows_without target rows)
performed Insert nodes target value rows = refused InvalidValue
performed Move nodes target value rows = refused InvalidValue

-- the rows after an edit, or its refusal
abbrev pub edited : List SchemaNode → List Row → Edit → Result (List Row) Refusal
edited nodes rows edit = target_of nodes edit.target >>= λ target. performed edit.op nodes target edit.value rows >>= within_limit

-- ---- patches

-- the refusal of a patch: the number of the edit that is refused, counted from 0, its error, and the text of its target where that is a key leaf
pub record RefusedEdit : Type 0 where
  pub number : ℕ
  pub tag : Tag
  pub path : Option (List ℕ)

-- a refusal of the edit of this number
abbrev pub of_edit : {A : Type 0} → ℕ → Result A Refusal → Result A RefusedEdit
of_edit n (Ok x) = Ok x
of_edit n (Err refusal) = Err (record { number = n; tag = refusal.tag; path = refusal.path })

-- the rows after edits in order, the first of which has this number; the first refusal refuses them all
abbrev pub all_edited : List SchemaNode → ℕ → List Row → List Edit → Result (List Row) RefusedEdit
all_edited nodes n rows [] = Ok rows
all_edited nodes n rows (edit ∷ edits) = of_edit n (edited nodes rows edit) >>= λ after. all_edited nodes (n + 1) after edits

-- the rows after a patch, or the refusal of its first edit that is refused
abbrev pub applied : List SchemaNode → List Row → Patch → Result (List Row) RefusedEdit
applied nodes rows patch = all_edited nodes 0 rows patch.edits

-- the rows that a patch changes
abbrev pub changes_by : List SchemaNode → List Row → Patch → Result (List ChangedRow) RefusedEdit
changes_by nodes rows patch = applied nodes rows patch >>= λ after. Ok (changed_rows rows after)
