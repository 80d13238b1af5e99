-- The edits of changed rows, made one after another.
use Rattle.std.proofs.Common.{◌≡◌, Bool, true, List, [], ◌∷◌, ◌++◌, map, Option, None, refl, sym, ap, subst, ◌∙◌, append-nil}
use Rattle.std.specs.List.{AllByRecursion}
use Rattle.yp_base.specs.declared.path.Seg.{Seg}
use Rattle.yp_base.specs.declared.row.Row.{Row}
use Rattle.yp_base.specs.declared.notice.Change.{Change}
use Rattle.yp_base.specs.Rows.{value_at}
use Rattle.yp_schema.specs.declared.schema.SchemaNode.{SchemaNode}
use Rattle.yp_schema.specs.Datastore.{is_path_of, IsDatastore}
use Rattle.yp_changes.specs.declared.changed.ChangedRow.{ChangedRow}
use Rattle.yp_changes.specs.Changes.{changed_rows}
use Rattle.yp_nacm.specs.Decision.{visible_rows}
use Rattle.yp_changes.specs.Records.{change_record}
use Rattle.yp_touch.specs.Looked.{IsBetween}
use Rattle.yp_touch.specs.Roots.{row_edit}
use Rattle.yp_touch.specs.RecordLaws.{have_paths}
use Rattle.yp_touch.proofs.Recorded.{topmost, recorded}
use Rattle.yp_touch.proofs.Selected.{all_between, changed_paths_keep}

-- a changed row of a schema, with its value afterwards
pub record IsChangeTo (nodes : List SchemaNode) (rows : List Row) (row : ChangedRow) : Type 0 where
  pub path : is_path_of nodes row.path ≡ true
  pub value : row.new ≡ value_at row.path rows

each_change : (nodes : List SchemaNode) (old new : List Row) (rows : List ChangedRow) → AllByRecursion (λ row. is_path_of nodes row.path ≡ true) rows → AllByRecursion (IsBetween old new) rows → AllByRecursion (IsChangeTo nodes new) rows
each_change nodes old new [] paths values = tt
each_change nodes old new (row ∷ rows) paths values = (record { path = paths.0; value = values.0.after }, each_change nodes old new rows paths.1 values.1)

-- the rows that differ between two datastores are such
pub changes_to : (nodes : List SchemaNode) (before rows : List Row) (changed : List ChangedRow) → IsDatastore nodes before → IsDatastore nodes rows → changed ≡ changed_rows before rows → AllByRecursion (IsChangeTo nodes rows) changed
changes_to nodes before rows changed old new are =
    subst (λ (changed : List ChangedRow). AllByRecursion (IsChangeTo nodes rows) changed) (sym are)
    (each_change nodes before rows (changed_rows before rows)
    (changed_paths_keep (λ path. is_path_of nodes path ≡ true) before rows (have_paths nodes before old.of_schema) (have_paths nodes rows new.of_schema))
    (all_between before rows))

-- the edits that are made of a selection where a root was found before
abbrev pub edits_from : (List Seg → Bool) → List Row → Option (List Seg) → List ChangedRow → List Change
edits_from readable selected root rows = map (row_edit selected) (topmost readable root rows)

-- ---- one after another

-- edits made so far, where a root was found last and these rows of all changed ones are left
pub record Makes (nodes : List SchemaNode) (readable : List Seg → Bool) (rows : List Row) (changed left : List ChangedRow) (root : Option (List Seg)) (made : List Change) : Type 0 where
  pub changes : AllByRecursion (IsChangeTo nodes rows) left
  pub edits : made ++ edits_from readable (visible_rows readable rows) root left ≡ edits_from readable (visible_rows readable rows) None changed

module _ (nodes : List SchemaNode) (readable : List Seg → Bool) (rows : List Row) (changed : List ChangedRow) where
  -- before the first row
  pub none_made : (made : List Change) → made ≡ [] → AllByRecursion (IsChangeTo nodes rows) changed → Makes nodes readable rows changed changed None made
  none_made made none all = subst (λ (made : List Change). Makes nodes readable rows changed changed None made) (sym none) (record { changes = all; edits = refl })

  -- the edits of all changed rows are the record
  pub all_made : (before : List Row) (left : List ChangedRow) (root : Option (List Seg)) (made : List Change) → Makes nodes readable rows changed left root made → left ≡ [] → IsDatastore nodes before → changed ≡ changed_rows before rows
      → made ≡ change_record (visible_rows readable before) (visible_rows readable rows)
  all_made before left root made so_far none old are =
      sym (append-nil made)
      ∙ ap (λ left. made ++ edits_from readable (visible_rows readable rows) root left) (sym none)
      ∙ so_far.edits
      ∙ ap (edits_from readable (visible_rows readable rows) None) are
      ∙ recorded readable before rows old.in_order
