-- Roots as they are kept from one step to the next: the topmost places at which a selection changed since its first state.
use Rattle.std.specs.Prelude.{◌≡◌, List, [], ◌∷◌, map, Bool, true, None, if◌then◌else◌}
use Rattle.std.specs.List.Sorted.{IsStrictlySortedBy}
use Rattle.std.specs.Ordering.{is_eq}
use Rattle.yp_base.specs.declared.path.Seg.{Seg}
use Rattle.yp_base.specs.declared.row.Value.{Value}
use Rattle.yp_base.specs.declared.row.Row.{Row}
use Rattle.yp_base.specs.declared.notice.Change.{Change}
use Rattle.yp_base.specs.declared.notice.ChangeKind.{ChangeKind}
use Rattle.yp_base.specs.declared.notice.ChangeKind.TheVariants as kinds
use Rattle.yp_base.specs.declared.notice.Kinds.{Kinds}
use Rattle.yp_base.specs.Order.{path_cmp}
use Rattle.yp_base.specs.Paths.{topmost}
use Rattle.yp_schema.specs.declared.schema.SchemaNode.{SchemaNode}
use Rattle.yp_schema.specs.Datastore.{has_row, goes_to_row}
use Rattle.yp_filter.specs.Filters.{Asked}
use Rattle.yp_kept.specs.Selection.{selection}
use Rattle.yp_changes.specs.Records.{carried_rows, changed_paths, put_paths, told}
use Rattle.yp_touch.specs.declared.root.Root.{Root}

-- paths with a flag for each, as roots
abbrev pub flagged : List (List Seg) → List Bool → List Root
flagged [] flags = []
flagged (path ∷ paths) [] = []
flagged (path ∷ paths) (flag ∷ flags) = record { path = path; was = flag } ∷ flagged paths flags

abbrev pub paths_of : List Root → List (List Seg)
paths_of roots = map (λ root. root.path) roots

-- a path as a root, by a test of whether it was in the selection
abbrev pub root_at : (List Seg → Bool) → List Seg → Root
root_at was path = record { path = path; was = was path }

-- paths in order, with none above another
pub record AreTopmost (paths : List (List Seg)) : Type 0 where
  pub in_order : IsStrictlySortedBy path_cmp paths
  pub topmost : topmost paths ≡ paths

-- whether a path was in the first selection: as its root tells, and where it is none, as it is before this step
abbrev pub was_in : List Root → List Row → List Seg → Bool
was_in [] before path = has_row path before
was_in (root ∷ roots) before path = if is_eq (path_cmp path root.path) then root.was else was_in roots before path

-- the roots after a step: the topmost of the roots and of the paths at which the two selections differ
abbrev pub absorbed : List Root → List Row → List Row → List Root
absorbed roots before after = map (root_at (was_in roots before)) (topmost (put_paths (changed_paths before after) (paths_of roots)))

-- the same from one selection of a window to the next
abbrev pub all_absorbed : List Root → List Row → List (List Row) → List Root
all_absorbed roots selected [] = roots
all_absorbed roots selected (next ∷ later) = all_absorbed (absorbed roots selected next) next later

-- the topmost of touched paths, as they were in the first selection
abbrev pub roots_since : List Row → List (List Seg) → List Root
roots_since first touched = map (root_at (λ path. has_row path first)) (topmost touched)

-- the operation of the edit of a root that was in the selection or not, and is now or not
abbrev pub kind_since : Bool → Bool → ChangeKind
kind_since was is = if is then (if was then kinds.Replace else kinds.Create) else kinds.Delete

-- the edit of a root: it is deleted where it isn't selected any more, created where it wasn't before, and replaced otherwise, with all that is selected at or below it
abbrev pub root_change : List Row → Root → Change
root_change new root = record { kind = kind_since root.was (has_row root.path new); target = root.path; rows = carried_rows new root.path; after = None }

-- the record of roots, without the edits of excluded kinds
abbrev pub recorded : Kinds → List Root → List Row → List Change
recorded excluded roots new = told excluded (map (root_change new) roots)

-- a path at which a row of some value may be
abbrev pub EndsAsRow : List SchemaNode → List Seg → Type 0
EndsAsRow nodes path = (value : Value) × (goes_to_row nodes None path value ≡ true)

-- what a filter selects for a reader of some datastores, one after another
abbrev pub selections : List SchemaNode → Asked → (List Seg → Bool) → List (List Row) → List (List Row)
selections nodes asked readable datastores = map (selection nodes asked readable) datastores
