-- What holds of windows of steps (RFC 8641 sections 3.7 and 3.9): the statements of the laws.
use Rattle.std.specs.Prelude.{◌≡◌, List, [], ◌∷◌, ◌++◌, Bool, true}
use Rattle.std.specs.List.{AllByRecursion}
use Rattle.yp_base.specs.declared.path.Seg.{Seg}
use Rattle.yp_base.specs.declared.row.Row.{Row}
use Rattle.yp_base.specs.declared.notice.Kinds.{Kinds}
use Rattle.yp_base.specs.Rows.{last_of, changed_by, rows_within}
use Rattle.yp_schema.specs.declared.schema.SchemaNode.{SchemaNode}
use Rattle.yp_schema.specs.WellFormed.{IsSchema}
use Rattle.yp_schema.specs.Datastore.{has_row, IsDatastore, AreWhole}
use Rattle.yp_filter.specs.Filters.{Asked}
use Rattle.yp_nacm.specs.Decision.{IsClosed}
use Rattle.yp_encode.specs.Sendable.{IsSendableChange}
use Rattle.yp_changes.specs.Records.{touched_paths, HasNone, window_record}
use Rattle.yp_kept.specs.Concealed.{AllReadable}
use Rattle.yp_kept.specs.Selection.{selection}
use Rattle.yp_touch.specs.declared.root.Root.{Root}
use Rattle.yp_touch.specs.Absorbed.{AreTopmost, paths_of, absorbed, all_absorbed, roots_since, recorded, selections, EndsAsRow}
use Rattle.yp_touch.specs.Concealed.{IsReadableChange}

-- roots that go from one selection of a window to the next are the topmost of all paths that were touched in it, as they were in its first selection
abbrev pub RootsAreOfTheWindow : Type 0
RootsAreOfTheWindow = (first : List Row) (later : List (List Row)) → all_absorbed [] first later ≡ roots_since first (touched_paths [] first later)

-- their record is the record of the window
abbrev pub RecordIsOfTheWindow : Type 0
RecordIsOfTheWindow = (excluded : Kinds) (first : List Row) (later : List (List Row)) → recorded excluded (all_absorbed [] first later) (last_of first later) ≡ window_record excluded first later

-- one more selection at the end is one more step
abbrev pub OneMoreStep : Type 0
OneMoreStep = (roots : List Root) (first : List Row) (later : List (List Row)) (next : List Row) → all_absorbed roots first (later ++ next ∷ []) ≡ absorbed (all_absorbed roots first later) (last_of first later) next

-- a step that touches nothing from nothing leaves roots that stand topmost as they are
abbrev pub StepsWithoutRootsLeave : Type 0
StepsWithoutRootsLeave = (roots : List Root) (before after : List Row) → AreTopmost (paths_of roots) → absorbed [] before after ≡ [] → absorbed roots before after ≡ roots

-- the roots of a window stand topmost
abbrev pub WindowsStandTopmost : Type 0
WindowsStandTopmost = (first : List Row) (later : List (List Row)) → AreTopmost (paths_of (all_absorbed [] first later))

-- where no kind is excluded, the record of a window leads from its first selection to its last
abbrev pub WindowsLead : Type 0
WindowsLead = (nodes : List SchemaNode) (asked : Asked) (readable : List Seg → Bool) (excluded : Kinds) (first : List Row) (later : List (List Row)) → IsSchema nodes → IsClosed readable → HasNone excluded
    → IsDatastore nodes first → AllByRecursion (IsDatastore nodes) later
    → changed_by (window_record excluded (selection nodes asked readable first) (selections nodes asked readable later)) (selection nodes asked readable first) ≡ selection nodes asked readable (last_of first later)

-- where no kind is excluded and the record is empty, nothing was touched
abbrev pub EmptyWindowsTouchNothing : Type 0
EmptyWindowsTouchNothing = (excluded : Kinds) (first : List Row) (later : List (List Row)) → HasNone excluded → window_record excluded first later ≡ [] → touched_paths [] first later ≡ []

-- each root ends as a row of the schema does, after a step where it did before
abbrev pub RootsEndAsRows : Type 0
RootsEndAsRows = (nodes : List SchemaNode) (roots : List Root) (before after : List Row) → IsDatastore nodes before → IsDatastore nodes after → AllByRecursion (EndsAsRow nodes) (paths_of roots) → AllByRecursion (EndsAsRow nodes) (paths_of (absorbed roots before after))

-- and after a window
abbrev pub WindowsEndAsRows : Type 0
WindowsEndAsRows = (nodes : List SchemaNode) (first : List Row) (later : List (List Row)) → IsDatastore nodes first → AllByRecursion (IsDatastore nodes) later → AllByRecursion (EndsAsRow nodes) (paths_of (all_absorbed [] first later))

-- each edit of the record of a window names only what may be read
abbrev pub WindowsConceal : Type 0
WindowsConceal = (readable : List Seg → Bool) (excluded : Kinds) (first : List Row) (later : List (List Row)) → AllReadable readable first → AllByRecursion (AllReadable readable) later → AllByRecursion (IsReadableChange readable) (window_record excluded first later)

-- each edit of the record of a window of datastores can be sent
abbrev pub WindowsCanBeSent : Type 0
WindowsCanBeSent = (nodes : List SchemaNode) (excluded : Kinds) (first : List Row) (later : List (List Row)) → IsDatastore nodes first → AllByRecursion (IsDatastore nodes) later → AllByRecursion (IsSendableChange nodes) (window_record excluded first later)

-- a datastore is whole at the top
abbrev pub DatastoresAreWhole : Type 0
DatastoresAreWhole = (nodes : List SchemaNode) (rows : List Row) → IsDatastore nodes rows → AreWhole nodes [] rows

-- and what it has at or below one of its rows is whole there
abbrev pub RowsAreWhole : Type 0
RowsAreWhole = (nodes : List SchemaNode) (rows : List Row) (at : List Seg) → IsDatastore nodes rows → has_row at rows ≡ true → AreWhole nodes at (rows_within at rows)
