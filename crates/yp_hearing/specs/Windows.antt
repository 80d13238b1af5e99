-- Which datastores, and which edits, can be heard again from lines: those whose texts are UTF-8.
use Rattle.std.specs.Prelude.{List}
use Rattle.std.specs.List.{AllByRecursion}
use Rattle.yp_base.specs.declared.notice.Change.{Change}
use Rattle.yp_base.specs.declared.notice.Kinds.{Kinds}
use Rattle.yp_base.specs.declared.row.Row.{Row}
use Rattle.yp_schema.specs.declared.schema.SchemaNode.{SchemaNode}
use Rattle.yp_schema.specs.Datastore.{IsDatastore}
use Rattle.yp_changes.specs.Records.{window_record}
use Rattle.yp_receiver.specs.Hearable.{IsHearableChange}
use Rattle.yp_receiver.specs.Readable.{HaveTexts}

-- a datastore whose texts are UTF-8
pub record HasOwnTexts (nodes : List SchemaNode) (rows : List Row) : Type 0 where
  pub datastore : IsDatastore nodes rows
  pub texts : HaveTexts rows

-- an edit that is heard again, whose rows have such texts
abbrev pub CanBeHeard : List SchemaNode → Change → Type 0
CanBeHeard nodes change = IsHearableChange nodes change × HaveTexts change.rows

-- each edit of the record of a window of such datastores is heard again
abbrev pub WindowsAreHeard : Type 0
WindowsAreHeard = (nodes : List SchemaNode) (excluded : Kinds) (first : List Row) (later : List (List Row)) → HasOwnTexts nodes first → AllByRecursion (HasOwnTexts nodes) later
    → AllByRecursion (CanBeHeard nodes) (window_record excluded first later)
