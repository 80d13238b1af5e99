-- Which notices can be sent.
use Rattle.std.specs.Prelude.{◌≡◌, List, [], Bool, true, false, None}
use Rattle.std.specs.List.{AllByRecursion}
use Rattle.yp_base.specs.declared.notice.ChangeKind.{ChangeKind}
use Rattle.yp_base.specs.declared.notice.ChangeKind.TheVariants.{Create, Delete, Insert, Move, Replace}
use Rattle.yp_base.specs.declared.notice.Change.{Change}
use Rattle.yp_base.specs.declared.notice.Notice.{Notice}
use Rattle.yp_base.specs.declared.notice.Notice.TheVariants.{Full, Changes, Started, Modified, Suspended, Resumed, Terminated}
use Rattle.yp_base.specs.declared.path.Seg.{Seg}
use Rattle.yp_base.specs.declared.row.Row.{Row}
use Rattle.yp_schema.specs.declared.schema.SchemaNode.{SchemaNode}
use Rattle.yp_schema.specs.Datastore.{is_path_of, AreWritable}
use Rattle.yp_encode.specs.Lines.{carries_value}

-- what carries a value has rows that can be written at its target, and what carries none has no rows
abbrev pub HasRows : List SchemaNode → Bool → List Seg → List Row → Type 0
HasRows nodes true target rows = AreWritable nodes target rows
HasRows nodes false target rows = rows ≡ []

-- lists that the user orders are not served, so nothing is inserted or moved
abbrev pub is_served : ChangeKind → Bool
is_served Create = true
is_served Delete = true
is_served Insert = false
is_served Move = false
is_served Replace = true

pub record IsSendableChange (nodes : List SchemaNode) (change : Change) : Type 0 where
  pub served : is_served change.kind ≡ true
  pub target : is_path_of nodes change.target ≡ true
  pub rows : HasRows nodes (carries_value change.kind) change.target change.rows
  pub after : change.after ≡ None

-- a full update has rows that can be written at the top, and each change of a change update can be sent
abbrev pub IsSendable : List SchemaNode → Notice → Type 0
IsSendable nodes (Full id rows) = AreWritable nodes [] rows
IsSendable nodes (Changes id patch_id changes incomplete) = AllByRecursion (IsSendableChange nodes) changes
IsSendable nodes (Started id) = Unit {0}
IsSendable nodes (Modified id) = Unit {0}
IsSendable nodes (Suspended id) = Unit {0}
IsSendable nodes (Resumed id) = Unit {0}
IsSendable nodes (Terminated id) = Unit {0}
