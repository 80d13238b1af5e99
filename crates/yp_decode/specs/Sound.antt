-- What holds of each notice that is heard.
use Rattle.std.specs.Prelude.{◌≡◌, List, [], true, None}
use Rattle.std.specs.List.{AllByRecursion}
use Rattle.yp_base.specs.declared.notice.Change.{Change}
use Rattle.yp_base.specs.declared.notice.ChangeKind.{ChangeKind}
use Rattle.yp_base.specs.declared.notice.ChangeKind.TheVariants.{Create, Delete, Insert, Move, Replace}
use Rattle.yp_base.specs.declared.notice.Notice.{Notice}
use Rattle.yp_base.specs.declared.notice.Notice.TheVariants.{Full, Changes, Started, Modified, Suspended, Resumed, Terminated}
use Rattle.yp_base.specs.declared.path.Seg.{Seg}
use Rattle.yp_base.specs.declared.row.Row.{Row}
use Rattle.yp_schema.specs.declared.schema.SchemaNode.{SchemaNode}
use Rattle.yp_schema.specs.Datastore.{is_path_of, is_place, IsDatastore, AreWhole}

-- what is created or replaced has all rows of what stands at the target, and what is deleted none; nothing is inserted or moved
abbrev pub HasSoundRows : List SchemaNode → ChangeKind → List Seg → List Row → Type 0
HasSoundRows nodes Create target rows = AreWhole nodes target rows
HasSoundRows nodes Delete target rows = rows ≡ []
HasSoundRows nodes Insert target rows = ⊥
HasSoundRows nodes Move target rows = ⊥
HasSoundRows nodes Replace target rows = AreWhole nodes target rows

-- a change at a path of the schema that ends in no key leaf
pub record IsSoundChange (nodes : List SchemaNode) (change : Change) : Type 0 where
  pub target : is_path_of nodes change.target ≡ true
  pub place : is_place nodes change.target ≡ true
  pub rows : HasSoundRows nodes change.kind change.target change.rows
  pub after : change.after ≡ None

-- a full update has the rows of a datastore of the schema, in order
abbrev pub IsSound : List SchemaNode → Notice → Type 0
IsSound nodes (Full id rows) = IsDatastore nodes rows
IsSound nodes (Changes id patch_id changes incomplete) = AllByRecursion (IsSoundChange nodes) changes
IsSound nodes (Started id) = Unit {0}
IsSound nodes (Modified id) = Unit {0}
IsSound nodes (Suspended id) = Unit {0}
IsSound nodes (Resumed id) = Unit {0}
IsSound nodes (Terminated id) = Unit {0}
