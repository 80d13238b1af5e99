-- What holds of what is read: the statement of a law.
use Rattle.std.specs.Prelude.{◌≡◌, List, true, Ok}
use Rattle.serde_json.specs.Data.{Data}
use Rattle.yp_base.specs.declared.path.Seg.{Seg}
use Rattle.yp_base.specs.declared.row.Row.{Row}
use Rattle.yp_schema.specs.declared.schema.SchemaNode.{SchemaNode}
use Rattle.yp_schema.specs.Datastore.{is_place, AreWhole}
use Rattle.yp_data_json.specs.AtPath.{rows_read}

-- what is read at a place is all that stands there
abbrev pub ReadsWhole : Type 0
ReadsWhole = (nodes : List SchemaNode) (at : List Seg) (d : Data) (rows : List Row) → is_place nodes at ≡ true → rows_read nodes at d ≡ Ok rows → AreWhole nodes at rows
