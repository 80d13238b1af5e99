-- Rows that were read can be written.
use Rattle.std.proofs.Common.{List}
use Rattle.yp_base.specs.declared.path.Seg.{Seg}
use Rattle.yp_base.specs.declared.row.Row.{Row}
use Rattle.yp_schema.specs.declared.schema.SchemaNode.{SchemaNode}
use Rattle.yp_schema.specs.Datastore.{AreWhole, AreWritable}

-- what stands at a place can be written there
pub whole_is_writable : (nodes : List SchemaNode) (at : List Seg) (rows : List Row) → AreWhole nodes at rows → AreWritable nodes at rows
whole_is_writable nodes at rows whole = whole.writable
