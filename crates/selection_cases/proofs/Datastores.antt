-- Rows that were read or patched are those of a datastore, and can be written.
use Rattle.std.proofs.Common.{true≢false, List, [], refl, sym}
use Rattle.yp_base.specs.declared.row.Row.{Row}
use Rattle.yp_base.specs.RowLaws.{all_at_top}
use Rattle.yp_schema.specs.declared.schema.SchemaNode.{SchemaNode}
use Rattle.yp_schema.specs.Datastore.{IsDatastore, AreWhole, AreWritable}

-- what stands at the top is a datastore
pub whole_is_datastore : (nodes : List SchemaNode) (rows : List Row) → AreWhole nodes [] rows → IsDatastore nodes rows
whole_is_datastore nodes rows whole = record { in_order = whole.writable.in_order; of_schema = whole.writable.of_schema; entries = whole.entries }

-- a datastore can be written at the top
pub datastore_is_writable : (nodes : List SchemaNode) (rows : List Row) → IsDatastore nodes rows → AreWritable nodes [] rows
datastore_is_writable nodes rows datastore = record { place = refl; in_order = datastore.in_order; of_schema = datastore.of_schema; within = all_at_top rows; leaf = λ ends. absurd (true≢false (sym ends)) }
