-- What is selected at or below a path can be written at the top.
use Rattle.std.proofs.Common.{Bool, List, []}
use Rattle.yp_base.specs.declared.path.Seg.{Seg}
use Rattle.yp_base.specs.declared.row.Row.{Row}
use Rattle.yp_base.specs.Order.{is_within}
use Rattle.yp_base.specs.Rows.{rows_within}
use Rattle.yp_base.specs.RowLaws.{within_keeps_order}
use Rattle.yp_schema.specs.declared.schema.SchemaNode.{SchemaNode}
use Rattle.yp_schema.specs.Datastore.{IsDatastore, IsRowOf, AreWritable}
use Rattle.yp_filter.specs.Filters.{Asked}
use Rattle.yp_kept.specs.Selection.{selection}
use Rattle.yp_kept.specs.SelectionLaws.{all_selected, top_writable}
use Rattle.yp_kept.specs.KeptLaws.{kept_in_order, kept_of_schema}

pub below_writable : (nodes : List SchemaNode) (asked : Asked) (readable : List Seg → Bool) (at : List Seg) (rows : List Row) → IsDatastore nodes rows → AreWritable nodes [] (rows_within at (selection nodes asked readable rows))
below_writable nodes asked readable at rows datastore =
    let selected = selection nodes asked readable rows in
    top_writable nodes (rows_within at selected) (within_keeps_order at selected (kept_in_order nodes asked readable rows datastore.in_order))
    (all_selected (is_within at) (IsRowOf nodes) selected (kept_of_schema nodes asked readable rows datastore.of_schema))
