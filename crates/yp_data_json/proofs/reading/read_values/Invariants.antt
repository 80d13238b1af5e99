use Rattle.std.proofs.Common.{◌≡◌, drop}
use Rattle.serde_json.specs.View.{items_view}
use Rattle.yp_data_json.specs.Reading.{leaf_list_read}
use Rattle.yp_data_json.proofs.reading.read_values.Given as goal

abbrev pub invariant-loop-item : goal.invariant-loop-item
invariant-loop-item l = leaf_list_read l.schema l.node l.path (items_view (drop l.item-index l.item-items)) l.rows ≡ leaf_list_read l.schema l.node l.path (items_view l.items.items) l.fn.rows
