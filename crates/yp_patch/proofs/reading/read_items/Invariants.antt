use Rattle.std.proofs.Common.{◌≡◌, ◌++◌, drop, length}
use Rattle.std.specs.Prelude.{option_map}
use Rattle.serde_json.specs.View.{items_view}
use Rattle.yp_patch.specs.Shapes.{edits_in}
use Rattle.yp_patch.proofs.reading.read_items.Given as goal

abbrev pub invariant-loop-item : goal.invariant-loop-item
invariant-loop-item l = record {
  read : option_map (λ rest. l.edits.items ++ rest) (edits_in (items_view (drop l.item-index l.item-items))) ≡ edits_in (items_view l.items.items);
  count : length l.edits.items ≡ l.item-index;
}
