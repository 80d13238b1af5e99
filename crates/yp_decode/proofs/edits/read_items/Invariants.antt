use Rattle.std.proofs.Common.{◌≡◌, ◌++◌, drop}
use Rattle.std.specs.Prelude.{option_map}
use Rattle.serde_json.specs.View.{items_view}
use Rattle.yp_decode.specs.Bodies.{edits_in}
use Rattle.yp_decode.specs.Readings.{seen_edits}
use Rattle.yp_decode.proofs.edits.read_items.Given as goal

abbrev pub invariant-loop-item : goal.invariant-loop-item
invariant-loop-item l = option_map (λ more. seen_edits l.edits.items ++ more) (edits_in (items_view (drop l.item-index l.item-items))) ≡ edits_in (items_view l.items.items)
