use Rattle.std.proofs.Common.{◌≡◌, ◌++◌, drop, option_map}
use Rattle.serde_json.specs.View.{items_view}
use Rattle.yp_value.specs.Json.{texts_in}
use Rattle.yp_value.proofs.members.read_texts.Given as goal

-- the texts so far, put before the rest, are all
abbrev pub invariant-loop-item : goal.invariant-loop-item
invariant-loop-item l = option_map (λ rest. l.texts.items ++ rest) (texts_in (items_view (drop l.item-index l.items))) ≡ texts_in (items_view l.fn.items)
