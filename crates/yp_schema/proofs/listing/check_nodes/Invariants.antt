use Rattle.std.proofs.Common.{◌≡◌, drop}
use Rattle.serde_json.specs.View.{items_view}
use Rattle.yp_schema.specs.Rounds.{second_round}
use Rattle.yp_schema.proofs.listing.check_nodes.Given as goal

abbrev pub invariant-loop-item : goal.invariant-loop-item
invariant-loop-item l = (l.place ≡ l.item-index)
    × (second_round l.part l.place (items_view (drop l.item-index l.item-items)) l.nodes ≡ second_round l.part 0 (items_view l.items.items) l.nodes)
