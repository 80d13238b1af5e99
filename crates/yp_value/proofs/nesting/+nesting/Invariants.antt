use Rattle.std.proofs.Common.{◌≡◌, drop, nat_le}
use Rattle.serde_json.specs.Data.{items_depth, members_depth}
use Rattle.serde_json.specs.View.{items_view, members_view}
use Rattle.yp_value.proofs.nesting.+nesting.Given as goal

abbrev pub invariant-items_nest_within-loop-item : goal.invariant-items_nest_within-loop-item
invariant-items_nest_within-loop-item l = nat_le (items_depth (items_view l.items.items)) l.limit ≡ nat_le (items_depth (items_view (drop l.item-index l.item-items))) l.limit

abbrev pub invariant-members_nest_within-loop-value : goal.invariant-members_nest_within-loop-value
invariant-members_nest_within-loop-value l = nat_le (members_depth (members_view l.members.entries)) l.limit ≡ nat_le (members_depth (members_view l.value-iterator)) l.limit
