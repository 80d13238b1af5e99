use Rattle.std.proofs.Common.{◌≡◌, List, ◌++◌, drop, map}
use Rattle.serde_json.specs.View.{members_view, items_view}
use Rattle.serde_json.proofs.Views.{Entry}
use Rattle.yp_filter.specs.Reading.{set_in, items_in, after_these}
use Rattle.yp_filter.specs.View.{node_view}
use Rattle.yp_filter.proofs.reading.+read.Given as goal

-- the nodes so far and those of the items that are left are all
abbrev pub invariant-read_items-loop-item : goal.invariant-read_items-loop-item
invariant-read_items-loop-item l =
    after_these (map node_view l.nodes.items) (items_in l.schema l.room l.named (items_view (drop l.item-index l.item-items)))
    ≡ after_these (map node_view l.fn.nodes.items) (items_in l.schema l.room l.named (items_view l.items.items))

abbrev pub invariant-read_set-loop-name : goal.invariant-read_set-loop-name
invariant-read_set-loop-name l =
    ((done : List Entry) × (l.members.entries ≡ done ++ l.name-iterator))
    × (after_these (map node_view l.nodes.items) (set_in l.schema l.room l.place (members_view l.name-iterator)) ≡ set_in l.schema l.room l.place (members_view l.members.entries))
