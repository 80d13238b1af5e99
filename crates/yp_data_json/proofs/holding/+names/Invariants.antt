use Rattle.std.proofs.Common.{◌≡◌, List, ◌++◌, drop, string_cmp}
use Rattle.std.specs.List.Sorted.{IsStrictlySortedBy}
use Rattle.std.specs.Map.{keys_of}
use Rattle.serde_json.specs.View.{members_view, items_view}
use Rattle.serde_json.proofs.Views.{Entry}
use Rattle.yp_data_json.specs.Holding.{ItemsHaveNamesOnce, MembersHaveNamesOnce}
use Rattle.yp_data_json.proofs.holding.+names.Given as goal

abbrev pub invariant-item_names_stand_once-loop-item : goal.invariant-item_names_stand_once-loop-item
invariant-item_names_stand_once-loop-item l = ItemsHaveNamesOnce (items_view (drop l.item-index l.item-items)) → ItemsHaveNamesOnce (items_view l.items.items)

abbrev pub invariant-member_names_stand_once-loop-value : goal.invariant-member_names_stand_once-loop-value
invariant-member_names_stand_once-loop-value l =
    ((done : List Entry) × (l.members.entries ≡ done ++ l.value-iterator))
    × IsStrictlySortedBy string_cmp (keys_of l.value-iterator)
    × (MembersHaveNamesOnce (members_view l.value-iterator) → MembersHaveNamesOnce (members_view l.members.entries))
