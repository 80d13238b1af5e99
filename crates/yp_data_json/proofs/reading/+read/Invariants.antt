use Rattle.std.proofs.Common.{◌≡◌, List, ◌++◌, drop}
use Rattle.serde_json.specs.View.{members_view, items_view}
use Rattle.serde_json.proofs.Views.{Entry}
use Rattle.yp_data_json.specs.Reading.{members_read, entries_read}
use Rattle.yp_data_json.proofs.reading.+read.Given as goal

abbrev pub invariant-read_entries-loop-item : goal.invariant-read_entries-loop-item
invariant-read_entries-loop-item l =
    entries_read l.schema l.node l.path (items_view (drop l.item-index l.item-items)) l.rows ≡ entries_read l.schema l.node l.path (items_view l.items.items) l.fn.rows

abbrev pub invariant-read_members-loop-name : goal.invariant-read_members-loop-name
invariant-read_members-loop-name l =
    ((done : List Entry) × (l.members.entries ≡ done ++ l.name-iterator))
    × (members_read l.schema l.parent l.path (members_view l.name-iterator) l.rows ≡ members_read l.schema l.parent l.path (members_view l.members.entries) l.fn.rows)
