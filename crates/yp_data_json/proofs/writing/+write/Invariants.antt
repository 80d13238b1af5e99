use Rattle.std.proofs.Common.{◌≡◌, ◌+◌, ◌-◌, ◌*◌, ◌≤◌, List, ◌++◌, drop, length, false, string_bytes}
use Rattle.serde_json.specs.Written.{items_text, members_text}
use Rattle.yp_schema.specs.Nodes.{node_at}
use Rattle.yp_data_json.specs.Forest.{Forest, laid_all, forest_at}
use Rattle.yp_data_json.specs.Writing.{Entry, gathered, members_in}
use Rattle.yp_data_json.specs.Runs.{longest, StandsBefore, AllGoThrough, GoOnBelow, all_in_front}
use Rattle.yp_data_json.specs.EntryKeys.{AreAscending, GoOnWithKeys, among}
use Rattle.yp_data_json.proofs.Told.{entry_items}
use Rattle.yp_data_json.proofs.writing.+write.Given as goal

-- the work that is left: the most segments that go on, in four steps each
abbrev pub decreases-push_members : goal.decreases-push_members
decreases-push_members l = 4 * (longest l.rows.now - l.depth) + 3

abbrev pub decreases-push_node : goal.decreases-push_node
decreases-push_node l = 4 * (longest l.rows.now - l.depth) + 2

abbrev pub decreases-push_entries : goal.decreases-push_entries
decreases-push_entries l = 4 * (longest l.rows.now - l.depth) + 1

abbrev pub decreases-push_item : goal.decreases-push_item
decreases-push_item l = 4 * (longest l.rows.now - l.depth) + 4

-- what stands and the members of what is left are all
abbrev pub invariant-push_members-loop-first : goal.invariant-push_members-loop-first
invariant-push_members-loop-first l = record {
  below : GoOnWithKeys l.schema l.depth l.left (drop l.next l.keys);
  ascending : AreAscending (drop l.next l.keys);
  within : l.next ≤ length l.keys;
  long : longest l.left ≤ longest l.rows;
  told : string_bytes l.initial.text ++ members_text false (among l.schema l.keys (members_in l.schema (forest_at l.depth l.rows)))
      ≡ string_bytes l.text ++ members_text l.later (among l.schema (drop l.next l.keys) (members_in l.schema (forest_at l.depth l.left)));
}

abbrev pub decreases-push_members-loop-first : goal.decreases-push_members-loop-first
decreases-push_members-loop-first l = length l.left

-- the entries so far, and what stands with those that are left
abbrev pub invariant-push_entries-loop-first : goal.invariant-push_entries-loop-first
invariant-push_entries-loop-first l = record {
  below : GoOnBelow l.schema l.depth l.left;
  through : AllGoThrough l.depth l.node l.left;
  long : longest l.left ≤ longest l.rows;
  so_far : (es : List Entry) × (((f : Forest) → StandsBefore (node_at l.node l.schema).member (members_in l.schema f)
      → gathered l.schema (laid_all l.depth l.rows f) ≡ all_in_front l.node es (gathered l.schema (laid_all l.depth l.left f)))
      × ((more : List Entry) → string_bytes l.initial.text ++ items_text false (entry_items (es ++ more)) ≡ string_bytes l.text ++ items_text l.later (entry_items more)));
}

abbrev pub decreases-push_entries-loop-first : goal.decreases-push_entries-loop-first
decreases-push_entries-loop-first l = length l.left
