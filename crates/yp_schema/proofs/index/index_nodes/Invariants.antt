use Rattle.std.proofs.Common.{◌≡◌, ◌≤◌, ◌+◌, ℕ, List, Option, length, drop, vec_len}
use Rattle.yp_schema.specs.Index.{indexed_at, slot_of}
use Rattle.yp_schema.specs.Nodes.{is_child, place_from}
use Rattle.yp_schema.proofs.index.index_nodes.Given as goal

-- the children among the rest are found
abbrev pub invariant-loop-at : goal.invariant-loop-at
invariant-loop-at l = record {
  within : l.at ≤ length l.nodes;
  slots : vec_len l.index ≡ length l.nodes + 1;
  found : (parent : Option ℕ) (name : List ℕ) → indexed_at (slot_of parent) name l.index.items ≡ place_from (is_child parent name) l.at (drop l.at l.nodes);
}

abbrev pub decreases-loop-at : goal.decreases-loop-at
decreases-loop-at l = l.at
