use Rattle.std.proofs.Common.{◌≡◌, drop}
use Rattle.serde_json.specs.Data.{Members}
use Rattle.yp_schema.specs.Nodes.{node_at}
use Rattle.yp_data_json.specs.Writing.{with_keys}
use Rattle.yp_data_json.specs.EntryKeys.{among}
use Rattle.yp_data_json.proofs.KeysAmong.{HoldsKeys}
use Rattle.yp_data_json.proofs.entry_keys.in_order.Given as goal

-- the keys that are left, put among members with the keys so far, are all of them put
abbrev pub invariant-loop-value : goal.invariant-loop-value
invariant-loop-value l = record {
  holds : HoldsKeys l.schema l.node l.left l.made.items;
  same : (ms : Members) → with_keys l.schema l.left (drop l.value-index l.keys) (among l.schema l.made.items ms) ≡ with_keys l.schema (node_at l.node l.schema).keys l.keys ms;
}
