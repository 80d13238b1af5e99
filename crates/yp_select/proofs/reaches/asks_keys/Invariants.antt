use Rattle.std.proofs.Common.{◌≡◌, map, drop}
use Rattle.yp_filter.specs.View.{node_view, nodes_of}
use Rattle.yp_select.specs.Reaches.{asks_keys}
use Rattle.yp_select.proofs.reaches.asks_keys.Given as goal

-- the keys that are left tell it of all
abbrev pub invariant-loop-key : goal.invariant-loop-key
invariant-loop-key l = asks_keys (drop l.key-index l.keys) (nodes_of (map node_view l.set)) ≡ asks_keys l.keys (nodes_of (map node_view l.set))
