use Rattle.std.proofs.Common.{◌≡◌, ◌++◌, map, drop}
use Rattle.yp_filter.specs.View.{node_view, nodes_of}
use Rattle.yp_select.specs.Reaches.{entry_keys}
use Rattle.yp_select.proofs.reaches.entry_keys.Given as goal

-- the atoms so far and those of the keys that are left are all
abbrev pub invariant-loop-key : goal.invariant-loop-key
invariant-loop-key l = l.atoms.items ++ entry_keys (drop l.key-index l.keys) (nodes_of (map node_view l.set)) ≡ entry_keys l.keys (nodes_of (map node_view l.set))
