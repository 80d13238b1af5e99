use Rattle.std.proofs.Common.{◌≡◌, ◌++◌, drop, option_map}
use Rattle.yp_path.specs.Targets.{values_read}
use Rattle.yp_path.proofs.target.read_values.Given as goal

abbrev pub invariant-loop-node : goal.invariant-loop-node
invariant-loop-node l = option_map (λ rest. l.values.items ++ rest) (values_read l.schema (drop l.node-index l.asked) l.rest) ≡ values_read l.schema l.asked l.texts
