use Rattle.std.proofs.Common.{◌≡◌, ◌++◌, drop, option_map}
use denote.Text.{Utf8}
use denote.Shadow.{shadow}
use Rattle.yp_base.specs.Cuts.{cut}
use Rattle.yp_path.specs.Targets.{values_read}
use Rattle.yp_path.proofs.target.read_bare_values.Given as goal

abbrev pub invariant-loop-node : goal.invariant-loop-node
invariant-loop-node l = shadow (Utf8 l.rest) × (option_map (λ more. l.values.items ++ more) (values_read l.schema (drop l.node-index l.asked) (cut 44 l.rest)) ≡ values_read l.schema l.asked (cut 44 l.keys))
