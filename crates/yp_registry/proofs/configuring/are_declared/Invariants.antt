use Rattle.std.proofs.Common.{◌≡◌, drop}
use Rattle.yp_registry.specs.Configuring.{are_declared}
use Rattle.yp_registry.proofs.configuring.are_declared.Given as goal

abbrev pub invariant-loop-name : goal.invariant-loop-name
invariant-loop-name l = are_declared l.names (drop l.name-index l.asked) ≡ are_declared l.names l.asked
