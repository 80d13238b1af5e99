use Rattle.std.proofs.Common.{◌≡◌, drop}
use Rattle.yp_names.specs.Names.{go_on_name}
use Rattle.yp_names.proofs.names.go_on_name.Given as goal

abbrev pub invariant-loop-b : goal.invariant-loop-b
invariant-loop-b l = go_on_name (drop l.b-index l.bytes) ≡ go_on_name l.bytes
