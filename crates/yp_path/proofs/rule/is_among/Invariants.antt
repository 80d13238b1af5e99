use Rattle.std.proofs.Common.{◌≡◌, drop}
use Rattle.yp_schema.specs.Nodes.{is_in}
use Rattle.yp_path.proofs.rule.is_among.Given as goal

abbrev pub invariant-loop-other : goal.invariant-loop-other
invariant-loop-other l = is_in l.node (drop l.other-index l.nodes) ≡ is_in l.node l.nodes
