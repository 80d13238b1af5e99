use Rattle.std.proofs.Common.{sym}
use Rattle.yp_path.specs.NameLaws.{named_below}
use Rattle.yp_path.proofs.RuleSegments.{below_same}
use Rattle.yp_path.proofs.rule.read_segment.Goals as goal

pub read_at_node-requires : goal.read_at_node-requires
read_at_node-requires c = named_below _ _ _ _ (sym c.in-Some-child_named.ensures)

pub returns-in-Some-child_named-clause-node : goal.returns-in-Some-child_named-clause-node
returns-in-Some-child_named-clause-node c =
    below_same _ _ _ c.read_at_node.ensures.node (named_below _ _ _ _ (sym c.in-Some-child_named.ensures))
