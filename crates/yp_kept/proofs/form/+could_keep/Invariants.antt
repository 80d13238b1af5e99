use Rattle.std.proofs.Common.{◌≡◌, ◌+◌, ◌*◌, length, map, drop}
use Rattle.yp_filter.specs.View.{node_view, set_view, nodes_of}
use Rattle.yp_kept.specs.Form.{set_could_lead}
use Rattle.yp_kept.proofs.form.+could_keep.Given as goal

-- the nodes that are left tell it of all
abbrev pub invariant-set_could_lead-loop-node : goal.invariant-set_could_lead-loop-node
invariant-set_could_lead-loop-node l =
    set_could_lead l.schema (nodes_of (map node_view (drop l.node-index l.node-items))) l.rest ≡ set_could_lead l.schema (set_view l.set) l.rest

-- what is left of the path grows shorter
abbrev pub decreases-could_keep : goal.decreases-could_keep
decreases-could_keep l = 3 * length l.rest.now + 2

abbrev pub decreases-set_could_lead : goal.decreases-set_could_lead
decreases-set_could_lead l = 3 * length l.rest.now + 1

abbrev pub decreases-node_could_lead : goal.decreases-node_could_lead
decreases-node_could_lead l = 3 * length l.rest.now
