use Rattle.std.proofs.Common.{◌≡◌, length}
use Rattle.serde_json.specs.View.{items_view}
use Rattle.yp_command.specs.Asks.{are_operations}
use Rattle.yp_command.proofs.ask.are_operations.Given as goal

-- the items before those that are left are operations, and none is among those after it
abbrev pub invariant-loop-first : goal.invariant-loop-first
invariant-loop-first l = are_operations (items_view l.left) ≡ are_operations (items_view l.items)

abbrev pub decreases-loop-first : goal.decreases-loop-first
decreases-loop-first l = length l.left
