use Rattle.std.proofs.Common.{◌≡◌}
use Rattle.serde_json.specs.View.{members_view}
use Rattle.yp_data_json.specs.AtPath.{outer_read}
use Rattle.yp_data_json.proofs.at_path.read_outer.Given as goal

abbrev pub invariant-loop-other : goal.invariant-loop-other
invariant-loop-other l = outer_read l.schema l.node l.above l.keys (members_view l.other-iterator) l.rows ≡ outer_read l.schema l.node l.above l.keys (members_view l.members.entries) l.fn.rows
