use Rattle.std.proofs.Common.{arith}
use Rattle.yp_schema.proofs.Indexes.{child_within}
use Rattle.yp_schema.proofs.schema.Schema.child.Goals as goal

pub returns-clause-within : goal.returns-clause-within
returns-clause-within c =
    child_within c.args.parent c.args.member.now c.args.self.now c.look_up.result
    (grind (arith, c.look_up.ensures, c.slot_of.ensures, c.as_slice.ensures.value, c.self.view_is, c.self.invariant.1 c.args.parent c.args.member.now))
