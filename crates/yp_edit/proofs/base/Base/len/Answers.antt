use Rattle.std.proofs.Common.{arith, map}
use Rattle.yp_base.specs.Rows.{path_of}
use Rattle.yp_edit.proofs.Bases.{left_few}
use Rattle.yp_edit.proofs.base.Base.len.Goals as goal

pub returns-clause-small : goal.returns-clause-small
returns-clause-small c =
    omega (arith, c.self.invariant.0.counted, left_few (map path_of c.self.inside.touched) c.self.inside.tree.now, c.len-rows.ensures.count, c.len-rows.ensures.small)
