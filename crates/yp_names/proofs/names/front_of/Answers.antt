use Rattle.std.proofs.Common.{arith}
use Rattle.yp_names.specs.NameLaws.{front_take}
use Rattle.yp_names.proofs.names.front_of.Goals as goal

pub returns : goal.returns
returns c = grind (arith, c.pop.ensures.rest, front_take c.args.path.now, c.in_ok-copy.ensures, c.from_vec.ensures, c.in_ok-names.ensures)
