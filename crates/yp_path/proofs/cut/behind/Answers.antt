use Rattle.yp_path.proofs.Marks.{begins_not}
use Rattle.yp_path.proofs.cut.behind.Goals as goal

pub returns : goal.returns
returns c = begins_not c.args.mark c.args.text.now c.strip_prefix.result c.strip_prefix.ensures.cases c.requires
