use Rattle.std.proofs.Common.{ap, ◌∙◌}
use Rattle.std.specs.Prelude.{is_some}
use Rattle.yp_receiver.proofs.Finding.{found_left}
use Rattle.yp_receiver.proofs.finder.Finder.has.Goals as goal

pub returns-clause-found : goal.returns-clause-found
returns-clause-found c =
    c.find-found.ensures.found
    ∙ ap is_some (found_left c.args.path.now c.args.self.now c.left_for.result.now c.left_for.ensures)
