use Rattle.std.proofs.Common.{sym, subst}
use Rattle.yp_published.specs.Histories.{Begins}
use Rattle.yp_published.specs.Views.{known_by}
use Rattle.yp_published.proofs.Catching.{empty_begins}
use Rattle.yp_published.proofs.reader.reader_by.Goals as goal

pub invariant_of-result : goal.invariant_of-result
invariant_of-result g c = subst (λ front. Begins front (known_by c.args.looks.view)) (sym c.again.ensures) (empty_begins c.args.front.now (known_by c.args.looks.view) c.requires)
