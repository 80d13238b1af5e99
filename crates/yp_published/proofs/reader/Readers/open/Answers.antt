use Rattle.std.proofs.Common.{◌≡◌, List, All, sym, subst}
use Rattle.yp_published.specs.Reads.{Reading, fresh_reading}
use Rattle.yp_published.proofs.Catching.{all_fresh}
use Rattle.yp_published.proofs.reader.Readers.open.Goals as goal

pub returns-clause-fresh : goal.returns-clause-fresh
returns-clause-fresh g c =
    subst (λ (readings : List Reading). All (λ reading. reading ≡ fresh_reading) readings) (sym c.in_ok-readers.ensures) (all_fresh c.args.front.now _ c.requires c.in_ok-handles.ensures.1)
