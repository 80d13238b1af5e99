use Rattle.std.proofs.Common.{length}
use Rattle.yp_slot.specs.ResultLaws.{when_ok}
use Rattle.yp_slot.proofs.classes.number_of.Goals as goal

pub returns-clause-classes : goal.returns-clause-classes
returns-clause-classes c = when_ok c.class_of.result c.class_of.ensures.classes (λ keep. λ are.
    let present = c.args.present.now in
    keep present.schema.now (length present.state.now.receivers) c.requires.fits c.first_of-first.ensures.within are)
