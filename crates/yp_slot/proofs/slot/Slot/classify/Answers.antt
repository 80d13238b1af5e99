use Rattle.std.proofs.Common.{◌<◌, length, sym, subst}
use Rattle.yp_slot.proofs.Entering.{renumbered}
use Rattle.yp_slot.proofs.slot.Slot.classify.Goals as goal

pub number_of-requires-clause-receiver : goal.number_of-requires-clause-receiver
number_of-requires-clause-receiver c = subst (λ n. n < length c.args.present.now.state.now.receivers) (sym c.receiver-receiver.ensures) c.requires.kept.receiver

pub number_of-requires-clause-fits : goal.number_of-requires-clause-fits
number_of-requires-clause-fits c = c.requires.kept.terms.fits

pub returns-clause-slot : goal.returns-clause-slot
returns-clause-slot c = λ track stands. renumbered c.args.present.now.schema.now c.args.present.now.state.now c.args.self.now track _ stands
