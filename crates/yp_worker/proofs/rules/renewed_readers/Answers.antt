use Rattle.std.proofs.Common.{sym, subst}
use Rattle.yp_journal.specs.History.{JournalState}
use Rattle.yp_slot.specs.Slots.{AreRulesAt}
use Rattle.yp_worker.proofs.States.{rules_stay}
use Rattle.yp_worker.proofs.rules.renewed_readers.Goals as goal

pub returns-in_default : goal.returns-in_default
returns-in_default c = λ nodes before rules left are. subst (λ (s : JournalState). AreRulesAt s rules) (sym left) (rules_stay nodes before rules c.args.command.now c.in_default.not-Rules are)
