use Rattle.std.proofs.Common.{◌≡◌, drop}
use Rattle.yp_nacm.specs.Decision.{said_of_call}
use Rattle.yp_nacm.proofs.execute.word_of_rules.Given as goal

abbrev pub invariant-loop-rule : goal.invariant-loop-rule
invariant-loop-rule l = said_of_call l.op (drop l.rule-index l.rules) ≡ said_of_call l.op l.rules
