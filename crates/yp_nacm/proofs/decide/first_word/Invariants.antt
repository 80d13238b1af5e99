use Rattle.std.proofs.Common.{◌≡◌, ◌++◌, drop}
use Rattle.yp_nacm.specs.Decision.{leaf_step, said}
use Rattle.yp_nacm.proofs.decide.first_word.Given as goal

abbrev pub invariant-loop-rule : goal.invariant-loop-rule
invariant-loop-rule l = said l.«module» (l.segments ++ leaf_step l.leaf) (drop l.rule-index l.rules) ≡ said l.«module» (l.segments ++ leaf_step l.leaf) l.rules
