use Rattle.std.proofs.Common.{◌≡◌, drop}
use Rattle.push_program.specs.Jobs.{first_manual}
use Rattle.push_program.proofs.manual.first_manual.Given as goal

-- those so far take by themselves
abbrev pub invariant-loop-number : goal.invariant-loop-number
invariant-loop-number l = first_manual l.receivers ≡ first_manual (drop l.number l.receivers)
