use Rattle.std.proofs.Common.{◌≡◌, take, drop}
use Rattle.yp_path.specs.RulePaths.{pieces}
use Rattle.yp_path.proofs.Pieces.{onto_all}
use Rattle.yp_path.proofs.mark.first_mark.Given as goal

abbrev pub invariant-loop-i : goal.invariant-loop-i
invariant-loop-i l = pieces l.mark l.fn.start l.text ≡ onto_all (take l.i l.text) (pieces l.mark l.place (drop l.i l.text))
