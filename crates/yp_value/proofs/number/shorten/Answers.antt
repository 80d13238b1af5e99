use Rattle.std.proofs.Common.{◌∙◌, sym, arith}
use Rattle.yp_value.proofs.Zeros.{one_less, no_less, shortened_one}
use Rattle.yp_value.proofs.number.shorten.Goals as goal
use Rattle.yp_value.proofs.number.shorten.Goals.{then-loop-kept-test+else-digits-kept-eq48, else-loop-kept-test}

pub loop-kept-preserved : goal.loop-kept-preserved
loop-kept-preserved c = (omega arith, one_less c.args.digits.now c.loop-kept.kept c.loop-kept-test.true c.loop-kept.invariant.0 c.if-digits-kept-eq48.true ∙ c.loop-kept.invariant.1)

pub returns : goal.returns
returns c =
    elim c.loop-kept-test.branch [
      | then-loop-kept-test+else-digits-kept-eq48 w ↦ sym (no_less c.args.digits.now c.loop-kept.kept w.loop-kept-test.true c.loop-kept.invariant.0 w.if-digits-kept-eq48.false) ∙ c.loop-kept.invariant.1
      | else-loop-kept-test w ↦ sym (shortened_one c.args.digits.now c.loop-kept.kept w.loop-kept-test.false) ∙ c.loop-kept.invariant.1
    ]
