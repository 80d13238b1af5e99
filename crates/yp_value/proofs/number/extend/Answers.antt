use Rattle.std.proofs.Common.{rules, ap, sym, ◌∙◌, option_and_then, ◌^◌}
use Rattle.yp_value.specs.Texts.{below}
use Rattle.yp_value.proofs.Digits.{stop_at}
use Rattle.yp_value.proofs.number.extend.Goals as goal

pub returns-in-None : goal.returns-in-None
returns-in-None c =
    let all = ap (option_and_then (below (2 ^ 64))) c.loop-digit.invariant.1 in
    sym (sym all ∙ stop_at c.loop-digit.value c.loop-digit.digit-index c.args.digits.now (search rules) (sym c.in-None.ensures))
