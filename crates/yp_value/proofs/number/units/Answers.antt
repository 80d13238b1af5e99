use Rattle.std.proofs.Common.{◌++◌, ◌-◌, ◌^◌, ap, sym, ◌∙◌, option_and_then, length, replicate, arith}
use Rattle.yp_value.specs.Texts.{value_from, below, magnitude_in}
use Rattle.yp_value.proofs.Digits.{stop_first, none_part, all_parts, zeros_are}
use Rattle.yp_value.proofs.number.units.Goals as goal

pub returns-in-Some-extend : goal.returns-in-Some-extend
returns-in-Some-extend c =
    let k = c.args.places - length c.args.part.now in
    c.extend-in-Some-extend.ensures
    ∙ ap (λ zeros. option_and_then (below (2 ^ 64)) (value_from c.in-Some-extend.value zeros)) (zeros_are k (omega (arith, c.requires.fits)))
    ∙ sym (ap (option_and_then (below (2 ^ 64))) (all_parts (magnitude_in c.args.whole.now) c.in-Some.value c.in-Some-extend.value c.args.part.now (replicate k 48) (sym c.in-Some.ensures) (sym c.in-Some-extend.ensures)))

pub returns-in-None-extend : goal.returns-in-None-extend
returns-in-None-extend c =
    sym (none_part (magnitude_in c.args.whole.now) c.in-Some.value c.args.part.now (replicate (c.args.places - length c.args.part.now) 48) (sym c.in-Some.ensures) (sym c.in-None-extend.ensures))

pub returns-in-None : goal.returns-in-None
returns-in-None c = sym (stop_first (magnitude_in c.args.whole.now) (c.args.part.now ++ replicate (c.args.places - length c.args.part.now) 48) (sym c.in-None.ensures))
