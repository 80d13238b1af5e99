use Rattle.std.proofs.Common.{ap, ◌∙◌}
use Rattle.std.specs.Str.Parse.{ParsesUnsigned, ExplainsUnsignedError, HasUnsignedDigitsIfOk}
use Rattle.clap.specs.Words.{found_of, one_text}
use Rattle.clap.proofs.WalkLemmas.{one_text-rows}
use Rattle.yp_words.specs.Words.{NumberOption, number_or_default}
use Rattle.yp_words.proofs.Numbers.{number_told}
use Rattle.yp_words.proofs.words.number_of.Goals as goal

pub returns-in-Ok-Some : goal.returns-in-Ok-Some
returns-in-Ok-Some c =
    let option : NumberOption = record { name = c.args.name.now; least = c.args.least; most = c.args.most; default = c.args.default } in
    let told = number_told (λ bs r. ParsesUnsigned 32 10 bs r × ExplainsUnsignedError 10 bs r × HasUnsignedDigitsIfOk bs r) option (one_text (found_of c.args.matches.now) c.args.name.now) c.try_get_one.result c.ranges.most.fits (λ t x g. g.0) c.try_get_one.ensures.none c.try_get_one.ensures.value in
    c.within.ensures ∙ (rw (c.in-Ok-Some.is, c.in-Ok-Some.field-0-is, c.in-Ok-Some.number-is) at told) ∙ ap (number_or_default option) (one_text-rows (found_of c.args.matches.now) c.args.name.now)

pub returns-in-Ok-None : goal.returns-in-Ok-None
returns-in-Ok-None c =
    let option : NumberOption = record { name = c.args.name.now; least = c.args.least; most = c.args.most; default = c.args.default } in
    let told = number_told (λ bs r. ParsesUnsigned 32 10 bs r × ExplainsUnsignedError 10 bs r × HasUnsignedDigitsIfOk bs r) option (one_text (found_of c.args.matches.now) c.args.name.now) c.try_get_one.result c.ranges.most.fits (λ t x g. g.0) c.try_get_one.ensures.none c.try_get_one.ensures.value in
    (rw (c.in-Ok-None.is, c.in-Ok-None.field-0-is) at told) ∙ ap (number_or_default option) (one_text-rows (found_of c.args.matches.now) c.args.name.now)

pub returns-in-Err : goal.returns-in-Err
returns-in-Err c =
    let option : NumberOption = record { name = c.args.name.now; least = c.args.least; most = c.args.most; default = c.args.default } in
    let told = number_told (λ bs r. ParsesUnsigned 32 10 bs r × ExplainsUnsignedError 10 bs r × HasUnsignedDigitsIfOk bs r) option (one_text (found_of c.args.matches.now) c.args.name.now) c.try_get_one.result c.ranges.most.fits (λ t x g. g.0) c.try_get_one.ensures.none c.try_get_one.ensures.value in
    (rw c.in-Err.is at told) ∙ ap (number_or_default option) (one_text-rows (found_of c.args.matches.now) c.args.name.now)
