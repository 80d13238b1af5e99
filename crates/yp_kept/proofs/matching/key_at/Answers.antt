use Rattle.std.proofs.Common.{◌∙◌, sym, ap, option_copied}
use Rattle.yp_kept.specs.Matches.{key_among}
use Rattle.yp_kept.proofs.Keys.{key_last}
use Rattle.yp_kept.proofs.matching.key_at.Goals as goal

pub returns-in-Some : goal.returns-in-Some
returns-in-Some c =
    c.key_among.ensures ∙ (λ i. key_among c.args.node (c.keys.ensures.keys i) (c.items.ensures i))
    ∙ key_last c.args.schema.now c.args.at.now c.args.node c.in-Some.segment.now (sym c.last.ensures.value ∙ ap option_copied c.in-Some.is)
