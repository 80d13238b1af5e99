use Rattle.std.proofs.Common.{◌≡◌, ◌==◌, ◌&&◌, true, get_or, sym, ◌∙◌}
use Rattle.std.proofs.lemmas.Bool.{eqb-true, and_parts}
use Rattle.yp_path.specs.RulePaths.{is_unquoted}
use Rattle.yp_path.proofs.Pieces.{cut_here}
use Rattle.yp_path.proofs.mark.first_mark.Goals as goal

pub returns-then-is_cut : goal.returns-then-is_cut
returns-then-is_cut c =
    let cuts : (get_or c.args.text.now c.loop-i.i 0 == c.args.mark && is_unquoted c.loop-i.place) ≡ true = sym c.is_cut.ensures ∙ c.if-is_cut.true in
    (c.loop-i-test.true, eqb-true _ _ (and_parts _ _ cuts).0, cut_here c.args.mark c.loop-i.place c.args.text.now _ c.loop-i.i c.loop-i.invariant c.loop-i-test.true cuts)
