use Rattle.std.proofs.Common.{◌≡◌, sym, ap, ◌∙◌}
use Rattle.std.proofs.lemmas.Cmp.{tied_itself}
use Rattle.yp_base.specs.declared.atom.Atom.TheVariants.{Text}
use Rattle.yp_base.specs.Order.{atom_cmp}
use Rattle.yp_base.specs.OrderLaws.{atoms_total}
use Rattle.yp_base.specs.PathLaws.{texts_same}
use Rattle.yp_base.proofs.keys.is_same.Goals as goal

pub returns-in-Text-other : goal.returns-in-Text-other
returns-in-Text-other c same =
    let text = c.in-Text-other.other in
    let texts : atom_cmp c.args.one.now c.args.other.now ≡ atom_cmp (Text c.in-Text.one) (Text text) = λ i. atom_cmp (c.in-Text.is i) (c.in-Text-other.is i) in
    let one : atom_cmp (Text c.in-Text.one) (Text text) ≡ atom_cmp (Text text) (Text text) = ap (λ t. atom_cmp (Text t) (Text text)) (texts_same c.in-Text.one text (sym c.eq.ensures ∙ same)) in
    texts ∙ (one ∙ tied_itself atoms_total (Text text))
