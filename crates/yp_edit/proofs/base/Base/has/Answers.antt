use Rattle.std.proofs.Common.{ap, sym, ◌∙◌, map}
use Rattle.std.specs.Prelude.{is_some}
use Rattle.yp_base.specs.Rows.{path_of, value_at}
use Rattle.yp_edit.specs.Bases.{Touched, untouched}
use Rattle.yp_edit.proofs.Bases.{touched_gone, other_there, is_some_copied}
use Rattle.yp_edit.proofs.Touching.{listed_there}
use Rattle.yp_edit.proofs.base.Base.has.Goals as goal

pub returns-then-has : goal.returns-then-has
returns-then-has g c =
    sym (ap (λ (b : Touched). is_some (value_at c.args.path.now (untouched b))) (sym c.self.view_is)
    ∙ ap is_some (touched_gone c.args.path.now (map path_of c.self.inside.touched) c.self.inside.tree.now (listed_there c.args.path.now c.self.inside.touched ∙ sym c.has.ensures ∙ c.if-has.true)))

pub returns : goal.returns
returns g c =
    c.is_some.ensures ∙ sym (is_some_copied c.get.result) ∙ ap is_some (
    c.get.ensures.found
    ∙ sym (other_there c.args.path.now (map path_of c.self.inside.touched) c.self.inside.tree.now (listed_there c.args.path.now c.self.inside.touched ∙ sym c.has.ensures ∙ c.if-has.false)))
    ∙ ap (λ (b : Touched). is_some (value_at c.args.path.now (untouched b))) c.self.view_is
