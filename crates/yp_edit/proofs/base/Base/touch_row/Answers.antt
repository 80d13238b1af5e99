use Rattle.std.proofs.Common.{ap, sym, subst, ◌∙◌, map}
use Rattle.yp_base.specs.Rows.{path_of}
use Rattle.yp_edit.specs.Bases.{Touched, Touches}
use Rattle.yp_changes.specs.Among.{is_listed}
use Rattle.yp_edit.proofs.Touching.{listed_there, touched_already}
use Rattle.yp_edit.proofs.base.Base.touch_row.Goals as goal

pub returns-then-has-clause-touched : goal.returns-then-has-clause-touched
returns-then-has-clause-touched c =
    subst (λ (b : Touched). Touches c.args.path.now b b) c.self.view_is
    (touched_already c.args.path.now (record { rows = c.self.inside.tree.now; paths = map path_of c.self.inside.touched }) (listed_there c.args.path.now c.self.inside.touched ∙ sym c.has.ensures ∙ c.if-has.true))

pub keep-requires-clause-untouched : goal.keep-requires-clause-untouched
keep-requires-clause-untouched c =
    sym (ap (λ (b : Touched). is_listed c.args.path.now b.paths) c.self.view_is) ∙ listed_there c.args.path.now c.self.inside.touched ∙ sym c.has.ensures ∙ c.if-has.false
