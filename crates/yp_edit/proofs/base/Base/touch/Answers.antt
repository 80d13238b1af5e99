use Rattle.std.proofs.Common.{map, ap, sym, subst, ◌∙◌}
use Rattle.std.specs.Prelude.{option_copied}
use Rattle.yp_base.specs.Rows.{path_of, AreInOrder}
use Rattle.yp_edit.specs.Bases.{Touched, Touches, Loses}
use Rattle.yp_changes.specs.Among.{is_listed}
use Rattle.yp_edit.proofs.Bases.{touched_gone, none_at_left, loses_one, loses_none}
use Rattle.yp_edit.proofs.Touching.{listed_there}
use Rattle.yp_edit.proofs.base.Base.touch.Goals as goal

pub returns-then-is_clear-clause-lost : goal.returns-then-is_clear-clause-lost
returns-then-is_clear-clause-lost g c = loses_none c.args.path.now c.args.self.now (c.is_clear.ensures c.if-is_clear.true)

pub returns-then-has-clause-lost : goal.returns-then-has-clause-lost
returns-then-has-clause-lost g c =
    let paths = map path_of c.self.inside.touched in
    subst (λ (b : Touched). Loses c.args.path.now b b) c.self.view_is
    (loses_none c.args.path.now (record { rows = c.self.inside.tree.now; paths = paths }) (touched_gone c.args.path.now paths c.self.inside.tree.now (listed_there c.args.path.now c.self.inside.touched ∙ sym c.has.ensures ∙ c.if-has.true)))

pub keep-requires-clause-untouched : goal.keep-requires-clause-untouched
keep-requires-clause-untouched g c =
    ap (λ (b : Touched). is_listed c.args.path.now b.paths) c.find.ensures.same
    ∙ sym (ap (λ (b : Touched). is_listed c.args.path.now b.paths) c.self.view_is)
    ∙ listed_there c.args.path.now c.self.inside.touched
    ∙ sym c.has.ensures ∙ c.if-has.false

pub returns-in_ok-keep-clause-lost : goal.returns-in_ok-keep-clause-lost
returns-in_ok-keep-clause-lost g c =
    loses_one c.args.path.now c.args.self.now c.keep.new.self (subst (λ (b : Touched). AreInOrder b.rows) c.self.view_is c.self.invariant.0.in_order)
    (subst (λ (b : Touched). Touches c.args.path.now b c.keep.new.self) c.find.ensures.same c.in_ok-keep.ensures.touched)

pub returns-in_default-clause-lost : goal.returns-in_default-clause-lost
returns-in_default-clause-lost g c =
    subst (Loses c.args.path.now c.args.self.now) (sym c.find.ensures.same)
    (loses_none c.args.path.now c.args.self.now (none_at_left c.args.path.now c.args.self.now.paths c.args.self.now.rows (sym c.in_ok-value.ensures.found ∙ ap option_copied c.in_default.is)))
