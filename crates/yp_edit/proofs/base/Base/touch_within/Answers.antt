use Rattle.std.proofs.Common.{ap, sym, subst, ◌∙◌, map}
use Rattle.yp_base.specs.Rows.{path_of, has_within}
use Rattle.yp_edit.specs.Bases.{Touched, untouched, TouchesWithin}
use Rattle.yp_edit.proofs.Taking.{none_within}
use Rattle.yp_edit.proofs.Bases.{none_to_touch}
use Rattle.yp_edit.proofs.base.Base.touch_within.Goals as goal

pub returns-then-contains-clause-touched : goal.returns-then-contains-clause-touched
returns-then-contains-clause-touched g c =
    subst (λ (b : Touched). TouchesWithin c.args.target.now b b) c.self.view_is
    (none_to_touch c.args.target.now c.self.inside.tree.now (map path_of c.self.inside.touched) c.self.inside.bare.keys c.self.inside.count c.self.invariant.0 (sym c.contains.ensures ∙ c.if-contains.true))

pub sweep-requires : goal.sweep-requires
sweep-requires g c = ap (has_within c.args.target.now) c.in_ok-touch_rows.ensures.touched.others ∙ none_within c.args.target.now (untouched c.args.self.now)

pub clear-requires : goal.clear-requires
clear-requires g c = ap (has_within c.args.target.now) c.in_ok-touch_rows.ensures.touched.others ∙ none_within c.args.target.now (untouched c.args.self.now)
