use Rattle.std.proofs.Common.{ap, sym, ◌∙◌, map}
use Rattle.yp_base.specs.Rows.{path_of, value_at}
use Rattle.yp_edit.specs.Bases.{Touched, left, untouched}
use Rattle.yp_edit.proofs.Bases.{none_at_left}
use Rattle.yp_edit.proofs.Gaps.{none_in_gap}
use Rattle.yp_edit.proofs.Touching.{none_swept}
use Rattle.yp_edit.proofs.base.Base.is_clear.Goals as goal

pub returns-then-is_covered : goal.returns-then-is_covered
returns-then-is_covered c covered =
    ap (λ (b : Touched). value_at c.args.path.now (untouched b)) (sym c.self.view_is)
    ∙ none_swept c.self.inside.swept c.args.path.now (left (map path_of c.self.inside.touched) c.self.inside.tree.now) c.self.invariant.2 (sym c.is_covered.ensures ∙ covered)

pub returns-else-is_covered : goal.returns-else-is_covered
returns-else-is_covered c within =
    ap (λ (b : Touched). value_at c.args.path.now (untouched b)) (sym c.self.view_is)
    ∙ none_at_left c.args.path.now (map path_of c.self.inside.touched) c.self.inside.tree.now
    (none_in_gap c.self.inside.gap c.args.path.now c.self.inside.tree.now c.self.invariant.3 (sym c.is_in_gap.ensures ∙ within))
