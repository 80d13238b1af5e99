use Rattle.std.proofs.Common.{List, sym, subst}
use Rattle.yp_base.specs.declared.path.Seg.{Seg}
use Rattle.yp_edit.specs.Bases.{Touched}
use Rattle.yp_tree.specs.Gaps.{IsGap}
use Rattle.yp_edit.proofs.base.Base.keep_gap.Goals as goal

pub invariant_of-self : goal.invariant_of-self
invariant_of-self c = (
  c.self.invariant.0,
  c.self.invariant.1,
  c.self.invariant.2,
  subst (λ (from : List Seg). IsGap from c.args.end c.self.inside.tree.now) (sym c.in_ok-from.ensures) (subst (λ (b : Touched). IsGap c.args.from.now c.args.end b.rows) (sym c.self.view_is) c.requires),
)
