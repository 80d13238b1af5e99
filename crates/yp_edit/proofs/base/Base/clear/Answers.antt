use Rattle.std.proofs.Common.{map, ap, ◌∙◌}
use Rattle.yp_base.specs.Rows.{path_of, has_within}
use Rattle.yp_edit.specs.Bases.{Touched, left, untouched}
use Rattle.yp_edit.proofs.base.Base.clear.Goals as goal

pub invariant_of-self : goal.invariant_of-self
invariant_of-self c =
    let rows = c.self.inside.tree.now in
    let paths = map path_of c.self.inside.touched in (
      c.self.invariant.0,
      c.self.invariant.1,
      ap (λ path. has_within path (left paths rows)) c.in_ok-copy.ensures ∙ ap (λ (b : Touched). has_within c.args.target.now (untouched b)) c.self.view_is ∙ c.requires,
      c.self.invariant.3,
    )
