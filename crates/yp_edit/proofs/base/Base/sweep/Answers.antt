use Rattle.std.proofs.Common.{◌≡◌, false, map, ap, ◌∙◌}
use Rattle.yp_base.specs.Rows.{path_of, has_within}
use Rattle.yp_edit.specs.Bases.{Touched, left, untouched}
use Rattle.yp_edit.proofs.Bases.{more_bare}
use Rattle.yp_edit.proofs.base.Base.sweep.Goals as goal

pub invariant_of-self-2 : goal.invariant_of-self-2
invariant_of-self-2 c =
    let rows = c.self.inside.tree.now in
    let paths = map path_of c.self.inside.touched in
    let none : has_within c.args.target.now (left paths rows) ≡ false = ap (λ (b : Touched). has_within c.args.target.now (untouched b)) c.self.view_is ∙ c.requires in (
      more_bare c.in_ok-copy.field-0 rows paths c.self.inside.bare.keys c.insert.new.self.keys c.self.inside.count c.self.invariant.0
          (λ q. c.in_ok-insert.ensures.updates.0 q)
          (ap (λ path. has_within path (left paths rows)) c.in_ok-copy.ensures ∙ none),
      c.self.invariant.1,
      ap (λ path. has_within path (left paths rows)) c.in_ok-swept.ensures ∙ none,
      c.self.invariant.3,
    )
