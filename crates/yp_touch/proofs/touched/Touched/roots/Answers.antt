use Rattle.std.proofs.Common.{sym, ap, ◌∙◌}
use Rattle.yp_touch.specs.Absorbed.{paths_of}
use Rattle.yp_touch.proofs.Absorbing.{flagged_paths}
use Rattle.yp_touch.proofs.touched.Touched.roots.Goals as goal

pub returns : goal.returns
returns c = c.as_slice.ensures.value ∙ sym (flagged_paths c.self.inside.paths.items c.self.inside.flags.items c.self.invariant.0) ∙ ap paths_of c.self.view_is
