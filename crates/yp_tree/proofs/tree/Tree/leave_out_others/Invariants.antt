use Rattle.std.proofs.Common.{◌≡◌, drop}
use Rattle.yp_tree.specs.Listed.{without_others}
use Rattle.yp_tree.proofs.tree.Tree.leave_out_others.Given as goal

abbrev pub invariant-loop-path : goal.invariant-loop-path
invariant-loop-path l = without_others (drop l.path-index l.paths) l.news l.self ≡ without_others l.paths l.news l.fn.self
