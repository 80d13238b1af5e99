use Rattle.std.proofs.Common.{◌≡◌, drop}
use Rattle.yp_receiver.specs.Gone.{without_paths}
use Rattle.yp_receiver.proofs.changing.take_out.Given as goal

-- to take out the paths that are left comes to what all come to
abbrev pub invariant-loop-path : goal.invariant-loop-path
invariant-loop-path l = without_paths (drop l.path-index l.paths) l.tree ≡ without_paths l.paths l.fn.tree
