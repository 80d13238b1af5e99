use Rattle.std.proofs.Common.{◌≡◌, ◌++◌, map}
use Rattle.yp_base.specs.Rows.{path_of, rows_within, rows_of}
use Rattle.yp_tree.proofs.Cuts.{front_within}
use Rattle.yp_tree.proofs.tree.Tree.paths_within.Given as goal

abbrev pub invariant-loop-path : goal.invariant-loop-path
invariant-loop-path l = l.paths.items ++ map path_of (rows_of (front_within l.under l.rows)) ≡ map path_of (rows_within l.under l.self)
