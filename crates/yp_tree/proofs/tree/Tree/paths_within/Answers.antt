use Rattle.std.proofs.Common.{◌++◌, ap, ◌∙◌, map}
use Rattle.yp_base.specs.Rows.{path_of, rows_within, rows_of}
use Rattle.yp_tree.proofs.Cuts.{front_within, within_comes_first}
use Rattle.yp_tree.proofs.tree.Tree.paths_within.Goals as goal

pub loop-path-init : goal.loop-path-init
loop-path-init c =
    ap (λ paths. paths ++ map path_of (rows_of (front_within c.args.under.now c.range-rows.result))) c.new-paths.ensures.items
    ∙ ap (λ es. map path_of (rows_of (front_within c.args.under.now es))) (c.range-rows.ensures.between tt)
    ∙ ap (map path_of) (within_comes_first c.args.under.now c.self.inside.kept.entries c.self.invariant ∙ ap (rows_within c.args.under.now) c.self.view_is)
