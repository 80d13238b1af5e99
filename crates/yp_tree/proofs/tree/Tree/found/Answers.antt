use Rattle.std.proofs.Common.{ap, ◌∙◌}
use Rattle.yp_tree.proofs.Rows.{value_at-lookup}
use Rattle.yp_base.specs.Rows.{value_at}
use Rattle.yp_tree.proofs.tree.Tree.found.Goals as goal

pub returns : goal.returns
returns c = c.get.ensures.value ∙ value_at-lookup c.args.path.now c.self.inside.kept.entries ∙ ap (value_at c.args.path.now) c.self.view_is
