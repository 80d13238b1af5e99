use Rattle.std.proofs.Common.{List, ap, sym, subst, ◌∙◌}
use Rattle.std.specs.List.Sorted.{IsStrictlySortedBy}
use Rattle.yp_base.specs.declared.path.Seg.{Seg}
use Rattle.yp_base.specs.Order.{path_cmp}
use Rattle.yp_base.specs.Rows.{value_at, rows_of}
use Rattle.yp_tree.proofs.Rows.{paths-rows, value_at-lookup, without_row-remove}
use Rattle.yp_tree.specs.Listed.{without_row}
use Rattle.yp_tree.proofs.tree.Tree.remove.Goals as goal

pub invariant_of-self : goal.invariant_of-self
invariant_of-self c = subst (λ (ps : List (List Seg)). IsStrictlySortedBy path_cmp ps) (sym (paths-rows c.remove.new.self.entries)) c.remove.ensures.ordered

pub returns-clause-value : goal.returns-clause-value
returns-clause-value c = c.remove.ensures.value ∙ value_at-lookup c.args.path.now c.self.inside.kept.entries ∙ ap (value_at c.args.path.now) c.self.view_is

pub returns-clause-rest : goal.returns-clause-rest
returns-clause-rest c = ap rows_of c.remove.ensures.entries ∙ without_row-remove c.args.path.now c.self.inside.kept.entries ∙ ap (without_row c.args.path.now) c.self.view_is
