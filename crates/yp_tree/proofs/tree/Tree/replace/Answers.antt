use Rattle.std.proofs.Common.{ap, sym, subst, ◌∙◌}
use Rattle.std.specs.List.Sorted.{IsStrictlySortedBy}
use Rattle.yp_base.specs.Order.{path_cmp}
use Rattle.yp_base.specs.declared.path.Seg.{Seg}
use Rattle.std.proofs.Common.{List}
use Rattle.yp_tree.proofs.Rows.{put_row-insert, paths-rows, value_at-lookup, when_failed}
use Rattle.yp_base.specs.Rows.{put_row, value_at, rows_of}
use Rattle.yp_tree.proofs.tree.Tree.replace.Goals as goal

pub invariant_of-self-2 : goal.invariant_of-self-2
invariant_of-self-2 c = subst (λ (ps : List (List Seg)). IsStrictlySortedBy path_cmp ps) (sym (paths-rows c.insert.new.self.entries)) c.insert.ensures.ordered

pub returns-clause-rows : goal.returns-clause-rows
returns-clause-rows c = ap rows_of c.in_ok-before.ensures.entries ∙ put_row-insert c.args.row.path c.args.row.value c.self.inside.kept.entries ∙ ap (put_row c.args.row) c.self.view_is

pub returns-in_err-before-clause-room : goal.returns-in_err-before-clause-room
returns-in_err-before-clause-room c = when_failed c.from_residual.result (sym (ap (value_at c.args.row.path) c.self.view_is) ∙ sym (value_at-lookup c.args.row.path c.self.inside.kept.entries) ∙ c.in_err-before.ensures.absent)

pub returns-clause-before : goal.returns-clause-before
returns-clause-before c = c.in_ok-before.ensures.old ∙ value_at-lookup c.args.row.path c.self.inside.kept.entries ∙ ap (value_at c.args.row.path) c.self.view_is
