use Rattle.std.proofs.Common.{List, [], ◌++◌, append-nil, ap, sym, subst, ◌∙◌, ◌≡◌}
use Rattle.std.proofs.lemmas.Result.{IfOk-weaker}
use Rattle.yp_base.specs.declared.row.Row.{Row}
use Rattle.yp_base.specs.RowLaws.{put_to_none}
use Rattle.yp_base.specs.Rows.{AreInOrder, put_rows, rows_of}
use Rattle.yp_tree.proofs.tree.TreeDuplicate.copy.Goals as goal

pub returns : goal.returns
returns c =
    let copied = rows_of c.loop-path.entries.items in
    let all : copied ≡ c.args.self.now = sym (append-nil copied) ∙ ap (λ es. copied ++ rows_of es) (sym c.in_default.ensures.steps.0) ∙ c.loop-path.invariant in
    IfOk-weaker c.of_entries.result _ _ (λ tree is. is ∙ ap (λ (rows : List Row). put_rows rows []) all ∙ put_to_none c.args.self.now (subst AreInOrder c.self.view_is c.self.invariant)) c.of_entries.ensures
