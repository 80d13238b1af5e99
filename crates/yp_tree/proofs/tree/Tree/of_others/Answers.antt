use Rattle.std.proofs.Common.{List, [], ◌++◌, ap, ◌∙◌, ◌≡◌}
use Rattle.std.proofs.lemmas.Result.{IfOk-weaker}
use Rattle.yp_base.specs.declared.row.Row.{Row}
use Rattle.yp_base.specs.Rows.{put_rows, rows_of, rows_without}
use Rattle.yp_tree.proofs.Gathered.{puts_behind}
use Rattle.yp_tree.proofs.tree.Tree.of_others.Goals as goal

pub returns : goal.returns
returns c =
    let under = c.args.under.now in
    let old = c.args.self.now in
    let all : rows_of c.add_copies.new.entries.items ≡ rows_without under old ++ c.args.rows.now =
    c.in_ok-add_copies.ensures ∙ ap (λ (rows : List Row). rows_of c.in_ok-entries.entries.items ++ rows) c.items.ensures ∙ ap (λ (rows : List Row). rows ++ c.args.rows.now) c.in_ok-entries.ensures in
    IfOk-weaker c.of_entries.result _ _ (λ tree is. is ∙ ap (λ (rows : List Row). put_rows rows []) all ∙ puts_behind under old c.args.rows.now c.len-count.ensures.order) c.of_entries.ensures
