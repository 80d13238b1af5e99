use Rattle.std.proofs.Common.{◌≡◌, List, ◌∙◌, refl, sym, subst, map, OnOk, arith}
use Rattle.std.proofs.lemmas.List.{nil_from_length}
use Rattle.yp_base.specs.declared.row.Row.{Row}
use Rattle.yp_base.specs.Rows.{path_of, put_rows, rows_within}
use Rattle.yp_tree.specs.Listed.{without_others}
use Rattle.yp_tree.proofs.Cuts.{others_are_all}
use Rattle.yp_tree.proofs.Renewal.{renewed}
use Rattle.yp_tree.proofs.tree.Tree.renew.Goals as goal

pub returns-then-is_empty-clause-rows : goal.returns-then-is_empty-clause-rows
returns-then-is_empty-clause-rows c =
    let under = c.args.under.now in
    let old = c.args.self.now in
    let none = nil_from_length c.in_ok-paths.paths.items (grind (arith, c.is_empty.ensures, c.if-is_empty.true)) in
    subst (λ (rows : List Row). OnOk c.put_all.result (c.put_all.new.self ≡ put_rows c.args.rows.now rows)) (sym (others_are_all under old (sym c.in_ok-paths.ensures ∙ none))) c.put_all.ensures.rows

pub returns-clause-rows : goal.returns-clause-rows
returns-clause-rows c =
    let paths : c.as_slice.result.now ≡ map path_of (rows_within c.args.under.now c.args.self.now) = c.as_slice.ensures.value ∙ c.in_ok-paths.ensures in
    c.leave_out_others.ensures
    ∙ (λ i. without_others (paths i) (c.in_ok-news.ensures i) (c.in_ok-put_all.ensures.rows i))
    ∙ renewed c.args.rows.now c.args.under.now (map path_of (rows_within c.args.under.now c.args.self.now)) c.args.self.now c.len.ensures.order refl
