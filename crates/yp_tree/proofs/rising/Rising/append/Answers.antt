use Rattle.std.proofs.Common.{◌≡◌, true, List, [], ◌∷◌, ◌++◌, sym, ap, subst, ◌∙◌}
use Rattle.yp_base.specs.declared.row.Row.{Row}
use Rattle.yp_base.specs.Rows.{AreInOrder, value_at, put_row}
use Rattle.yp_base.specs.RowLaws.{put_last_row, not_there_yet}
use Rattle.yp_tree.specs.Risen.{is_past, kept_rows}
use Rattle.yp_tree.specs.declared.rising.Kept.{Kept}
use Rattle.yp_tree.proofs.Appending.{last_order}
use Rattle.yp_tree.proofs.rising.Rising.append.Goals as goal

-- rows that are kept by being appended are in order with one that comes past them
with_last : (kept : Kept) (rows items : List Row) (row : Row) → kept_rows kept ≡ rows → items ≡ rows → AreInOrder (kept_rows kept) → is_past row.path items ≡ true → AreInOrder (rows ++ row ∷ [])
with_last kept rows items row is same order past = last_order rows row (subst AreInOrder is order) (sym (ap (is_past row.path) same) ∙ past)

pub invariant_of-self-then-is_past : goal.invariant_of-self-then-is_past
invariant_of-self-then-is_past c =
    subst AreInOrder (sym c.in_ok-push.ensures.items)
    (with_last c.self.inside.kept c.in-Appended.rows.items c.as_slice.result.now c.args.row (ap kept_rows c.in-Appended.is) c.as_slice.ensures.value c.self.invariant (sym c.is_past.ensures ∙ c.if-is_past.true))

pub returns-then-is_past-clause-rows : goal.returns-then-is_past-clause-rows
returns-then-is_past-clause-rows c =
    let rows = c.in-Appended.rows.items in
    c.in_ok-push.ensures.items
    ∙ sym (put_last_row rows c.args.row [] (with_last c.self.inside.kept rows c.as_slice.result.now c.args.row (ap kept_rows c.in-Appended.is) c.as_slice.ensures.value c.self.invariant (sym c.is_past.ensures ∙ c.if-is_past.true)))
    ∙ ap (put_row c.args.row) (sym (ap kept_rows c.in-Appended.is) ∙ c.self.view_is)

pub returns-then-is_past-clause-absent : goal.returns-then-is_past-clause-absent
returns-then-is_past-clause-absent c =
    let rows = c.in-Appended.rows.items in
    ap (value_at c.args.row.path) (sym (sym (ap kept_rows c.in-Appended.is) ∙ c.self.view_is))
    ∙ not_there_yet rows c.args.row [] (with_last c.self.inside.kept rows c.as_slice.result.now c.args.row (ap kept_rows c.in-Appended.is) c.as_slice.ensures.value c.self.invariant (sym c.is_past.ensures ∙ c.if-is_past.true))
