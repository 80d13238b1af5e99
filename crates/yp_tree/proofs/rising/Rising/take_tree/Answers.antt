use Rattle.std.proofs.Common.{◌≡◌, List, [], sym, ap, subst, ◌∙◌}
use Rattle.std.specs.Prelude.{Result, Ok, Err, IfOk}
use Rattle.yp_base.specs.declared.row.Row.{Row}
use Rattle.yp_base.specs.Rows.{AreInOrder, put_rows}
use Rattle.yp_base.specs.RowLaws.{none_order, put_to_none}
use Rattle.yp_tree.specs.Risen.{kept_rows}
use Rattle.yp_tree.specs.declared.rising.Kept.{Kept}
use Rattle.yp_tree.proofs.rising.Rising.take_tree.Goals as goal

-- rows that are kept while there is a tree of them
none_kept : (kept : Kept) (rows : List Row) → kept_rows kept ≡ rows → rows ≡ [] → AreInOrder (kept_rows kept)
none_kept kept rows is none = subst AreInOrder (sym (is ∙ none)) none_order

-- a tree of rows in order has them
tree_of_order : {E : Type 0} (tree : Result (List Row) E) (items rows : List Row) → items ≡ rows → AreInOrder rows → IfOk tree (λ made. made ≡ put_rows items []) → IfOk tree (λ made. made ≡ rows)
tree_of_order (Ok made) items rows same order is = is ∙ ap (λ (some : List Row). put_rows some []) same ∙ put_to_none rows order
tree_of_order (Err e) items rows same order is = tt

pub invariant_of-self : goal.invariant_of-self
invariant_of-self c = none_kept c.replace.new.dest c.new.result.items (ap kept_rows c.replace.ensures.after) c.new.ensures.items

pub invariant_of-self-else-is_err : goal.invariant_of-self-else-is_err
invariant_of-self-else-is_err c = none_kept c.replace.new.dest c.new.result.items (ap kept_rows c.replace.ensures.after) c.new.ensures.items

pub returns-after-is_err-clause-rows : goal.returns-after-is_err-clause-rows
returns-after-is_err-clause-rows c =
    tree_of_order c.of_slice-tree.result c.as_slice.result.now c.args.self.now (c.as_slice.ensures.value ∙ ap kept_rows c.in-Appended.ensures.value ∙ c.self.view_is)
    (subst AreInOrder c.self.view_is c.self.invariant) c.of_slice-tree.ensures
