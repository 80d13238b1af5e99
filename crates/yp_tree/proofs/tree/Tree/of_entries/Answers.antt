use Rattle.std.proofs.Common.{◌∙◌}
use Rattle.std.specs.BTreeMap.{IsFromIterResult}
use Rattle.std.proofs.lemmas.Iterator.Adapters.{YieldsList-from_vec, fact_from_collect}
use Rattle.std.proofs.lemmas.Result.{IfOk-at_ok}
use Rattle.yp_base.specs.Order.{path_cmp}
use Rattle.yp_tree.proofs.Gathered.{made_order, made_rows}
use Rattle.yp_tree.proofs.tree.Tree.of_entries.Goals as goal

made : (c : goal.In_ok-kept) → IsFromIterResult path_cmp c.args.entries.items c.in_ok-kept.kept
made c =
    IfOk-at_ok (IsFromIterResult path_cmp c.args.entries.items) c.in_ok-kept.was
    (fact_from_collect (IsFromIterResult path_cmp) c.collect.result c.collect.ensures.ran (YieldsList-from_vec c.args.entries.items c.into_iter.ensures.rest (c.into_iter.ensures.len ∙ c.args.entries.ok.0)))

pub returns : goal.returns
returns c = made_rows c.in_ok-kept.kept c.args.entries.items (made c)

pub invariant_of-result : goal.invariant_of-result
invariant_of-result c = made_order c.in_ok-kept.kept c.args.entries.items (made c)
