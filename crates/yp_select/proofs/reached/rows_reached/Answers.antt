use Rattle.std.proofs.Common.{◌≡◌, ◌||◌, List, ap, ◌∙◌}
use Rattle.yp_base.specs.declared.path.Seg.{Seg}
use Rattle.yp_base.specs.RowLaws.{picked}
use Rattle.yp_base.specs.Results.{same_answer}
use Rattle.yp_select.specs.Reaches.{is_one_of, is_below, is_reached}
use Rattle.yp_select.proofs.Those.{those_same, those_are}
use Rattle.yp_select.proofs.reached.rows_reached.Goals as goal

pub returns-clause-rows : goal.returns-clause-rows
returns-clause-rows g c =
    let tree = c.args.tree.now in
    let own = c.args.reaches.own.items in
    let below = c.args.reaches.below.items in
    let tops = c.as_slice-2.result.now in
    let same : (other : List Seg) → is_below tops other ≡ is_below below other = λ other. ap (λ paths. is_below paths other) c.as_slice-2.ensures.value ∙ c.in_ok-tops.ensures.same other in
    let those = those_same (λ other. is_one_of c.as_slice.result.now other || is_below tops other) (is_reached own below) tree c.add_all_below.new.rows
    (λ other i. is_one_of (c.as_slice.ensures.value i) other || same other i)
    (c.in_ok-add_all_below.ensures.those (is_one_of c.as_slice.result.now) c.in_ok-rows.ensures.those) in
    same_answer c.into_rows.result c.add_all_below.new.rows (picked (is_reached own below) tree) (those_are (is_reached own below) tree c.add_all_below.new.rows c.len-count.ensures.order c.in_ok-add_all_below.ensures.order those) c.into_rows.ensures
