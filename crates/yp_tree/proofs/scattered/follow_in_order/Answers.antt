use Rattle.std.proofs.Common.{◌∷◌, [], refl, sym, ap, subst, ◌∙◌}
use Rattle.std.specs.Ordering.{is_lt}
use Rattle.std.proofs.lemmas.Bool.{ltb-true}
use Rattle.std.proofs.Common.{get_or, length}
use Rattle.std.proofs.lemmas.List.{take_all}
use Rattle.std.proofs.lemmas.Option.{get_or_from_slice_get, slice_get_within}
use Rattle.yp_base.specs.PathLaws.{less_told}
use Rattle.yp_tree.specs.Scattered.{AreOrdered, no_row}
use Rattle.yp_tree.proofs.Merging.{last_more, one_ordered, ordered_more}
use Rattle.yp_tree.proofs.scattered.follow_in_order.Goals as goal

pub loop-place-init : goal.loop-place-init
loop-place-init c = record {
  ordered = one_ordered c.args.rows.now c.args.first (slice_get_within c.args.rows.now c.args.first c.args.row.now c.requires);
  last = record { before = []; place = c.args.first; parts = refl; is = sym (get_or_from_slice_get c.args.rows.now c.args.first c.args.row.now no_row c.requires) };
}

pub loop-place-preserved : goal.loop-place-preserved
loop-place-preserved c =
    let rows = c.args.rows.now in
    let place = get_or c.args.later.now c.loop-place.place-index 0 in
    let there = ltb-true place (length rows) (sym c.in-Some.ensures.lookup.0) in
    record {
      ordered =
          ordered_more rows c.args.first c.args.later.now c.loop-place.place-index c.loop-place.last.now c.in-Some.next.now c.loop-place-test.true c.loop-place.invariant.last c.loop-place.invariant.ordered there
          c.in-Some.ensures.lookup.1 (less_told _ (ap is_lt (sym c.cmp.ensures) ∙ sym c.is_lt.ensures ∙ c.if-is_lt.true));
      last = last_more rows c.args.first c.args.later.now c.loop-place.place-index c.in-Some.next.now c.loop-place-test.true there c.in-Some.ensures.lookup.1;
    }

pub returns : goal.returns
returns c = λ all. subst (λ places. AreOrdered c.args.rows.now (c.args.first ∷ places)) (take_all c.loop-place.place-index c.args.later.now c.loop-place-test.false) c.loop-place.invariant.ordered
