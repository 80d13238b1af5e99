use Rattle.std.proofs.Common.{get_or, refl, sym, subst, ap, ◌∙◌, ◌<◌}
use Rattle.std.proofs.Common.{ℕ}
use Rattle.std.proofs.lemmas.List.{length-set, take_all}
use Rattle.yp_tree.specs.Scattered.{rows_at}
use Rattle.yp_tree.proofs.Merging.{all_of, found_there, left_more, one_more_taken}
use Rattle.yp_tree.proofs.scattered.taken_at.Goals as goal

pub loop-place-init : goal.loop-place-init
loop-place-init c = record { count = refl; so_far = c.in_ok-taken.ensures.items; left = refl }

pub loop-place-preserved : goal.loop-place-preserved
loop-place-preserved c =
    let rows = c.args.rows.now.items in
    let now = c.loop-place.rows.items in
    let places = c.args.places.now in
    let k = c.loop-place.place-index in
    let less = c.loop-place-test.true in
    let there = subst (λ (n : ℕ). get_or places k 0 < n) (sym c.loop-place.invariant.count) (all_of places k rows c.requires.there less) in
    record {
      count = length-set now (get_or places k 0) c.replace.new.dest ∙ c.loop-place.invariant.count;
      so_far =
          one_more_taken rows now c.loop-place.taken.items c.push.new.self.items places k c.replace.result less c.loop-place.invariant.left
          (found_there now (get_or places k 0) c.index_mut.result.now there c.index_mut.ensures.value ∙ sym c.replace.ensures.value) c.loop-place.invariant.so_far c.in_ok-push.ensures.items;
      left = left_more rows now places k c.replace.new.dest c.requires less c.loop-place.invariant.left;
    }

pub returns : goal.returns
returns c = c.loop-place.invariant.so_far ∙ ap (rows_at c.args.rows.now.items) (take_all c.loop-place.place-index c.args.places.now c.loop-place-test.false)
