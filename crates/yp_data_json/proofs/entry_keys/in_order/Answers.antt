use Rattle.std.proofs.Common.{◌+◌, drop, refl, sym, ap, subst, ◌∙◌, drop_of_length-le}
use Rattle.yp_data_json.specs.Writing.{with_keys}
use Rattle.yp_data_json.specs.EntryKeys.{IsPlaceOf, among}
use Rattle.yp_data_json.proofs.Parts.{next_at, none_left}
use Rattle.yp_data_json.proofs.KeysPut.{none_put}
use Rattle.yp_data_json.proofs.KeysAmong.{one_more_key, one_more_put}
use Rattle.yp_data_json.proofs.entry_keys.in_order.Goals as goal
use Rattle.yp_data_json.proofs.entry_keys.in_order.Goals.{else-loop-value-test, then-loop-value-test+in-None}

pub loop-value-preserved : goal.loop-value-preserved
loop-value-preserved c =
    let l = c.loop-value in
    let nodes = c.args.schema.now in
    let leaf = c.in-Some.leaf.now in
    let later = c.in-Some.later.now in
    let left = c.in-Some.ensures.cases.0 in
    let made = l.made.items in
    let now = c.insert.new.self.items in
    let place = c.place_of-place.result in
    let at = subst (λ ks. IsPlaceOf leaf ks place) c.as_slice.ensures.value c.place_of-place.ensures in
    let new = c.in_ok-insert-in-Some.ensures.items in
    let rest = next_at c.args.keys.now l.value-index c.value-item.result c.loop-value-test.true c.value-item.is in
    let holds = one_more_key nodes c.args.node l.left.now leaf later made now place _ left refl new at l.invariant.holds in record {
      holds = holds;
      same = λ ms. one_more_put nodes c.requires.schema c.args.node l.left.now leaf later (drop l.value-index c.args.keys.now) c.value-item.result (drop (l.value-index + 1) c.args.keys.now) made now place _ ms left rest refl refl new at l.invariant.holds holds
          ∙ l.invariant.same ms;
    }

pub returns-clause-same : goal.returns-clause-same
returns-clause-same c =
    let l = c.loop-value in
    let nodes = c.args.schema.now in
    λ ms.
    let all = among nodes l.made.items ms in
    elim c.loop-value-test.branch [
      | else-loop-value-test w ↦ sym (ap (λ ks. with_keys nodes l.left.now ks all) (drop_of_length-le c.args.keys.now w.loop-value-test.false) ∙ none_put nodes l.left.now all) ∙ l.invariant.same ms
      | then-loop-value-test+in-None w ↦ sym (ap (λ ks. with_keys nodes ks (drop l.value-index c.args.keys.now) all) (none_left l.left.now w.in-None.ensures.cases)) ∙ l.invariant.same ms
    ]
