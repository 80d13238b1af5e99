use Rattle.std.proofs.Common.{◌≡◌, ◌++◌, ◌∷◌, [], ◌-◌, ◌+◌, ◌∙◌, sym, ap, subst, length, List, arith, None, drop}
use Rattle.std.specs.Prelude.{slice_get}
use Rattle.std.proofs.lemmas.List.Sorted.{list_any-IsPermutation, length_permutation}
use Rattle.yp_base.specs.declared.path.Seg.{Seg}
use Rattle.yp_base.specs.Order.{is_within}
use Rattle.yp_select.specs.Reaches.{StandApart, is_below}
use Rattle.yp_select.proofs.Tops.{tops_after, is_covered, pushed, all_taken, sorted_rise, tops_apart, tops_same, tops_few}
use Rattle.yp_select.proofs.reached.tops_of.Goals as goal

pub loop-path-preserved : goal.loop-path-preserved
loop-path-preserved c =
    let tops = c.loop-path.tops.items in
    let items = c.deref-path-items.result.now in
    let path = c.path-item.result in
    let is : c.push.new.self.items ≡ tops ++ path ∷ [] = c.in_ok-push.ensures.items ∙ ap (λ p. tops ++ p ∷ []) c.in_ok-copy.ensures in
    let apart = c.if-is_below_last.ensures ∙ ap (λ xs. is_covered (slice_get xs (length xs - 1)) path) c.as_slice.ensures.value in
    subst (λ (xs : List (List Seg)). xs ++ tops_after (slice_get xs (length xs - 1)) (drop (c.loop-path.path-index + 1) items) ≡ tops_after None items) (sym is)
    (pushed tops items (tops_after None items) c.loop-path.path-index path c.loop-path-test.true c.path-item.is c.loop-path.invariant apart)

pub returns-clause-apart : goal.returns-clause-apart
returns-clause-apart c =
    subst StandApart (sym (all_taken c.loop-path.tops.items c.deref-path-items.result.now c.sort.new.self.items c.loop-path.path-index c.loop-path.invariant c.loop-path-test.false c.deref-path-items.ensures.value)) (tops_apart c.sort.new.self.items (sorted_rise c.sort.new.self.items c.in_ok-sort.ensures.sorted))

pub returns-clause-same : goal.returns-clause-same
returns-clause-same c = λ path.
    ap (λ tops. is_below tops path) (all_taken c.loop-path.tops.items c.deref-path-items.result.now c.sort.new.self.items c.loop-path.path-index c.loop-path.invariant c.loop-path-test.false c.deref-path-items.ensures.value)
    ∙ tops_same c.sort.new.self.items path
    ∙ sym (list_any-IsPermutation (λ each. is_within each path) c.args.paths.items c.sort.new.self.items c.in_ok-sort.ensures.permutation)

pub returns-clause-few : goal.returns-clause-few
returns-clause-few c =
    let all = all_taken c.loop-path.tops.items c.deref-path-items.result.now c.sort.new.self.items c.loop-path.path-index c.loop-path.invariant c.loop-path-test.false c.deref-path-items.ensures.value in
    omega (arith, ap (λ xs. length xs) all, tops_few None c.sort.new.self.items, length_permutation c.args.paths.items c.sort.new.self.items c.in_ok-sort.ensures.permutation)
