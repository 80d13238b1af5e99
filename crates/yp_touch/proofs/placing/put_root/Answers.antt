use Rattle.std.proofs.Common.{◌≡◌, List, drop, map, not, sym, ap, subst, ◌∙◌}
use Rattle.std.specs.Prelude.{filter}
use Rattle.yp_base.specs.declared.path.Seg.{Seg}
use Rattle.yp_base.specs.Order.{is_within}
use Rattle.yp_touch.specs.Looked.{StandsAt}
use Rattle.yp_touch.specs.RootLaws.{has_root}
use Rattle.yp_touch.proofs.Standing.{placed, flags_placed}
use Rattle.yp_touch.proofs.placing.put_root.Goals as goal

pub returns-in-Some-clause-paths : goal.returns-in-Some-clause-paths
returns-in-Some-clause-paths c =
    let path = c.args.root.path in
    let at = c.in-Some.at in
    let end = c.end_below-end.result in
    c.put_range.ensures.items
    ∙ sym (placed path c.args.paths.now.items at end
    (subst (λ (paths : List (List Seg)). StandsAt path paths at) c.as_slice.ensures.value c.in-Some.ensures.place)
    (sym (c.in-Some.ensures.covered ∙ ap (has_root path) c.as_slice.ensures.value))
    (subst (λ (paths : List (List Seg)). filter (λ other. not (is_within path other)) (drop at paths) ≡ drop end paths) c.as_slice-in-Some.ensures.value c.end_below-end.ensures.left))

pub returns-in-Some-clause-flags : goal.returns-in-Some-clause-flags
returns-in-Some-clause-flags c was told is =
    c.put_range-in-Some.ensures.items
    ∙ flags_placed was c.args.root.path c.args.paths.now.items c.args.flags.now.items c.args.root.was c.in-Some.at c.end_below-end.result told is
    ∙ ap (map was) (sym c.put_range.ensures.items)
