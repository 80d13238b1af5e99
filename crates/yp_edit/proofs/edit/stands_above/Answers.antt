use Rattle.std.proofs.Common.{◌≡◌, ◌<◌, ◌++◌, ◌∷◌, Bool, List, [], length, append_assoc, refl, ap, sym, ◌∙◌, subst}
use Rattle.std.specs.List.{AllByRecursion, list_all}
use Rattle.yp_base.specs.declared.path.Seg.{Seg}
use Rattle.yp_base.specs.Paths.{last_node}
use Rattle.yp_schema.specs.SchemaLaws.{last_node_append}
use Rattle.yp_edit.specs.Patches.{has_its_row, paths_above}
use Rattle.yp_edit.proofs.Ends.{each_within, first_to, one_further, one_fails}
use Rattle.yp_edit.proofs.edit.stands_above.Goals as goal

pub loop-segment-init : goal.loop-segment-init
loop-segment-init g c =
    let top : c.in_ok-above.above ≡ [] = c.in_ok-above.ensures in
    let test : List Seg → Bool = has_its_row c.args.schema.now c.args.trial.now.after in
    record {
      whole = ap (λ (path : List Seg). path ++ c.items-rest.result.now) top ∙ c.items-rest.ensures;
      nodes = subst (λ (path : List Seg). AllByRecursion (λ segment. segment.node < length c.args.schema.now) path) (sym c.items-rest.ensures) (each_within c.args.schema.now c.args.target.now c.requires);
      passed = ap test top;
      so_far = λ i. list_all (λ above. test (top i ++ above)) (paths_above (c.items-rest.ensures i));
    }

pub has_its_row-requires-clause-last : goal.has_its_row-requires-clause-last
has_its_row-requires-clause-last g c =
    ap last_node (first_to c.loop-segment.above c.in-Some.segment.now c.in-Some.more.now c.args.target.now c.loop-segment.rest.now c.in_ok-longer.longer c.len.result (length c.in-Some.more.now) c.loop-segment.invariant.whole c.in-Some.ensures.cases.0 c.len.ensures refl c.in_ok-longer.ensures)
    ∙ last_node_append c.loop-segment.above c.in-Some.segment.now

pub returns-then-not-has_its_row : goal.returns-then-not-has_its_row
returns-then-not-has_its_row g c =
    let test : List Seg → Bool = has_its_row c.args.schema.now c.args.trial.now.after in
    let whole : c.in_ok-longer.longer ≡ c.loop-segment.above ++ c.in-Some.segment.now ∷ [] = first_to c.loop-segment.above c.in-Some.segment.now c.in-Some.more.now c.args.target.now c.loop-segment.rest.now c.in_ok-longer.longer c.len.result (length c.in-Some.more.now) c.loop-segment.invariant.whole c.in-Some.ensures.cases.0 c.len.ensures refl c.in_ok-longer.ensures in
    one_fails test c.in_ok-longer.longer c.in-Some.more.now c.is_empty.result _ c.is_empty.ensures c.if-is_empty.false (sym c.has_its_row.ensures ∙ c.if-not-has_its_row.true)
    (one_further test c.loop-segment.above c.in_ok-longer.longer c.in-Some.segment.now c.loop-segment.rest.now c.in-Some.more.now _ c.in-Some.ensures.cases.0 whole c.loop-segment.invariant.passed c.loop-segment.invariant.so_far)

pub loop-segment-preserved : goal.loop-segment-preserved
loop-segment-preserved g c =
    let test : List Seg → Bool = has_its_row c.args.schema.now c.args.trial.now.after in
    let nodes = subst (λ (path : List Seg). AllByRecursion (λ segment. segment.node < length c.args.schema.now) path) c.in-Some.ensures.cases.0 c.loop-segment.invariant.nodes in
    let whole : c.in_ok-longer.longer ≡ c.loop-segment.above ++ c.in-Some.segment.now ∷ [] = first_to c.loop-segment.above c.in-Some.segment.now c.in-Some.more.now c.args.target.now c.loop-segment.rest.now c.in_ok-longer.longer c.len.result (length c.in-Some.more.now) c.loop-segment.invariant.whole c.in-Some.ensures.cases.0 c.len.ensures refl c.in_ok-longer.ensures in
    record {
      whole =
          ap (λ (path : List Seg). path ++ c.in-Some.more.now) whole
          ∙ append_assoc c.loop-segment.above (c.in-Some.segment.now ∷ []) c.in-Some.more.now
          ∙ ap (λ (path : List Seg). c.loop-segment.above ++ path) (sym c.in-Some.ensures.cases.0)
          ∙ c.loop-segment.invariant.whole;
      nodes = nodes.1;
      passed = sym c.has_its_row.ensures ∙ c.if-not-has_its_row.false;
      so_far = one_further test c.loop-segment.above c.in_ok-longer.longer c.in-Some.segment.now c.loop-segment.rest.now c.in-Some.more.now _ c.in-Some.ensures.cases.0 whole c.loop-segment.invariant.passed c.loop-segment.invariant.so_far;
    }
