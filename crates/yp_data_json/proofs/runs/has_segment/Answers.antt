use Rattle.std.proofs.Common.{◌≡◌, ◌∷◌, ◌+◌, drop, true≢false, sym, ap, ◌∙◌}
use Rattle.yp_base.specs.declared.path.Seg.{Seg}
use Rattle.yp_base.specs.Exact.{segments_decide}
use Rattle.yp_data_json.proofs.runs.has_segment.Goals as goal

pub returns-then-len-depth-clause-is : goal.returns-then-len-depth-clause-is
returns-then-len-depth-clause-is c =
    λ same. c.segment.ensures.is ∙ ap (λ (s : Seg). s ∷ drop (c.args.depth + 1) c.args.row.now.path) ((segments_decide c.segment.result.now c.args.seg.now).0 (sym c.eq.ensures ∙ same))

pub returns-then-len-depth-clause-isnt : goal.returns-then-len-depth-clause-isnt
returns-then-len-depth-clause-isnt c =
    λ apart here.
    let found = c.segment.ensures.is in
    let same : c.segment.result.now ≡ c.args.seg.now = cc in
    true≢false (sym ((segments_decide c.segment.result.now c.args.seg.now).1 same) ∙ sym c.eq.ensures ∙ apart)
