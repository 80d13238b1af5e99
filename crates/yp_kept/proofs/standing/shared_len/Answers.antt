use Rattle.std.proofs.Common.{◌≡◌, ◌∷◌, ◌++◌, [], ◌∙◌, sym, arith}
use Rattle.yp_base.specs.Exact.{segments_decide}
use Rattle.yp_kept.proofs.Leading.{take_more}
use Rattle.yp_kept.proofs.standing.shared_len.Goals as goal

pub loop-shared-preserved : goal.loop-shared-preserved
loop-shared-preserved c =
    let one = c.index-one-shared.result in
    let other = c.index-other-shared.result in
    let alike : one ≡ other = (segments_decide one other).0 (sym c.eq.ensures ∙ c.if-eq.true) in
    record {
      same = take_more c.args.one.now c.loop-shared.shared one c.loop-shared-test.true c.index-one-shared.is ∙ (λ i. c.loop-shared.invariant.same i ++ alike i ∷ [])
          ∙ sym (take_more c.args.other.now c.loop-shared.shared other c.if-shared-other.true c.index-other-shared.is);
      in_one = omega arith;
      in_other = omega arith;
    }
