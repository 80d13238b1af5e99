use Rattle.std.proofs.Common.{◌≡◌, ◌++◌, ap, sym, ◌∙◌, arith}
use Rattle.yp_queue_share.proofs.Sides.{takes, holds_rest, all_left}
use Rattle.yp_queue_share.proofs.drained.empty.Goals as goal

pub len_as-left-requires-clause-rule : goal.len_as-left-requires-clause-rule
len_as-left-requires-clause-rule g c = holds_rest _ _ (ap (λ v. v.sends) c.requires.both) (ap (λ v. v.takes) c.requires.both)

pub pop_as-requires-clause-rule : goal.pop_as-requires-clause-rule
pop_as-requires-clause-rule g c =
    let both = c.loop.invariant.both in
    (takes _ _ (ap (λ v. v.takes) both), holds_rest _ _ (ap (λ v. v.sends) both) (ap (λ v. v.takes) both))

pub learn_as-requires-clause-rule : goal.learn_as-requires-clause-rule
learn_as-requires-clause-rule g c =
    let both = c.loop.invariant.both in
    holds_rest _ _ (ap (λ v. v.sends) both) (ap (λ v. v.takes) both)

pub returns-clause-whole : goal.returns-clause-whole
returns-clause-whole g c =
    let both = c.loop.invariant.both in
    let held = c.len_as-left.ensures.rule.1 in
    let left = c.learn_as.ensures.rule in
    all_left _ _ held.0 _ left.0 held.2 (sym (ap (λ v. v.sent) both) ∙ (left.1 ∙ ap (λ v. v.taken ++ left.0) both)) (omega (arith, held.1, c.loop.invariant.turns, c.loop-test.false))
