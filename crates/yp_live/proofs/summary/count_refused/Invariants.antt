use Rattle.std.proofs.Common.{◌≡◌, ◌+◌, drop, cond}
use Rattle.std.specs.Prelude.{fold, count_by}
use Rattle.yp_live.specs.Summary.{is_refusal}
use Rattle.yp_live.proofs.summary.count_refused.Given as goal

-- those so far and those of the replies that are left are all
abbrev pub invariant-loop-replied : goal.invariant-loop-replied
invariant-loop-replied l = fold (λ count replied. count + cond (is_refusal replied.reply) 1 0) l.count (drop l.replied-index l.replies) ≡ count_by (λ replied. is_refusal replied.reply) l.fn.replies
