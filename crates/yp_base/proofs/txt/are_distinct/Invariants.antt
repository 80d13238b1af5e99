use Rattle.std.proofs.Common.{◌≡◌, ℕ, List, take, true}
use Rattle.yp_base.specs.Types.{is_among, are_distinct}
use Rattle.yp_base.proofs.Distinct.{has_text}
use Rattle.yp_base.proofs.txt.are_distinct.Given as goal

-- the texts so far are distinct, and they are the ones seen
abbrev pub invariant-loop-text : goal.invariant-loop-text
invariant-loop-text l = record {
  distinct : are_distinct (take l.text-index l.texts) ≡ true;
  seen : (q : List ℕ) → has_text q l.seen.keys ≡ is_among q (take l.text-index l.texts);
}
