use Rattle.std.proofs.Common.{◌≡◌, ℕ, ◌<◌, length, get_or}
use Rattle.std.specs.List.{slice_get}
use Rattle.yp_slot.proofs.readers.firsts_of.Given as goal

-- each so far has the same rules as its place
abbrev pub invariant-loop-number : goal.invariant-loop-number
invariant-loop-number l = record {
  count : length l.firsts.items ≡ l.number;
  same : (k : ℕ) → k < l.number → slice_get l.rules (get_or l.firsts.items k 0) ≡ slice_get l.rules k;
}
