use Rattle.std.proofs.Common.{◌≡◌, take}
use Rattle.yp_base.proofs.rule_path.RuleKeysDuplicate.copy.Given as goal

-- the copies so far are the keys so far
abbrev pub invariant-loop-key : goal.invariant-loop-key
invariant-loop-key l = l.copies.items ≡ take l.key-index l.key-items
