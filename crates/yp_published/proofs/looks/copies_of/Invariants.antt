use Rattle.std.proofs.Common.{◌≡◌, take}
use Rattle.yp_published.proofs.looks.copies_of.Given as goal

-- the copies so far are the entries so far
abbrev pub invariant-loop-entry : goal.invariant-loop-entry
invariant-loop-entry l = l.copies.items ≡ take l.entry-index l.entries
