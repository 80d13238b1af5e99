use Rattle.std.proofs.Common.{◌≡◌, ◌≤◌, length}
use Rattle.yp_threads.proofs.life.new_flags.Given as goal

-- there are as many flags as turns
abbrev pub invariant-loop : goal.invariant-loop
invariant-loop l = record {
  pushed : length l.flags.items ≡ l.counter;
  most : l.counter ≤ l.fn.count;
}
