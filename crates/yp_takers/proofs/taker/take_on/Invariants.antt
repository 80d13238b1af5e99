use Rattle.std.proofs.Common.{true}
use Rattle.yp_takers.specs.Takers.{HasTakenOn}
use Rattle.yp_takers.proofs.taker.take_on.Given as goal

-- it took on from what it held, and heard all of that
abbrev pub invariant-loop : goal.invariant-loop
invariant-loop g l = HasTakenOn l.schema l.fn.job (record l.job { whole = true })
