use Rattle.std.proofs.Common.{◌≡◌}
use Rattle.yp_live.specs.Desks.{desk_took}
use Rattle.yp_live.proofs.desk.Desk.take.Given as goal

-- one packet was taken in each turn, where one stood there
abbrev pub invariant-loop-round : goal.invariant-loop-round
invariant-loop-round l = l.self ≡ desk_took l._round l.fn.self
