use Rattle.std.proofs.Common.{◌≡◌, ◌++◌, map, ℕ, List}
use Rattle.yp_base.specs.declared.row.Row.{Row}
use Rattle.yp_receiver.proofs.holdings.Holdings.ids.Given as goal

-- the ids so far, and those to come
abbrev pub invariant-loop-id : goal.invariant-loop-id
invariant-loop-id l = l.ids.items ++ l.id-iterator ≡ map (λ (held : ℕ × List Row). held.0) l.self
