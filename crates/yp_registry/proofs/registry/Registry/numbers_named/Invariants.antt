use Rattle.std.proofs.Common.{◌≡◌}
use Rattle.std.specs.Prelude.{filter}
use Rattle.std.specs.List.{range_with_len, slice_get}
use Rattle.yp_registry.specs.Configuring.{is_asked}
use Rattle.yp_registry.proofs.registry.Registry.numbers_named.Given as goal

abbrev pub invariant-loop-number : goal.invariant-loop-number
invariant-loop-number l = l.numbers.items ≡ filter (λ number. is_asked l.asked (slice_get l.self.names number)) (range_with_len 0 l.number)
