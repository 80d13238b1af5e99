use Rattle.std.proofs.Common.{◌≡◌, ◌+◌, drop}
use Rattle.yp_registry.specs.Registry.{feeds, most_feeds}
use Rattle.yp_registry.proofs.live.are_too_many.Given as goal

abbrev pub invariant-loop-terms : goal.invariant-loop-terms
invariant-loop-terms l = feeds l.live + l.room ≡ most_feeds + feeds (drop l.terms-index l.live)
