use Rattle.std.proofs.Common.{◌≡◌, ◌++◌, map}
use Rattle.std.specs.Vec.Iter.{into_iter_items}
use Rattle.yp_concurrent.proofs.text.listeners_of.Given as goal

-- those so far and those of the crews that are left are all
abbrev pub invariant-loop-crew : goal.invariant-loop-crew
invariant-loop-crew l = l.all.items ++ map (λ crew. crew.listeners) (into_iter_items l.crew-iterator) ≡ map (λ crew. crew.listeners) l.fn.crews.items
