use Rattle.std.proofs.Common.{◌≡◌, map}
use Rattle.yp_published.specs.Reads.{Sight, reading_of}
use Rattle.yp_published.proofs.reader.readers_by.Given as goal

-- the readers so far are by the handles so far
abbrev pub invariant-loop-looks : goal.invariant-loop-looks
invariant-loop-looks g l =
    (goal.iterator-loop-looks g).can_next l.looks-iterator
    × (goal.iterator-loop-looks g).is_finite l.looks-iterator
    × (l.readers.items ≡ map (λ (sight : Sight). reading_of l.front sight) l.yielded)
