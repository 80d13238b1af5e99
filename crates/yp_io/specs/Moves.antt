-- What one read gives and one write takes.
use Rattle.std.specs.Prelude.{◌≡◌, ℕ, ◌<◌, ◌≤◌, List, [], ◌++◌, length, take, drop, Option, Some}
use Rattle.yp_io.specs.declared.source.Got.{Got}
use Rattle.yp_io.specs.declared.source.Got.TheVariants.{Bytes, End, Failed as ReadFailed}
use Rattle.yp_io.specs.declared.sink.Put.{Put}
use Rattle.yp_io.specs.declared.sink.Put.TheVariants.{Took, Failed as WriteFailed}
use Rattle.yp_io.specs.Causes.{Rose}

-- a read gives at least one byte and no more than fit
abbrev pub GivesAtMost : Got → ℕ → Type 0
GivesAtMost (Bytes n) room = (1 ≤ n) × (n ≤ room)
GivesAtMost End room = Unit {0}
GivesAtMost ReadFailed room = Unit {0}

-- the bytes that a read gives are the first that were left; End comes only where nothing was left
abbrev pub GivesFirst : List ℕ → Option (List ℕ) → Got → List ℕ → Type 0
GivesFirst before after (Bytes n) into = (n ≤ length before) × (take n into ≡ take n before) × (after ≡ Some (drop n before))
GivesFirst before after End into = (before ≡ []) × (after ≡ Some before)
GivesFirst before after ReadFailed into = after ≡ Some before

-- only a failed read raises the count
abbrev pub GotCause : ℕ → ℕ → Got → Type 0
GotCause before now (Bytes n) = now ≡ before
GotCause before now End = now ≡ before
GotCause before now ReadFailed = Rose before now

-- a write takes no more than the piece, and a byte at least of a piece that isn't empty
abbrev pub TakesAtMost : Put → ℕ → Type 0
TakesAtMost (Took n) len = (n ≤ len) × (0 < len → 0 < n)
TakesAtMost WriteFailed len = Unit {0}

-- a write appends the bytes that it took; a failed one writes nothing
abbrev pub WritesFirst : List ℕ → Option (List ℕ) → Put → List ℕ → Type 0
WritesFirst before after (Took n) piece = after ≡ Some (before ++ take n piece)
WritesFirst before after WriteFailed piece = after ≡ Some before

-- only a failed write raises the count
abbrev pub PutCause : ℕ → ℕ → Put → Type 0
PutCause before now (Took n) = now ≡ before
PutCause before now WriteFailed = Rose before now
