-- What readers know of what is published.
use Rattle.std.specs.Prelude.{◌≡◌, ℕ, ◌+◌, List, [], false}
use mathlib.Core.Option.{some}
use lib.ListN.{get_elem?}
use Rattle.yp_published.specs.declared.published.View.{View}
use Rattle.yp_published.specs.Histories.{Known, Begins}

abbrev pub known_by : View → Known
known_by view = record { entries = view.seen; ended = view.ended }

-- nothing was seen, and nothing read
abbrev pub blank : View
blank = record { seen = []; ended = false; reads = 0 }

-- what anyone has seen begins what is published
abbrev pub Keeps : Known → List View → Type 0
Keeps known views = (seat : ℕ) (view : View) → get_elem? views seat ≡ some view → Begins (known_by view) known

-- what is published was seen, by one read more; what had been seen begins it
abbrev pub SeesAll : View → Known → View → Type 0
SeesAll before known after = (after ≡ record { seen = known.entries; ended = known.ended; reads = before.reads + 1 }) × Begins (known_by before) known
