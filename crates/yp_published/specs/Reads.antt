-- What a reader of the published journal knows, and what it gets by a read.
use Rattle.std.specs.Prelude.{◌≡◌, ℕ, ◌+◌, List, ◌++◌, length}
use Rattle.yp_journal.specs.declared.entry.Entry.{Entry}
use Rattle.yp_published.specs.declared.published.View.{View}
use Rattle.yp_published.specs.Histories.{Known}
use Rattle.yp_published.specs.Views.{known_by, blank}

-- what the handle of a reader knows: what it saw, and how often it was given no read
pub record Sight : Type 0 where
  pub view : View
  pub missed : ℕ

-- nothing was seen, and each read was given
abbrev pub fresh_sight : Sight
fresh_sight = record { view = blank; missed = 0 }

-- what a reader knows: the entries that it got, and whether they are all; and what its handle knows
pub record Reading : Type 0 where
  pub got : Known
  pub published : Known
  pub reads : ℕ
  pub missed : ℕ

-- what a reader knows that got this, and whose handle knows that
abbrev pub reading_of : Known → Sight → Reading
reading_of got sight = record { got = got; published = known_by sight.view; reads = sight.view.reads; missed = sight.missed }

-- nothing was got, and nothing read or missed
abbrev pub fresh_reading : Reading
fresh_reading = reading_of (known_by blank) fresh_sight

-- a read gave these entries: all that was published at that read, past those that had been got
pub record IsCaught (before after : Reading) (fresh : List Entry) : Type 0 where
  pub entries : after.got.entries ≡ before.got.entries ++ fresh
  pub all : after.got ≡ after.published
  pub reads : after.reads ≡ before.reads + 1
  pub missed : after.missed ≡ before.missed

-- so many entries were appended to a list, which are what a read gave
pub record IsCaughtInto (before after : Reading) (old new : List Entry) (count : ℕ) : Type 0 where
  pub fresh : List Entry
  pub caught : IsCaught before after fresh
  pub appended : new ≡ old ++ fresh
  pub number : count ≡ length fresh
