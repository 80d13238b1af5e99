-- The history that threads share: entries of a journal, and at most one end mark behind them.
use Rattle.std.specs.Prelude.{◌≡◌, ℕ, ◌<◌, ◌≤◌, List, [], ◌∷◌, ◌++◌, Bool, true, false, Option, Some, None}
use Rattle.std.specs.List.{AllByRecursion}
use mathlib.Core.List.{IsPrefix}
use Rattle.yp_journal.specs.declared.entry.Entry.{Entry}
use Rattle.yp_published.specs.declared.history.Item.{Item}
use Rattle.yp_published.specs.declared.history.Item.TheVariants.{Added, End}

-- the entries of a history
abbrev pub entries_in : List Item → List Entry
entries_in [] = []
entries_in (Added entry ∷ items) = entry ∷ entries_in items
entries_in (End ∷ items) = entries_in items

-- the end mark stands in it
abbrev pub has_end : List Item → Bool
has_end [] = false
has_end (Added entry ∷ items) = has_end items
has_end (End ∷ items) = true

-- nothing stands behind the end mark
abbrev pub EndsOnce : List Item → Type 0
EndsOnce [] = Unit {0}
EndsOnce (Added entry ∷ items) = EndsOnce items
EndsOnce (End ∷ items) = items ≡ []

-- what one knows of a history: a beginning of its entries, and whether it ends with them
pub record Known : Type 0 where
  pub entries : List Entry
  pub ended : Bool

abbrev pub known_in : List Item → Known
known_in items = record { entries = entries_in items; ended = has_end items }

-- the one begins the other, and is it where it saw the end
pub record Begins (before after : Known) : Type 0 where
  pub entries : IsPrefix before.entries after.entries
  pub whole : before.ended ≡ true → before ≡ after

-- each entry is of one of so many lanes, from 1 on
abbrev pub AreOfLanes : ℕ → List Entry → Type 0
AreOfLanes lanes entries = AllByRecursion (λ entry. (0 < entry.lane) × (entry.lane ≤ lanes)) entries

-- ---- what is published

-- with an entry more, or ended
abbrev pub after_op : Known → Option Entry → Known
after_op known None = record known { ended = true }
after_op known (Some entry) = record known { entries = known.entries ++ entry ∷ [] }

abbrev pub pair_of : Known → List Entry × Bool
pair_of known = (known.entries, known.ended)

abbrev pub pair_after : List Entry × Bool → Option Entry → List Entry × Bool
pair_after state None = (state.0, true)
pair_after state (Some entry) = (state.0 ++ entry ∷ [], state.1)

-- what lies under the lock: what is published, and whether nothing more can be
pub record Shelf : Type 0 where
  pub known : Known
  pub spent : Bool
