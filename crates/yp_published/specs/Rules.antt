-- The rule of the history, and what a step that adds to it tells.
use Rattle.std.specs.Prelude.{◌≡◌, ℕ, ◌==◌, true, List, [], ◌∷◌, ◌++◌, length, MatchBool}
use Rattle.logbook.specs.Pages.{Cell, Step, View, Book, Named}
use Rattle.yp_published.specs.declared.history.Item.{Item}
use Rattle.yp_published.specs.Histories.{EndsOnce}

-- the first word is the length of the history, which ends once. The second word stays 0
pub record IsKept (cells : List Cell) (items : List Item) : Type 0 where
  pub words : cells ≡ (length items, true) ∷ (0, true) ∷ []
  pub once : EndsOnce items

-- the word that all threads share
abbrev pub head_of : Book → Named
head_of book = record { tracked = true; key = 0; book = book }

-- the item was added to all that had been seen; or the history had another length
abbrev pub AddsToAll : Step Item → View Item ℕ → ℕ → View Item ℕ → Type 0
AddsToAll step before found after = MatchBool (found == step.old) ((after.0 ≡ before.0 ++ step.ask ∷ []) × (length before.0 ≡ step.old)) (Unit {0})
