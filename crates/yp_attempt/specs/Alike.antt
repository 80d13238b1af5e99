-- Journals that are alike for one receiver: it is shown the same by them.
use Rattle.std.specs.Prelude.{◌≡◌, ℕ, List, [], ◌∷◌}
use Rattle.yp_attempt.specs.Moments.{Moment}

-- two entries with the same stamp and act, and for this receiver the same changes of rules and the same selections
pub record IsSameFor (receiver : ℕ) (one two : Moment) : Type 0 where
  pub stamp : one.stamp ≡ two.stamp
  pub act : one.act ≡ two.act
  pub rules : one.rules receiver ≡ two.rules receiver
  pub selection : (sub : ℕ) → one.selection sub receiver ≡ two.selection sub receiver

-- entry by entry, of two journals
abbrev pub AreAlike : ℕ → List Moment → List Moment → Type 0
AreAlike receiver [] [] = Unit {0}
AreAlike receiver (one ∷ ones) (two ∷ twos) = IsSameFor receiver one two × AreAlike receiver ones twos
AreAlike receiver [] (two ∷ twos) = ⊥
AreAlike receiver (one ∷ ones) [] = ⊥
