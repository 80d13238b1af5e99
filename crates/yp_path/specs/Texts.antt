-- The texts of the keys of a segment.
use Rattle.std.specs.Prelude.{ℕ, List, [], Option, Some, None}
use Rattle.std.specs.Borrow.{Bor}
use Rattle.yp_path.specs.declared.texts.Texts.{Texts}
use Rattle.yp_path.specs.declared.texts.Texts.TheVariants.{Bare, Read}
use Rattle.yp_base.specs.Cuts.{cut}

-- keys without escapes stand for themselves, between commas; others were read
abbrev pub texts_of : Texts → List (List ℕ)
texts_of (Bare keys) = cut 44 keys.now
texts_of (Read texts) = texts

-- the keys that stand in a segment, if any
abbrev pub parts_of : Option (Bor (List ℕ)) → List (List ℕ)
parts_of None = []
parts_of (Some keys) = cut 44 keys.now
