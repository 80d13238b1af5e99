-- Names that are taken.
use Rattle.std.specs.Prelude.{◌≡◌, ℕ, List, ◌||◌}
use Rattle.yp_base.specs.Types.{same_text, is_among}

-- one name more is among them
abbrev pub AddsName : List (List ℕ) → List (List ℕ) → List ℕ → Type 0
AddsName old new name = (text : List ℕ) → is_among text new ≡ (same_text text name || is_among text old)
