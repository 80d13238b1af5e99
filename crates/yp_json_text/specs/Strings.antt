-- JSON strings, as texts (RFC 8259 section 7).
use Rattle.std.specs.Prelude.{ℕ, List, [], ◌∷◌, ◌++◌, Bool, not, ◌&&◌, ◌==◌, nat_le}
use Rattle.json.specs.Print.{quoted}
use Rattle.serde_json.specs.Written.{comma_if}

-- whether a byte stands for itself in a JSON string
abbrev pub stands_for_itself : ℕ → Bool
stands_for_itself b = nat_le 32 b && not (b == 34) && not (b == 92)

-- what leads to the value of a member of this name: a comma, where a member stands before, the name, and a colon
abbrev pub name_text : Bool → List ℕ → List ℕ
name_text later name = comma_if later ++ (quoted name ++ 58 ∷ [])
