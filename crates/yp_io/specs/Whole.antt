-- What reading to the end takes, and what writing a list of bytes leaves written.
use Rattle.std.specs.Prelude.{◌≡◌, ℕ, ◌+◌, ◌<◌, ◌≤◌, List, ◌++◌, length, take, drop, Option, Some, Bool, IsTrue, ◌↔◌}

-- all the bytes were read, or one more than the limit where there were more
pub record ReadsWhole (limit : ℕ) (before : List ℕ) (after : Option (List ℕ)) (bytes : List ℕ) (over : Bool) : Type 0 where
  pub front : bytes ≡ take (limit + 1) before
  pub rest : after ≡ Some (drop (limit + 1) before)
  pub too_many : IsTrue over ↔ (limit < length before)

-- at most one byte more than the limit was read, and `over` says that it was
pub record IsLimited (limit : ℕ) (bytes : List ℕ) (over : Bool) : Type 0 where
  pub most : length bytes ≤ limit + 1
  pub too_many : IsTrue over ↔ (length bytes ≡ limit + 1)

-- some of the bytes were taken, from the first on
abbrev pub LeavesRest : List ℕ → Option (List ℕ) → Type 0
LeavesRest before after = (n : ℕ) × (n ≤ length before) × (after ≡ Some (drop n before))

-- all of the bytes were written
abbrev pub Appends : List ℕ → Option (List ℕ) → List ℕ → Type 0
Appends before after bytes = after ≡ Some (before ++ bytes)

-- some of the bytes were written, from the first on
abbrev pub AppendsPrefix : List ℕ → Option (List ℕ) → List ℕ → Type 0
AppendsPrefix before after bytes = (n : ℕ) × (n ≤ length bytes) × (after ≡ Some (before ++ take n bytes))
