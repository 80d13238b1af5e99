-- What follows of looking for a child: the first place of a test, and the child that a name names.
use Rattle.std.proofs.Common.{◌≡◌, ℕ, suc, ◌<◌, ◌+◌, List, [], ◌∷◌, length, get_or, Bool, true, false, refl, cond, subst, arith, Option, Some}
use Rattle.yp_schema.specs.declared.schema.SchemaNode.{SchemaNode}
use Rattle.yp_schema.specs.Nodes.{node_at, no_node, place_from}
use Rattle.yp_path.specs.Names.{is_named, child_named}
use Rattle.yp_path.specs.StepLaws.{some_same}

-- a place, counted from another, at which a test holds
abbrev pub Placed : {X : Type 0} → (X → Bool) → X → List X → ℕ → ℕ → Type 0
Placed test d xs from n = (k : ℕ) × ((n ≡ from + k) × (k < length xs) × (test (get_or xs k d) ≡ true))

module _ {X : Type 0} (test : X → Bool) (d : X) where
  placed_at : (b : Bool) (x : X) (xs : List X) (from n : ℕ) → test x ≡ b → cond b (Some from) (place_from test (from + 1) xs) ≡ Some n
      → (place_from test (from + 1) xs ≡ Some n → Placed test d xs (from + 1) n) → Placed test d (x ∷ xs) from n
  placed_at true x xs from n is e later = let same = some_same from n e in (0, (omega (arith, same), omega arith, is))
  placed_at false x xs from n is e later = let rest = later e in (suc rest.0, (omega (arith, rest.1.0), omega (arith, rest.1.1), rest.1.2))

  -- the test holds at the first place
  pub placed : (xs : List X) (from n : ℕ) → place_from test from xs ≡ Some n → Placed test d xs from n
  placed [] from n e = cc
  placed (x ∷ xs) from n e = placed_at (test x) x xs from n refl e (placed xs (from + 1) n)

-- a named child is a node, below that parent
pub named_at : (nodes : List SchemaNode) (parent : Option ℕ) (name : List ℕ) (n : ℕ) → child_named parent name nodes ≡ Some n → (n < length nodes) × (is_named parent name (node_at n nodes) ≡ true)
named_at nodes parent name n e =
    let at = placed (is_named parent name) no_node nodes 0 n e in
    let same : at.0 ≡ n = omega (arith, at.1.0) in
    let P : ℕ → Type 0 = λ k. (k < length nodes) × (is_named parent name (node_at k nodes) ≡ true) in
    subst P same (at.1.1, at.1.2)

pub named_below : (nodes : List SchemaNode) (parent : Option ℕ) (name : List ℕ) (n : ℕ) → child_named parent name nodes ≡ Some n → n < length nodes
named_below nodes parent name n e = (named_at nodes parent name n e).0
