-- The index of the children of a schema's nodes.
use Rattle.std.proofs.Common.{◌≡◌, ℕ, zero, suc, ◌+◌, ◌<◌, List, [], ◌∷◌, ◌++◌, length, Bool, true, false, cond, refl, sym, ap, subst, Option, Some, None, IfSome, arith}
use Rattle.std.specs.BTreeMap.{BTreeMap, is_at}
use Rattle.std.specs.Cmp.Lexicographic.{slice_cmp}
use Rattle.std.specs.Ordering.{nat_cmp}
use Rattle.std.specs.Map.{lookup}
use Rattle.std.specs.String.{string_bytes}
use Rattle.std.specs.declared.string.String.{String}
use Rattle.yp_schema.specs.declared.schema.SchemaNode.{SchemaNode}
use Rattle.yp_schema.specs.Nodes.{child_of, is_child, place_from}
use Rattle.yp_schema.specs.Index.{indexed_at}

-- one more slot without children
pub empty_more : {Y : Type 0} (index : List (BTreeMap (String Y) ℕ)) (m : BTreeMap (String Y) ℕ) → m.entries ≡ [] → ((s : ℕ) (q : List ℕ) → indexed_at s q index ≡ None) → (s : ℕ) (q : List ℕ) → indexed_at s q (index ++ m ∷ []) ≡ None
empty_more [] m e h zero q = ap (lookup (is_at (λ k. slice_cmp nat_cmp q (string_bytes k)))) e
empty_more [] m e h (suc s) q = refl
empty_more (x ∷ xs) m e h zero q = h zero q
empty_more (x ∷ xs) m e h (suc s) q = empty_more xs m e (λ s q. h (suc s) q) s q

place_within : {X : Type 0} (test : X → Bool) (from : ℕ) (xs : List X) → IfSome (place_from test from xs) (λ n. n < from + length xs)
place_within test from [] = tt
place_within test from (x ∷ xs) =
    elim (test x) as (λ t. IfSome (cond t (Some from) (place_from test (from + 1) xs)) (λ n. n < from + length (x ∷ xs))) [
      | true ↦ omega arith
      | false ↦ later (place_from test (from + 1) xs) (place_within test (from + 1) xs)
    ]
  where
    later : (o : Option ℕ) → IfSome o (λ n. n < from + 1 + length xs) → IfSome o (λ n. n < from + length (x ∷ xs))
    later None h = tt
    later (Some n) h = omega (arith, h)

-- a child is a node
pub child_within : (parent : Option ℕ) (name : List ℕ) (nodes : List SchemaNode) (r : Option ℕ) → r ≡ child_of parent name nodes → IfSome r (λ n. n < length nodes)
child_within parent name nodes r is = inside r (subst (λ (o : Option ℕ). IfSome o (λ n. n < 0 + length nodes)) (sym is) (place_within (is_child parent name) 0 nodes))
  where
    inside : (o : Option ℕ) → IfSome o (λ n. n < 0 + length nodes) → IfSome o (λ n. n < length nodes)
    inside None h = tt
    inside (Some n) h = omega (arith, h)
