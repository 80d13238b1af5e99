-- Which nodes are keys, as a schema keeps it.
use Rattle.std.proofs.Common.{◌≡◌, ℕ, zero, suc, ◌+◌, ◌<◌, ◌≤◌, ◌&&◌, ◌||◌, List, [], ◌∷◌, ◌++◌, length, get_or, Bool, true, false, true≢false, refl, sym, ap, ◌∙◌, subst, Option, Some, None, arith, nat_eq, nat_lt}
use Rattle.std.specs.List.{AllByRecursion}
use Rattle.std.specs.Option.{option_eq}
use Rattle.std.proofs.lemmas.Bool.{and_parts}
use Rattle.std.proofs.lemmas.Bool.Decides.{nat_tests}
use Rattle.std.proofs.lemmas.List.{get_or_append_left, length-append}
use Rattle.std.proofs.lemmas.List.Elements.{recursion_from_All}
use Rattle.std.proofs.Math.Seq.{get_or-append_seam}
use Rattle.yp_base.specs.PathLaws.{numbers_same}
use Rattle.yp_schema.specs.declared.schema.SchemaNode.{SchemaNode}
use Rattle.yp_base.specs.Paths.{same_number}
use Rattle.yp_schema.specs.Nodes.{node_at, is_in, is_key}
use Rattle.yp_schema.specs.Datastore.{is_key_node}
use Rattle.yp_schema.specs.WellFormed.{IsSchema, is_key_leaf}
use Rattle.yp_schema.specs.SchemaLaws.{keys_are_leaves}

in_all : (P : ℕ → Type 0) (n : ℕ) (ks : List ℕ) → AllByRecursion P ks → is_in n ks ≡ true → P n
in_all P n [] all h = cc
in_all P n (k ∷ ks) all h =
    elim (nat_eq n k) as (λ t. nat_eq n k ≡ t → (t || is_in n ks) ≡ true → P n) [
      | true ↦ λ same k_in. subst P (let e : k ≡ n = grind (arith, nat_tests) in e) all.0
      | false ↦ λ other k_in. in_all P n ks all.1 k_in
    ] refl h

-- a key of a node is below it
key_below : (nodes : List SchemaNode) (above n : ℕ) → IsSchema nodes → above < length nodes → is_in n (node_at above nodes).keys ≡ true → same_number (node_at n nodes).parent (Some above) ≡ true
key_below nodes above n schema within h =
    let leaf : is_key_leaf above nodes n ≡ true
    = in_all (λ k. is_key_leaf above nodes k ≡ true) n (node_at above nodes).keys (recursion_from_All (λ k. is_key_leaf above nodes k ≡ true) (node_at above nodes).keys (keys_are_leaves nodes above schema within)) h in
    (and_parts _ _ (and_parts _ _ (and_parts _ _ (and_parts _ _ leaf).0).0).0).1

-- whether a node is a key of another is whether it is one of its parent, and that is the other
pub key_of_parent : (nodes : List SchemaNode) (above n : ℕ) → IsSchema nodes → above < length nodes
    → is_in n (node_at above nodes).keys ≡ (is_key n (node_at n nodes).parent nodes && same_number (node_at n nodes).parent (Some above))
key_of_parent nodes above n schema within =
    elim (is_in n (node_at above nodes).keys) as (λ t. is_in n (node_at above nodes).keys ≡ t → t ≡ (is_key n (node_at n nodes).parent nodes && same_number (node_at n nodes).parent (Some above))) [
      | true ↦ λ is.
          let below = key_below nodes above n schema within is in
          let parent = (numbers_same (node_at n nodes).parent (Some above)) below in
          sym (ap (λ p. is_key n p nodes && same_number p (Some above)) parent ∙ ap (λ t. t && nat_eq above above) is ∙ (let e : nat_eq above above ≡ true = grind (arith, nat_tests) in e))
      | false ↦ λ is.
          elim (same_number (node_at n nodes).parent (Some above)) as (λ t. same_number (node_at n nodes).parent (Some above) ≡ t → false ≡ (is_key n (node_at n nodes).parent nodes && t)) [
            | true ↦ λ same. sym (ap (λ p. is_key n p nodes && true) ((numbers_same (node_at n nodes).parent (Some above)) same) ∙ ap (λ t. t && true) is)
            | false ↦ λ same. sym (none (is_key n (node_at n nodes).parent nodes))
          ] refl
    ] refl
  where
    none : (t : Bool) → (t && false) ≡ false
    none true = refl
    none false = refl

-- the flags of the nodes so far
abbrev pub FlagsOf : List Bool → List SchemaNode → Type 0
FlagsOf flags nodes = (n : ℕ) → n < length flags → get_or flags n false ≡ is_key n (node_at n nodes).parent nodes

pub flags_more : (flags : List Bool) (nodes : List SchemaNode) (t : Bool) → FlagsOf flags nodes → t ≡ is_key (length flags) (node_at (length flags) nodes).parent nodes → FlagsOf (flags ++ t ∷ []) nodes
flags_more flags nodes t so_far is n less =
    elim (nat_lt n (length flags)) as (λ b. nat_lt n (length flags) ≡ b → get_or (flags ++ t ∷ []) n false ≡ is_key n (node_at n nodes).parent nodes) [
      | true ↦ λ earlier. let low : n < length flags = grind (arith, nat_tests) in get_or_append_left flags (t ∷ []) false n low ∙ so_far n low
      | false ↦ λ last.
          let more : length (flags ++ t ∷ []) ≡ length flags + length (t ∷ []) = length-append flags (t ∷ []) in
          let same : length flags ≡ n = grind (arith, nat_tests) in
          subst (λ m. get_or (flags ++ t ∷ []) m false ≡ is_key m (node_at m nodes).parent nodes) same (get_or-append_seam flags t [] false ∙ is)
    ] refl

past_end : {X : Type 0} (xs : List X) (n : ℕ) (d : X) → length xs ≤ n → get_or xs n d ≡ d
past_end [] n d h = refl
past_end (x ∷ xs) zero d h = absurd (omega (arith, h))
past_end (x ∷ xs) (suc n) d h = past_end xs n d (omega (arith, h))

-- the flags of all nodes
pub all_flags : (flags : List Bool) (nodes : List SchemaNode) → length flags ≡ length nodes → FlagsOf flags nodes → (n : ℕ) → get_or flags n false ≡ is_key n (node_at n nodes).parent nodes
all_flags flags nodes many each n =
    elim (nat_lt n (length flags)) as (λ b. nat_lt n (length flags) ≡ b → get_or flags n false ≡ is_key n (node_at n nodes).parent nodes) [
      | true ↦ λ earlier. each n (grind (arith, nat_tests))
      | false ↦ λ past.
          let high : length flags ≤ n = grind (arith, nat_tests) in
          past_end flags n false high ∙ sym (ap (λ (node : SchemaNode). is_key n node.parent nodes) (past_end nodes n _ (omega (arith, many, high))))
    ] refl

-- a key is a node
pub key_within : (nodes : List SchemaNode) (n : ℕ) → is_key_node nodes n ≡ true → n < length nodes
key_within nodes n is =
    elim (nat_lt n (length nodes)) as (λ b. nat_lt n (length nodes) ≡ b → n < length nodes) [
      | true ↦ λ less. grind (arith, nat_tests)
      | false ↦ λ past.
          let high : length nodes ≤ n = grind (arith, nat_tests) in
          absurd (true≢false (sym is ∙ ap (λ (node : SchemaNode). is_key n node.parent nodes) (past_end nodes n _ high)))
    ] refl

same_option : (o : Option ℕ) (above : ℕ) → option_eq nat_eq o (Some above) ≡ same_number o (Some above)
same_option None above = refl
same_option (Some p) above = refl

-- a key of its parent is one of another exactly where that is its parent
pub told_key : (nodes : List SchemaNode) (above n : ℕ) → IsSchema nodes → above < length nodes → is_key_node nodes n ≡ true → option_eq nat_eq (node_at n nodes).parent (Some above) ≡ is_in n (node_at above nodes).keys
told_key nodes above n schema within is =
    same_option (node_at n nodes).parent above
    ∙ sym (key_of_parent nodes above n schema within ∙ ap (λ t. t && same_number (node_at n nodes).parent (Some above)) is)

-- and a node that is none of its parent is none of any
pub told_none : (nodes : List SchemaNode) (above n : ℕ) → IsSchema nodes → above < length nodes → is_key_node nodes n ≡ false → is_in n (node_at above nodes).keys ≡ false
told_none nodes above n schema within is =
    key_of_parent nodes above n schema within ∙ ap (λ t. t && same_number (node_at n nodes).parent (Some above)) is
