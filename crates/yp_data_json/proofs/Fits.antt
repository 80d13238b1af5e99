-- Forests of a schema in which each entry and presence container has its row.
use Rattle.std.proofs.Common.{◌≡◌, ℕ, ◌<◌, List, [], ◌∷◌, length, Bool, true, false, true≢false, Option, Some, None, refl, sym, ap, subst, ◌∙◌, ◌||◌, not, nat_eq}
use Rattle.std.specs.List.{AllByRecursion}
use Rattle.std.proofs.lemmas.Bool.{and_parts, eq-eqb, ltb-true, or_parts}
use Rattle.yp_base.specs.declared.atom.Atom.{Atom}
use Rattle.yp_base.specs.declared.path.Seg.{Seg}
use Rattle.yp_base.specs.declared.row.Value.{Value}
use Rattle.yp_base.specs.declared.row.Value.TheVariants.{Member, Present}
use Rattle.yp_schema.specs.declared.schema.SchemaNode.{SchemaNode}
use Rattle.yp_schema.specs.declared.schema.Kind.{Kind}
use Rattle.yp_schema.specs.declared.schema.Kind.TheVariants.{Container, Presence, List as Listing, Leaf, LeafList}
use Rattle.yp_schema.specs.Nodes.{node_at, child_of, is_key, is_in}
use Rattle.yp_schema.specs.WellFormed.{IsSchema, is_key_leaf, are_key_leaves}
use Rattle.yp_schema.specs.Datastore.{atom_fits, keys_fit, typed_fits}
use Rattle.yp_data_json.specs.Forest.{Forest, bare, branch}
use Rattle.yp_data_json.proofs.Steps.{key_leaves}
use Rattle.yp_base.specs.PathLaws.{numbers_same}

-- what a node of a kind may hold
abbrev pub BranchFits : List SchemaNode → Kind → SchemaNode → Seg → Option Value → Forest → Type 0
BranchFits nodes Container node seg own kids = (own ≡ None) × (seg.keys ≡ [])
BranchFits nodes Presence node seg own kids = (own ≡ Some Present) × (seg.keys ≡ [])
BranchFits nodes Listing node seg own kids = (own ≡ Some Present) × (keys_fit nodes node.keys seg.keys ≡ true)
BranchFits nodes Leaf node seg own kids = (v : Value) × (own ≡ Some v) × (typed_fits node.ty v ≡ true) × (seg.keys ≡ []) × (kids ≡ bare)
BranchFits nodes LeafList node seg own kids = (a : Atom) × (own ≡ Some Member) × (seg.keys ≡ a ∷ []) × (atom_fits node.ty a ≡ true) × (kids ≡ bare)

-- a forest below a node, or of the top
abbrev pub Fits : List SchemaNode → Option ℕ → Forest → Type 0
Fits nodes parent bare = Unit {0}
Fits nodes parent (branch seg own kids next) =
    (child_of parent (node_at seg.node nodes).member nodes ≡ Some seg.node)
    × (is_key seg.node parent nodes ≡ false)
    × (seg.node < length nodes)
    × BranchFits nodes (node_at seg.node nodes).kind (node_at seg.node nodes) seg own kids
    × Fits nodes (Some seg.node) kids
    × Fits nodes parent next

-- the keys of a list are found by their names, and are keys; no two have one name
abbrev pub KeysStand : List SchemaNode → ℕ → List ℕ → Type 0
KeysStand nodes n [] = Unit {0}
KeysStand nodes n (k ∷ ks) =
    (child_of (Some n) (node_at k nodes).member nodes ≡ Some k)
    × (is_key k (Some n) nodes ≡ true)
    × (k < length nodes)
    × AllByRecursion (λ j. (node_at j nodes).member ≡ (node_at k nodes).member → ⊥) ks
    × KeysStand nodes n ks

-- ---- of a schema

leaf_within : (nodes : List SchemaNode) (n k : ℕ) → is_key_leaf n nodes k ≡ true → k < length nodes
leaf_within nodes n k h = ltb-true k (length nodes) (and_parts _ _ (and_parts _ _ (and_parts _ _ (and_parts _ _ h).0).0).0).0

leaf_found : (nodes : List SchemaNode) → IsSchema nodes → (n k : ℕ) → is_key_leaf n nodes k ≡ true → child_of (Some n) (node_at k nodes).member nodes ≡ Some k
leaf_found nodes schema n k h =
    let parent = numbers_same (node_at k nodes).parent (Some n) (and_parts _ _ (and_parts _ _ (and_parts _ _ (and_parts _ _ h).0).0).0).1 in
    subst (λ p. child_of p (node_at k nodes).member nodes ≡ Some k) parent (schema.each k (leaf_within nodes n k h)).found

one_child : (nodes : List SchemaNode) (n j k : ℕ) → child_of (Some n) (node_at j nodes).member nodes ≡ Some j → child_of (Some n) (node_at k nodes).member nodes ≡ Some k → (node_at j nodes).member ≡ (node_at k nodes).member → k ≡ j
one_child nodes n j k found other same = let e : Some j ≡ Some k = sym found ∙ ap (λ name. child_of (Some n) name nodes) same ∙ other in cc

not_true : (b : Bool) → not b ≡ true → b ≡ false
not_true true h = absurd (true≢false (sym h))
not_true false h = refl

names_differ : (nodes : List SchemaNode) → IsSchema nodes → (n k : ℕ) (ks : List ℕ) → is_key_leaf n nodes k ≡ true → are_key_leaves n nodes ks ≡ true → is_in k ks ≡ false
    → AllByRecursion (λ j. (node_at j nodes).member ≡ (node_at k nodes).member → ⊥) ks
names_differ nodes schema n k [] leaf all apart = tt
names_differ nodes schema n k (j ∷ ks) leaf all apart =
    let front = (and_parts _ _ all).0 in
    let here = (and_parts _ _ front).0 in (
      (λ same. true≢false (sym (eq-eqb k j (one_child nodes n j k (leaf_found nodes schema n j here) (leaf_found nodes schema n k leaf) same)) ∙ (or_parts (nat_eq k j) (is_in k ks) apart).0)),
      names_differ nodes schema n k ks leaf (and_parts _ _ all).1 (or_parts (nat_eq k j) (is_in k ks) apart).1,
    )

keys_stand_at : (nodes : List SchemaNode) → IsSchema nodes → (n : ℕ) (ks : List ℕ) → are_key_leaves n nodes ks ≡ true → AllByRecursion (λ k. is_in k (node_at n nodes).keys ≡ true) ks → KeysStand nodes n ks
keys_stand_at nodes schema n [] all among = tt
keys_stand_at nodes schema n (k ∷ ks) all among =
    let front = (and_parts _ _ all).0 in
    let leaf = (and_parts _ _ front).0 in (
      leaf_found nodes schema n k leaf,
      among.0,
      leaf_within nodes n k leaf,
      names_differ nodes schema n k ks leaf (and_parts _ _ all).1 (not_true (is_in k ks) (and_parts _ _ front).1),
      keys_stand_at nodes schema n ks (and_parts _ _ all).1 among.1,
    )

in_front_too : (k j : ℕ) (ks : List ℕ) → is_in k ks ≡ true → is_in k (j ∷ ks) ≡ true
in_front_too k j ks h = ap (λ b. nat_eq k j || b) h ∙ or_true (nat_eq k j)
  where
    or_true : (b : Bool) → (b || true) ≡ true
    or_true true = refl
    or_true false = refl

all_in_front : (j : ℕ) (all ks : List ℕ) → AllByRecursion (λ k. is_in k all ≡ true) ks → AllByRecursion (λ k. is_in k (j ∷ all) ≡ true) ks
all_in_front j all [] h = tt
all_in_front j all (k ∷ ks) h = (in_front_too k j all h.0, all_in_front j all ks h.1)

each_in : (ks : List ℕ) → AllByRecursion (λ k. is_in k ks ≡ true) ks
each_in [] = tt
each_in (k ∷ ks) = (ap (λ b. b || is_in k ks) (eq-eqb k k refl), all_in_front k ks ks (each_in ks))

pub keys_stand : (nodes : List SchemaNode) → IsSchema nodes → (n : ℕ) → n < length nodes → (node_at n nodes).kind ≡ Listing → KeysStand nodes n (node_at n nodes).keys
keys_stand nodes schema n within kind = keys_stand_at nodes schema n (node_at n nodes).keys (key_leaves nodes schema n within kind) (each_in (node_at n nodes).keys)
