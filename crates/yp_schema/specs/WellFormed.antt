-- What each compiled schema keeps.
use Rattle.std.specs.Prelude.{ℕ, ◌≡◌, ◌<◌, ◌≤◌, length, List, [], ◌∷◌, Bool, true, false, not, ◌&&◌, Option, Some, None, if◌then◌else◌, nat_lt}
use Rattle.std.specs.Cmp.Lexicographic.{slice_cmp}
use Rattle.std.specs.Ordering.{nat_cmp}
use Rattle.std.specs.declared.cmp.Ordering.TheVariants.{Less}
use Rattle.yp_base.specs.Types.{same_text, is_type, has_atoms}
use Rattle.yp_base.specs.declared.leaf_type.LeafType.{LeafType}
use Rattle.yp_schema.specs.declared.schema.SchemaNode.{SchemaNode}
use Rattle.yp_schema.specs.declared.schema.Kind.{Kind}
use Rattle.yp_schema.specs.declared.schema.Kind.TheVariants.{Container, Presence, List as Listing, Leaf, LeafList}
use Rattle.yp_base.specs.Paths.{same_number}
use Rattle.yp_names.specs.Names.{is_name}
use Rattle.yp_schema.specs.Nodes.{node_at, child_of, may_hold, qualified_name, is_in}

-- a parent stands earlier and may have children
abbrev pub is_parent_of : Option ℕ → ℕ → List SchemaNode → Bool
is_parent_of None n nodes = true
is_parent_of (Some p) n nodes = nat_lt p n && may_hold (node_at p nodes).kind

-- whether a node's parent is of the same module
abbrev pub is_at_home : Option ℕ → List ℕ → List SchemaNode → Bool
is_at_home None home nodes = false
is_at_home (Some p) home nodes = same_text (node_at p nodes).home home

-- `name` below a node of the same module, and `module:name` elsewhere (RFC 7951 section 4)
abbrev pub member_form : SchemaNode → List SchemaNode → List ℕ
member_form node nodes = if is_at_home node.parent node.home nodes then node.name else qualified_name node

abbrev pub has_atom_type : Option LeafType → Bool
has_atom_type None = false
has_atom_type (Some ty) = is_type ty && has_atoms ty

abbrev pub has_type : Option LeafType → Bool
has_type None = false
has_type (Some ty) = is_type ty

abbrev pub has_none : {X : Type 0} → Option X → Bool
has_none None = true
has_none (Some x) = false

abbrev pub is_leaf : Kind → Bool
is_leaf Leaf = true
is_leaf Container = false
is_leaf Presence = false
is_leaf Listing = false
is_leaf LeafList = false

-- a key is a leaf of the list and of its module, and isn't empty (RFC 7950 section 7.8.2)
abbrev pub is_key_leaf : ℕ → List SchemaNode → ℕ → Bool
is_key_leaf n nodes k =
    nat_lt k (length nodes) && same_number (node_at k nodes).parent (Some n) && is_leaf (node_at k nodes).kind && has_atom_type (node_at k nodes).ty
    && same_text (node_at k nodes).home (node_at n nodes).home

abbrev pub are_key_leaves : ℕ → List SchemaNode → List ℕ → Bool
are_key_leaves n nodes [] = true
are_key_leaves n nodes (k ∷ ks) = is_key_leaf n nodes k && not (is_in k ks) && are_key_leaves n nodes ks

abbrev pub is_empty : {X : Type 0} → List X → Bool
is_empty [] = true
is_empty (x ∷ xs) = false

-- a list has keys, distinct leaves of its own; leaves and leaf-lists have types; nothing else has either
abbrev pub kind_stands : Kind → ℕ → List SchemaNode → SchemaNode → Bool
kind_stands Container n nodes node = is_empty node.keys && has_none node.ty
kind_stands Presence n nodes node = is_empty node.keys && has_none node.ty
kind_stands Listing n nodes node = not (is_empty node.keys) && are_key_leaves n nodes node.keys && has_none node.ty
kind_stands Leaf n nodes node = is_empty node.keys && has_type node.ty
kind_stands LeafList n nodes node = is_empty node.keys && has_atom_type node.ty

-- what is so of the node of a number
pub record Stands (nodes : List SchemaNode) (n : ℕ) : Type 0 where
  pub parent : is_parent_of (node_at n nodes).parent n nodes ≡ true
  pub module_name : is_name (node_at n nodes).home ≡ true
  pub node_name : is_name (node_at n nodes).name ≡ true
  pub form : (node_at n nodes).member ≡ member_form (node_at n nodes) nodes
  pub kind : kind_stands (node_at n nodes).kind n nodes (node_at n nodes) ≡ true
  -- the node is found by its member form
  pub found : child_of (node_at n nodes).parent (node_at n nodes).member nodes ≡ Some n

-- of two children of one node, the later one has the later member form
abbrev pub SiblingsInOrder : List SchemaNode → Type 0
SiblingsInOrder nodes = (m n : ℕ) → m < n → n < length nodes → same_number (node_at m nodes).parent (node_at n nodes).parent ≡ true
    → slice_cmp nat_cmp (node_at m nodes).member (node_at n nodes).member ≡ Less

-- the numbers on the way up from a node: each is that of the parent of the one before it
abbrev pub AreAbove : List SchemaNode → ℕ → List ℕ → Type 0
AreAbove nodes n [] = Unit {0}
AreAbove nodes n (parent ∷ above) = ((node_at n nodes).parent ≡ Some parent) × AreAbove nodes parent above

-- a way from the top down to a node has at most 16 nodes, itself included
abbrev pub AreShallow : List SchemaNode → Type 0
AreShallow nodes = (n : ℕ) (above : List ℕ) → n < length nodes → AreAbove nodes n above → length (n ∷ above) ≤ 16

-- a compiled schema
pub record IsSchema (nodes : List SchemaNode) : Type 0 where
  pub few : length nodes ≤ 4096
  pub shallow : AreShallow nodes
  pub each : (n : ℕ) → n < length nodes → Stands nodes n
  pub siblings : SiblingsInOrder nodes
