-- The nodes of a compiled schema (RFC 7950 section 4.2.2), in pre-order, siblings in byte order of their member forms; a node's number is its place.
use Rattle.std.specs.Prelude.{ℕ, ◌+◌, List, [], ◌∷◌, ◌++◌, Bool, true, false, ◌&&◌, ◌||◌, Option, Some, None, get_or, if◌then◌else◌, nat_eq}
use Rattle.std.specs.Cmp.Lexicographic.{pointwise}
use Rattle.yp_base.specs.Paths.{same_number}
use Rattle.yp_schema.specs.declared.schema.SchemaNode.{SchemaNode}
use Rattle.yp_schema.specs.declared.schema.Kind.{Kind}
use Rattle.yp_schema.specs.declared.schema.Kind.TheVariants.{Container, Presence, List as Listing, Leaf, LeafList}

-- what stands past the end
abbrev pub no_node : SchemaNode
no_node = record { parent = None; kind = Container; home = []; name = []; member = []; keys = []; ty = None; deny_all = false }

abbrev pub node_at : ℕ → List SchemaNode → SchemaNode
node_at n nodes = get_or nodes n no_node

-- whether a node is the child with this member form
abbrev pub is_child : Option ℕ → List ℕ → SchemaNode → Bool
is_child parent name node = same_number node.parent parent && pointwise nat_eq node.member name

-- the first place where a test holds, counted from `from`
abbrev pub place_from : {X : Type 0} → (X → Bool) → ℕ → List X → Option ℕ
place_from test from [] = None
place_from test from (x ∷ xs) = if test x then Some from else place_from test (from + 1) xs

-- the child of a node, or of the top, that has this member form (RFC 7951 section 4)
abbrev pub child_of : Option ℕ → List ℕ → List SchemaNode → Option ℕ
child_of parent name nodes = place_from (is_child parent name) 0 nodes

-- the name with its module's in front, `module:name`
abbrev pub qualified_name : SchemaNode → List ℕ
qualified_name node = node.home ++ (58 ∷ node.name)

abbrev pub is_in : ℕ → List ℕ → Bool
is_in n [] = false
is_in n (m ∷ ms) = nat_eq n m || is_in n ms

-- whether a node is a key of its parent
abbrev pub is_key : ℕ → Option ℕ → List SchemaNode → Bool
is_key n None nodes = false
is_key n (Some parent) nodes = is_in n (node_at parent nodes).keys

-- whether a node of this kind has children
abbrev pub may_hold : Kind → Bool
may_hold Container = true
may_hold Presence = true
may_hold Listing = true
may_hold Leaf = false
may_hold LeafList = false
