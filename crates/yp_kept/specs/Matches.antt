-- Content match nodes (RFC 6241 section 6.2.5): whether one holds at an instance, which is the top, a container or a list entry.
use Rattle.std.specs.Prelude.{ℕ, List, [], ◌∷◌, ◌++◌, Bool, true, false, ◌&&◌, Option, Some, None, is_some, nat_eq, if◌then◌else◌}
use Rattle.std.specs.Ordering.{is_eq}
use Rattle.yp_base.specs.declared.atom.Atom.{Atom}
use Rattle.yp_base.specs.declared.path.Seg.{Seg}
use Rattle.yp_base.specs.declared.row.Value.{Value}
use Rattle.yp_base.specs.declared.row.Value.TheVariants.{Atom as Plain, Member, Empty, Present}
use Rattle.yp_base.specs.declared.row.Row.{Row}
use Rattle.yp_base.specs.Order.{atom_cmp}
use Rattle.yp_base.specs.Paths.{last_segment}
use Rattle.yp_base.specs.Rows.{value_at}
use Rattle.yp_schema.specs.declared.schema.SchemaNode.{SchemaNode}
use Rattle.yp_schema.specs.declared.schema.Kind.{Kind}
use Rattle.yp_schema.specs.declared.schema.Kind.TheVariants.{Container, Presence, List as Listing, Leaf, LeafList}
use Rattle.yp_schema.specs.Nodes.{node_at}
use Rattle.yp_filter.specs.Filters.{Node, Nodes, select, compare, within, unknown, unknown_compare, none, more}

-- ---- atoms

-- the atom that a row holds, where it holds one
abbrev pub atom_in : Option Value → Option Atom
atom_in None = None
atom_in (Some (Plain atom)) = Some atom
atom_in (Some Member) = None
atom_in (Some Empty) = None
atom_in (Some Present) = None

-- whether two atoms are there and one
abbrev pub same_atom : Option Atom → Option Atom → Bool
same_atom None other = false
same_atom (Some one) None = false
same_atom (Some one) (Some other) = is_eq (atom_cmp one other)

-- ---- what stands at an instance

-- the atom that stands for a key among the keys of an entry
abbrev pub key_among : ℕ → List ℕ → List Atom → Option Atom
key_among n [] atoms = None
key_among n (key ∷ keys) [] = None
key_among n (key ∷ keys) (atom ∷ atoms) = if nat_eq n key then Some atom else key_among n keys atoms

-- the key that an entry has for a node which is a key of its list
abbrev pub key_in : List SchemaNode → Seg → ℕ → Option Atom
key_in nodes seg n = key_among n (node_at seg.node nodes).keys seg.keys

-- the key that an instance has for a node; the top has none
abbrev pub key_at : List SchemaNode → List Seg → ℕ → Option Atom
key_at nodes [] n = None
key_at nodes (seg ∷ segs) n = key_in nodes (last_segment seg segs) n

-- the keys of the row that a match asks for: of a leaf-list entry its value, of a leaf none
abbrev pub keys_asked : Kind → Value → List Atom
keys_asked LeafList (Plain atom) = atom ∷ []
keys_asked LeafList Member = []
keys_asked LeafList Empty = []
keys_asked LeafList Present = []
keys_asked Container value = []
keys_asked Presence value = []
keys_asked Listing value = []
keys_asked Leaf value = []

-- the last segment of the row that a match asks for
abbrev pub match_segment : List SchemaNode → ℕ → Value → Seg
match_segment nodes n value = record { node = n; keys = keys_asked (node_at n nodes).kind value }

-- the one that is there, the first before the other
abbrev pub either_of : {X : Type 0} → Option X → Option X → Option X
either_of None other = other
either_of (Some one) other = Some one

-- ---- whether matches hold

-- whether a match on a node of this kind holds, by the instance's key for it and by what the row holds that it asks for: a leaf by its value or its key, a leaf-list where the entry is there
abbrev pub holds_by : Kind → Option Atom → Value → Option Value → Bool
holds_by Container key value found = false
holds_by Presence key value found = false
holds_by Listing key value found = false
holds_by Leaf key value found = same_atom (either_of key (atom_in found)) (atom_in (Some value))
holds_by LeafList key value found = is_some found

-- whether an instance has that leaf with that value, or that key, or a leaf-list entry of that value
abbrev pub match_holds : List SchemaNode → List Row → List Seg → ℕ → Value → Bool
match_holds nodes rows at n value = holds_by (node_at n nodes).kind (key_at nodes at n) value (value_at (at ++ match_segment nodes n value ∷ []) rows)

-- whether a node of a set holds, where it is a match node; a match on an unknown name never does
abbrev pub node_holds : List SchemaNode → List Row → List Seg → Node → Bool
node_holds nodes rows at (select n) = true
node_holds nodes rows at (compare n value) = match_holds nodes rows at n value
node_holds nodes rows at (within n set) = true
node_holds nodes rows at unknown = true
node_holds nodes rows at unknown_compare = false

-- whether each match node of a set holds at an instance
abbrev pub all_hold : List SchemaNode → List Row → List Seg → Nodes → Bool
all_hold nodes rows at none = true
all_hold nodes rows at (more node set) = node_holds nodes rows at node && all_hold nodes rows at set
