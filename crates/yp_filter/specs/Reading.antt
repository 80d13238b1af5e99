-- The filter that JSON is, or its first fault (RFC 6241 section 6). Members are visited in byte order of their names, depth first, and arrays in order.
use Rattle.std.specs.Prelude.{◌≡◌, ℕ, zero, suc, ◌-◌, List, [], ◌∷◌, ◌++◌, Option, Some, None, Result, Ok, Err, if◌then◌else◌}
use Rattle.serde_json.specs.Data.{Data, null, boolean, number, string, array, object, Items, no_items, item, Members, no_members, member}
use Rattle.yp_base.specs.declared.leaf_type.LeafType.{LeafType}
use Rattle.yp_base.specs.declared.atom.Atom.{Atom}
use Rattle.yp_base.specs.declared.row.Value.TheVariants.{Atom as Plain}
use Rattle.yp_value.specs.Json.{is_one_null}
use Rattle.yp_base.specs.Results.{◌>>=◌, or_fault}
use Rattle.yp_schema.specs.declared.schema.Kind.{Kind}
use Rattle.yp_schema.specs.declared.schema.SchemaNode.{SchemaNode}
use Rattle.yp_schema.specs.Datastore.{is_leaf_kind}
use Rattle.yp_schema.specs.Nodes.{node_at, child_of}
use Rattle.yp_schema.specs.Values.{typed_atom}
use Rattle.yp_filter.specs.declared.fault.FilterFault.{FilterFault}
use Rattle.yp_filter.specs.declared.fault.FilterFault.TheVariants.{Shape, Value as BadValue, TooDeep, Memory}
use Rattle.yp_filter.specs.declared.naming.Place.{Place}
use Rattle.yp_filter.specs.declared.naming.Place.TheVariants.{Children, Nowhere}
use Rattle.yp_filter.specs.Filters.{Node, Nodes, select, compare, within, unknown, unknown_compare, Asked, of_set}
use Rattle.yp_filter.specs.View.{nodes_of}

-- ---- what a call answers

-- a fault is that of the reading, but where memory ran out
abbrev pub Fails : {X : Type 0} → FilterFault → Result X FilterFault → Type 0
Fails Shape read = read ≡ Err Shape
Fails BadValue read = read ≡ Err BadValue
Fails TooDeep read = read ≡ Err TooDeep
Fails Memory read = Unit {0}

-- what is answered says what the reading gives
abbrev pub Gives : {A X : Type 0} → (A → X) → Result A FilterFault → Result X FilterFault → Type 0
Gives says (Ok x) read = read ≡ Ok (says x)
Gives says (Err e) read = Fails e read

-- these nodes, and then those that are read
abbrev pub after_these : List Node → Result (List Node) FilterFault → Result (List Node) FilterFault
after_these before read = read >>= λ nodes. Ok (before ++ nodes)

-- the nodes before are now those, and then what the reading gives
abbrev pub Adds : {X : Type 0} → Result X FilterFault → List Node → List Node → Result (List Node) FilterFault → Type 0
Adds (Ok x) before now read = after_these before read ≡ Ok now
Adds (Err e) before now read = Fails e (after_these before read)

-- ---- what a name names

-- the schema node that a member form names at a place; below a name that isn't in the schema there is none
abbrev pub named_by : List SchemaNode → Place → List ℕ → Option ℕ
named_by nodes (Children parent) name = child_of parent name nodes
named_by nodes Nowhere name = None

-- where the names of a set below are looked up
abbrev pub place_below : Option ℕ → Place
place_below None = Nowhere
place_below (Some n) = Children (Some n)

-- ---- the three kinds of nodes

-- a selection node (RFC 6241 section 6.2.4)
abbrev pub selection : Option ℕ → Node
selection None = unknown
selection (Some n) = select n

-- a containment node (RFC 6241 section 6.2.3)
abbrev pub containment : Option ℕ → Nodes → Node
containment None set = unknown
containment (Some n) set = within n set

-- what a match on a node asks for: an atom of the type of a leaf or a leaf-list, and of any other node nothing
abbrev pub atom_asked : Kind → Option LeafType → Data → Option Atom
atom_asked kind ty d = if is_leaf_kind kind then typed_atom ty d else None

-- a content match node (RFC 6241 section 6.2.5)
abbrev pub content_match : List SchemaNode → Option ℕ → Data → Result Node FilterFault
content_match nodes None d = Ok unknown_compare
content_match nodes (Some n) d = or_fault BadValue (atom_asked (node_at n nodes).kind (node_at n nodes).ty d) >>= λ atom. Ok (compare n (Plain atom))

-- an object: a selection node where it is empty, else a containment node with the set of its members, unless no more sets may nest here
abbrev pub of_object : ℕ → Option ℕ → Members → Result (List Node) FilterFault → Result Node FilterFault
of_object room named no_members set = Ok (selection named)
of_object zero named (member name d ms) set = Err TooDeep
of_object (suc room) named (member name d ms) set = set >>= λ nodes. Ok (containment named (nodes_of nodes))

-- what is read of the items of an array, of which there is one at least
abbrev pub some_items : Items → Result (List Node) FilterFault → Result (List Node) FilterFault
some_items no_items read = Err Shape
some_items (item d ds) read = read

-- an array: a selection node where it is that of one null, else the nodes of its items
abbrev pub of_array : Option ℕ → Items → Result (List Node) FilterFault → Result (List Node) FilterFault
of_array named ds read = if is_one_null ds then Ok (selection named ∷ []) else some_items ds read

-- ---- sets

-- the one node that is read
abbrev pub only : Result Node FilterFault → Result (List Node) FilterFault
only read = read >>= λ node. Ok (node ∷ [])

-- these nodes and those
abbrev pub joined : Result (List Node) FilterFault → Result (List Node) FilterFault → Result (List Node) FilterFault
joined first rest = first >>= λ nodes. after_these nodes rest

abbrev mutual
  -- the nodes of a set whose names are looked up at a place, where so many more sets may nest below it: those of each member
  pub set_in : List SchemaNode → ℕ → Place → Members → Result (List Node) FilterFault
  set_in nodes room place no_members = Ok []
  set_in nodes room place (member name d ms) = joined (member_in nodes room (named_by nodes place name) d) (set_in nodes room place ms)

  -- the nodes of a member
  pub member_in : List SchemaNode → ℕ → Option ℕ → Data → Result (List Node) FilterFault
  member_in nodes room named null = Err Shape
  member_in nodes room named (boolean b) = only (content_match nodes named (boolean b))
  member_in nodes room named (number x) = only (content_match nodes named (number x))
  member_in nodes room named (string s) = only (content_match nodes named (string s))
  member_in nodes room named (array ds) = of_array named ds (items_in nodes room named ds)
  member_in nodes room named (object ms) = only (of_object room named ms (set_in nodes (room - 1) (place_below named) ms))

  -- those of the items of an array, each an object
  pub items_in : List SchemaNode → ℕ → Option ℕ → Items → Result (List Node) FilterFault
  items_in nodes room named no_items = Ok []
  items_in nodes room named (item d ds) = joined (only (item_in nodes room named d)) (items_in nodes room named ds)

  pub item_in : List SchemaNode → ℕ → Option ℕ → Data → Result Node FilterFault
  item_in nodes room named null = Err Shape
  item_in nodes room named (boolean b) = Err Shape
  item_in nodes room named (number x) = Err Shape
  item_in nodes room named (string s) = Err Shape
  item_in nodes room named (array ds) = Err Shape
  item_in nodes room named (object ms) = of_object room named ms (set_in nodes (room - 1) (place_below named) ms)

-- ---- a filter

-- what a filter says by the nodes of its set
abbrev pub asked_by : Result (List Node) FilterFault → Result Asked FilterFault
asked_by read = read >>= λ nodes. Ok (of_set (nodes_of nodes))

-- what the filter that JSON is says: an object, whose set is the first of 16 that may nest
abbrev pub filter_in : List SchemaNode → Data → Result Asked FilterFault
filter_in nodes null = Err Shape
filter_in nodes (boolean b) = Err Shape
filter_in nodes (number x) = Err Shape
filter_in nodes (string s) = Err Shape
filter_in nodes (array ds) = Err Shape
filter_in nodes (object ms) = asked_by (set_in nodes 15 (Children None) ms)
