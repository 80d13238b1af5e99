-- The schema that parts compile to: which parts are accepted, and which nodes they give (RFC 7950 section 4.2, RFC 7951 section 4).
-- Nothing here speaks of a visit or of a first fault. What stands before a node matters where a rule says so, and nowhere else.
use Rattle.std.specs.Prelude.{◌≡◌, ◌≢◌, ℕ, ◌≤◌, List, [], ◌∷◌, ◌++◌, length, map, true, Option, Some, None, unwrap_or, option_and_then, if◌then◌else◌, ◌⊎◌}
use Rattle.std.specs.List.{AllByRecursion, AllZip, Contains}
use Rattle.std.specs.List.Sorted.{IsPermutation, IsStrictlySortedBy}
use Rattle.std.specs.Map.{keys_of}
use Rattle.serde_json.specs.Data.{Data, Items, no_items, item}
use Rattle.serde_json.specs.Find.{as_array}
use Rattle.yp_base.specs.Types.{same_text}
use Rattle.yp_schema.specs.declared.schema.SchemaNode.{SchemaNode}
use Rattle.yp_schema.specs.declared.stated.Stated.{Stated}
use Rattle.yp_schema.specs.declared.listing.Listed.{Listed}
use Rattle.yp_names.specs.Names.{Names, names_cmp, front}
use Rattle.yp_schema.specs.Nodes.{may_hold}
use Rattle.yp_schema.specs.Rounds.{Nodes, is_typed, is_key_type}
use Rattle.yp_schema.specs.Reading.{numbered}
use Rattle.yp_schema.specs.Stated.{form_in, node_in}

-- ---- what parts state

-- the items of an array state these nodes, one each
abbrev pub ItemsState : Items → List Stated → Type 0
ItemsState no_items [] = Unit {0}
ItemsState no_items (node ∷ nodes) = ⊥
ItemsState (item d ds) [] = ⊥
ItemsState (item d ds) (node ∷ nodes) = (node_in d ≡ Some node) × ItemsState ds nodes

-- a part is an array, and its items state these nodes
pub record PartStates (part : Data) (nodes : List Stated) : Type 0 where
  pub items : Items
  pub array : as_array part ≡ Some items
  pub states : ItemsState items nodes

-- the nodes of some parts
abbrev pub nodes_in : List (List Stated) → List Stated
nodes_in [] = []
nodes_in (part ∷ parts) = part ++ nodes_in parts

-- R holds of each element and those before it, wherever the list is cut
abbrev pub EachAfter : {X : Type 0} → (List X → X → Type 0) → List X → Type 0
EachAfter {X} R xs = (before : List X) (x : X) (after : List X) → xs ≡ before ++ x ∷ after → R before x

-- ---- paths

-- no node that stands before has its path
abbrev pub HasNewPath : List Stated → Stated → Type 0
HasNewPath before node = (other : Stated) → Contains before other → other.path ≢ node.path

-- its parent is the top, or a container or list that stands before it
abbrev pub HasParent : List Stated → Stated → Type 0
HasParent before node = (front node.path ≡ []) ⊎ ((parent : Stated) × Contains before parent × (parent.path ≡ front node.path) × (may_hold parent.body.kind ≡ true))

-- ---- modules (RFC 7951 section 4)

-- the module that stands in front of a name, if one does
abbrev pub carried_by : List ℕ → Option (List ℕ)
carried_by name = option_and_then (λ form. form.0) (form_in name)

-- a name that carries no module leaves the module as it is above
abbrev pub module_below : Option (List ℕ) → Option (List ℕ) → Option (List ℕ)
module_below above None = above
module_below above (Some home) = Some home

-- the module where some names lead, from one of module `above`
abbrev pub module_along : Option (List ℕ) → Names → Option (List ℕ)
module_along above [] = above
module_along above (name ∷ names) = module_along (module_below above (carried_by name)) names

-- the module of the node at a path; the top has none
abbrev pub module_of : Names → Option (List ℕ)
module_of path = module_along None path

-- what a name of module `home` carries below a node of module `above`: its module, exactly where it differs
abbrev pub carries : Option (List ℕ) → List ℕ → Option (List ℕ)
carries None home = Some home
carries (Some above) home = if same_text home above then None else Some home

-- a node has a module, and its last name carries it exactly where it isn't the parent's
pub record HasModule (node : Stated) : Type 0 where
  pub home : List ℕ
  pub own : module_of node.path ≡ Some home
  pub written : node.home ≡ carries (module_of (front node.path)) home

-- ---- keys (RFC 7950 section 7.8.2)

-- among some nodes a leaf with values is the child of a list that has this name; the name carries no module, so the leaf is of the list's
pub record HasKey (nodes : List Stated) (list : Stated) (key : List ℕ) : Type 0 where
  pub leaf : Stated
  pub there : Contains nodes leaf
  pub child : leaf.path ≡ list.path ++ key ∷ []
  pub fits : is_key_type leaf.body.kind leaf.body.ty ≡ true

-- each key of each list of a part names a leaf that stands in this part or in one before it
abbrev pub HasKeys : List (List Stated) → List Stated → Type 0
HasKeys before part = AllByRecursion (λ list. AllByRecursion (HasKey (nodes_in (before ++ part ∷ [])) list) list.body.keys) part

-- ---- what is compiled

-- a stated node behind its path, with its module
abbrev pub placed_node : Stated → Names × Listed
placed_node node = (node.path, record { home = unwrap_or (module_of node.path) []; name = node.name; body = node.body })

-- parts compile to nodes
pub record Compiles (parts : List Data) (nodes : List SchemaNode) : Type 0 where
  -- the nodes that each part states
  pub stated : List (List Stated)
  pub states : AllZip PartStates parts stated
  -- no two have one path, and each stands below one that was stated before
  pub paths : EachAfter HasNewPath (nodes_in stated)
  pub parents : EachAfter HasParent (nodes_in stated)
  -- each has a module, which its name carries where it must
  pub modules : AllByRecursion HasModule (nodes_in stated)
  -- a leaf has a type, and a leaf-list one with values
  pub types : AllByRecursion (λ node. is_typed node.body.kind node.body.ty ≡ true) (nodes_in stated)
  -- the limits
  pub depth : AllByRecursion (λ node. length node.path ≤ 16) (nodes_in stated)
  pub few : length (nodes_in stated) ≤ 4096
  -- the keys of lists are leaves of theirs
  pub keys : EachAfter HasKeys stated
  -- the nodes are the stated ones in order of their paths, with the numbers that are their places there
  pub listed : Nodes
  pub each_once : IsPermutation (map placed_node (nodes_in stated)) listed
  pub in_order : IsStrictlySortedBy names_cmp (keys_of listed)
  pub compiled : nodes ≡ numbered listed
