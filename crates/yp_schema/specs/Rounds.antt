-- The parts of a schema, taken in order, each in two rounds; the first fault is answered with its part and place.
use Rattle.std.specs.Prelude.{ℕ, ◌+◌, List, [], ◌∷◌, ◌++◌, length, Bool, true, false, not, ◌&&◌, Option, Some, None, is_some, option_and_then, Result, Ok, Err, if◌then◌else◌, nat_lt, nat_le}
use Rattle.std.specs.BTreeMap.{insert_entry, is_at}
use Rattle.std.specs.Map.{lookup}
use Rattle.serde_json.specs.Data.{Data, Items, no_items, item}
use Rattle.serde_json.specs.Find.{as_array}
use Rattle.yp_base.specs.Types.{same_text, has_atoms}
use Rattle.yp_base.specs.Results.{◌>>=◌}
use Rattle.yp_base.specs.declared.leaf_type.LeafType.{LeafType}
use Rattle.yp_schema.specs.declared.schema.Kind.{Kind}
use Rattle.yp_schema.specs.declared.schema.Kind.TheVariants.{Container, Presence, List as Listing, Leaf, LeafList}
use Rattle.yp_schema.specs.declared.stated.Stated.{Stated}
use Rattle.yp_schema.specs.declared.fault.SchemaKind.{SchemaKind}
use Rattle.yp_schema.specs.declared.fault.SchemaKind.TheVariants as faults
use Rattle.yp_schema.specs.declared.listing.Listed.{Listed}
use Rattle.yp_names.specs.Names.{Names, names_cmp, front}
use Rattle.yp_schema.specs.Nodes.{may_hold}
use Rattle.yp_schema.specs.Stated.{node_in}

-- the nodes so far, each behind the names on the way to it, in the order of these names
abbrev pub Nodes : Type 0
Nodes = List (Names × Listed)

abbrev pub listed_at : Names → Nodes → Option Listed
listed_at path nodes = lookup (is_at (names_cmp path)) nodes

-- ---- the first round

abbrev pub module_of_holder : Listed → Option (Option (List ℕ))
module_of_holder node = if may_hold node.body.kind then Some (Some node.home) else None

-- the module of a parent, which is the top or a listed container or list; the top has none
abbrev pub parent_module : Names → Nodes → Option (Option (List ℕ))
parent_module [] nodes = Some None
parent_module (name ∷ names) nodes = option_and_then module_of_holder (listed_at (name ∷ names) nodes)

-- the module of a node, by its parent's and its own name's: a name has a module in front at the top and where it isn't the parent's, and only there (RFC 7951 section 4)
abbrev pub own_module : Option (List ℕ) → Option (List ℕ) → Option (List ℕ)
own_module None None = None
own_module None (Some home) = Some home
own_module (Some above) None = Some above
own_module (Some above) (Some home) = if same_text home above then None else Some home

abbrev pub module_in : Names → Option (List ℕ) → Nodes → Option (List ℕ)
module_in path home nodes = option_and_then (λ above. own_module above home) (parent_module (front path) nodes)

-- whether a leaf has a type, and a leaf-list one whose values are atoms
abbrev pub atoms_in : Option LeafType → Bool
atoms_in None = false
atoms_in (Some ty) = has_atoms ty

abbrev pub is_typed : Kind → Option LeafType → Bool
is_typed Container ty = true
is_typed Presence ty = true
is_typed Listing ty = true
is_typed Leaf ty = is_some ty
is_typed LeafList ty = atoms_in ty

-- a node of a module that is known, after Member
abbrev pub placed : Names → Listed → Nodes → Result Nodes SchemaKind
placed path node nodes =
    if is_some (listed_at path nodes) then Err faults.Duplicate
    else (if not (is_typed node.body.kind node.body.ty) then Err faults.UnknownType
    else (if nat_lt 16 (length path) then Err faults.TooDeep
    else (if nat_le 4096 (length nodes) then Err faults.TooMany
    else Ok (insert_entry names_cmp nodes path node))))

abbrev pub in_module : Stated → Option (List ℕ) → Nodes → Result Nodes SchemaKind
in_module node None nodes = Err faults.Member
in_module node (Some home) nodes = placed node.path (record { home = home; name = node.name; body = node.body }) nodes

abbrev pub added : Option Stated → Nodes → Result Nodes SchemaKind
added None nodes = Err faults.Member
added (Some node) nodes = in_module node (module_in node.path node.home nodes) nodes

-- a fault: its part, the place of its node there, both counted from 0, and what is wrong
pub record Fault : Type 0 where
  pub part : ℕ
  pub place : ℕ
  pub kind : SchemaKind

abbrev pub fault_at : ℕ → ℕ → SchemaKind → Fault
fault_at part place kind = record { part = part; place = place; kind = kind }

-- a fault at its place
abbrev pub at_place : {A : Type 0} → ℕ → ℕ → Result A SchemaKind → Result A Fault
at_place part place (Ok x) = Ok x
at_place part place (Err kind) = Err (fault_at part place kind)

abbrev pub first_round : ℕ → ℕ → Items → Nodes → Result Nodes Fault
first_round part place no_items nodes = Ok nodes
first_round part place (item d ds) nodes = at_place part place (added (node_in d) nodes) >>= λ after. first_round part (place + 1) ds after

-- ---- the second round

-- whether each key names a child
abbrev pub keys_there : Names → Names → Nodes → Bool
keys_there path [] nodes = true
keys_there path (key ∷ keys) nodes = is_some (listed_at (path ++ key ∷ []) nodes) && keys_there path keys nodes

-- a leaf that isn't empty
abbrev pub is_key_type : Kind → Option LeafType → Bool
is_key_type Container ty = false
is_key_type Presence ty = false
is_key_type Listing ty = false
is_key_type Leaf ty = atoms_in ty
is_key_type LeafList ty = false

abbrev pub may_be_key : Option Listed → Bool
may_be_key None = false
may_be_key (Some node) = is_key_type node.body.kind node.body.ty

abbrev pub keys_fit : Names → Names → Nodes → Bool
keys_fit path [] nodes = true
keys_fit path (key ∷ keys) nodes = may_be_key (listed_at (path ++ key ∷ []) nodes) && keys_fit path keys nodes

abbrev pub checked : Option Stated → Nodes → Result Nodes SchemaKind
checked None nodes = Ok nodes
checked (Some node) nodes =
    if not (keys_there node.path node.body.keys nodes) then Err faults.NoKey
    else (if not (keys_fit node.path node.body.keys nodes) then Err faults.KeyNotLeaf else Ok nodes)

abbrev pub second_round : ℕ → ℕ → Items → Nodes → Result Nodes Fault
second_round part place no_items nodes = Ok nodes
second_round part place (item d ds) nodes = at_place part place (checked (node_in d) nodes) >>= λ after. second_round part (place + 1) ds after

-- ---- the parts

abbrev pub part_in : ℕ → Option Items → Nodes → Result Nodes Fault
part_in part None nodes = Err (fault_at part 0 faults.Member)
part_in part (Some ds) nodes = first_round part 0 ds nodes >>= λ after. second_round part 0 ds after

abbrev pub parts_in : ℕ → List Data → Nodes → Result Nodes Fault
parts_in part [] nodes = Ok nodes
parts_in part (d ∷ ds) nodes = part_in part (as_array d) nodes >>= λ after. parts_in (part + 1) ds after
