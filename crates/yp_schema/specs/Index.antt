-- What a schema keeps beside its nodes: the children of each by their member forms, where slot 0 is the top's and slot n + 1 that of node n, and which nodes are keys.
use Rattle.std.specs.Prelude.{◌≡◌, ℕ, suc, List, Bool, false, Option, Some, None, option_and_then, get_or}
use Rattle.std.specs.BTreeMap.{BTreeMap, get_by_text}
use Rattle.std.specs.List.{slice_get}
use Rattle.std.specs.declared.string.String.{String}
use Rattle.yp_schema.specs.declared.schema.SchemaNode.{SchemaNode}
use Rattle.yp_schema.specs.Nodes.{node_at, child_of, is_key}

abbrev pub indexed_at : {Y : Type 0} → ℕ → List ℕ → List (BTreeMap (String Y) ℕ) → Option ℕ
indexed_at slot name index = option_and_then (λ children. get_by_text children name) (slice_get index slot)

abbrev pub slot_of : Option ℕ → ℕ
slot_of None = 0
slot_of (Some n) = suc n

-- an index of some nodes finds their children
abbrev pub IsIndex : {Y : Type 0} → List (BTreeMap (String Y) ℕ) → List SchemaNode → Type 0
IsIndex index nodes = (parent : Option ℕ) (name : List ℕ) → indexed_at (slot_of parent) name index ≡ child_of parent name nodes

-- some flags tell of each node whether it is a key of its parent
abbrev pub TellsKeys : List Bool → List SchemaNode → Type 0
TellsKeys flags nodes = (n : ℕ) → get_or flags n false ≡ is_key n (node_at n nodes).parent nodes
