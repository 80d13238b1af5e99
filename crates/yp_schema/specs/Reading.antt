-- The nodes that the parts of a schema give, numbered in pre-order, siblings in byte order of their member forms; or the first fault.
use Rattle.std.specs.Prelude.{◌≡◌, ℕ, ◌+◌, List, [], ◌∷◌, ◌++◌, map, Option, Some, None, Result, Ok, Err}
use Rattle.std.specs.BTreeMap.{is_at}
use Rattle.std.specs.Map.{lookup}
use Rattle.serde_json.specs.Data.{Data}
use Rattle.yp_schema.specs.declared.schema.SchemaNode.{SchemaNode}
use Rattle.yp_schema.specs.declared.fault.SchemaFault.{SchemaFault}
use Rattle.yp_schema.specs.declared.fault.SchemaFault.TheVariants.{At, Memory}
use Rattle.yp_schema.specs.declared.listing.Listed.{Listed}
use Rattle.yp_names.specs.Names.{Names, names_cmp, front, last}
use Rattle.yp_base.specs.Results.{◌>>=◌}
use Rattle.yp_schema.specs.Rounds.{Nodes, Fault, fault_at, parts_in}

-- the ways to the nodes, with their numbers
abbrev pub Numbers : Type 0
Numbers = List (Names × ℕ)

-- each way with its place, counted from `from`
abbrev pub numbers_from : ℕ → Nodes → Numbers
numbers_from from [] = []
numbers_from from (e ∷ nodes) = (e.0, from) ∷ numbers_from (from + 1) nodes

abbrev pub number_of : Names → Numbers → Option ℕ
number_of path numbers = lookup (is_at (names_cmp path)) numbers

abbrev pub with_number : Option ℕ → List ℕ → List ℕ
with_number None numbers = numbers
with_number (Some n) numbers = n ∷ numbers

-- the numbers of the keys of the list at a path
abbrev pub key_numbers : Names → Names → Numbers → List ℕ
key_numbers path [] numbers = []
key_numbers path (key ∷ keys) numbers = with_number (number_of (path ++ key ∷ []) numbers) (key_numbers path keys numbers)

abbrev pub numbered_node : Numbers → Names × Listed → SchemaNode
numbered_node numbers e = record {
  parent = number_of (front e.0) numbers;
  kind = e.1.body.kind;
  home = e.1.home;
  name = e.1.name;
  member = last e.0;
  keys = key_numbers e.0 e.1.body.keys numbers;
  ty = e.1.body.ty;
  deny_all = e.1.body.deny_all;
}

abbrev pub numbered : Nodes → List SchemaNode
numbered nodes = map (numbered_node (numbers_from 0 nodes)) nodes

-- the schema of some parts, or the first fault
abbrev pub schema_of : List Data → Result (List SchemaNode) Fault
schema_of parts = parts_in 0 parts [] >>= λ nodes. Ok (numbered nodes)

-- an error is this fault, unless memory ran out
abbrev pub Tells : {X : Type 0} → SchemaFault → Result X Fault → Type 0
Tells (At part place kind) read = read ≡ Err (fault_at part place kind)
Tells Memory read = Unit {0}

-- what is answered is what the definition gives
abbrev pub Reads : {X : Type 0} → Result X SchemaFault → Result X Fault → Type 0
Reads (Ok x) read = read ≡ Ok x
Reads (Err error) read = Tells error read

-- the same of what is left behind
abbrev pub Leaves : {X Y : Type 0} → Result Y SchemaFault → X → Result X Fault → Type 0
Leaves (Ok y) after read = read ≡ Ok after
Leaves (Err error) after read = Tells error read
