-- What a filter says (RFC 6241 section 6.2): sets of selection, content match and containment nodes.
use Rattle.std.specs.Prelude.{ℕ, ◌+◌, Bool, false, ◌||◌, nat_eq}
use Rattle.yp_base.specs.declared.row.Value.{Value}

mutual
  pub data Node : Type 0 where
    -- a selection node, by the number of its schema node
    select : ℕ → Node
    -- a content match node, with the value that is asked for
    compare : ℕ → Value → Node
    -- a containment node, with its set
    within : ℕ → Nodes → Node
    -- a selection or containment node, and a match node, whose name isn't in the schema
    unknown : Node
    unknown_compare : Node

  -- a set of nodes, in order
  pub data Nodes : Type 0 where
    none : Nodes
    more : Node → Nodes → Nodes

-- everything, or what a set selects
pub data Asked : Type 0 where
  all_rows : Asked
  of_set : Nodes → Asked

-- ---- which schema nodes are compared

-- whether a node, or one inside it, matches on this schema node
abbrev mutual
  pub node_compares : ℕ → Node → Bool
  node_compares n (select m) = false
  node_compares n (compare m value) = nat_eq n m
  node_compares n (within m set) = set_compares n set
  node_compares n unknown = false
  node_compares n unknown_compare = false

  pub set_compares : ℕ → Nodes → Bool
  set_compares n none = false
  set_compares n (more node nodes) = node_compares n node || set_compares n nodes

abbrev pub compares : ℕ → Asked → Bool
compares n all_rows = false
compares n (of_set set) = set_compares n set

-- ---- sizes

-- how many nodes there are, at all levels
abbrev mutual
  pub node_size : Node → ℕ
  node_size (select m) = 1
  node_size (compare m value) = 1
  node_size (within m set) = 1 + set_size set
  node_size unknown = 1
  node_size unknown_compare = 1

  pub set_size : Nodes → ℕ
  set_size none = 0
  set_size (more node nodes) = node_size node + set_size nodes

abbrev pub filter_size : Asked → ℕ
filter_size all_rows = 0
filter_size (of_set set) = set_size set
