-- What a filter could keep by its form alone, whatever the rows are (RFC 6241 section 6.2).
use Rattle.std.specs.Prelude.{List, [], ◌∷◌, Bool, true, false, ◌&&◌, ◌||◌, nat_eq}
use Rattle.yp_base.specs.declared.path.Seg.{Seg}
use Rattle.yp_schema.specs.declared.schema.SchemaNode.{SchemaNode}
use Rattle.yp_schema.specs.WellFormed.{is_empty}
use Rattle.yp_filter.specs.Filters.{Node, Nodes, select, compare, within, unknown, unknown_compare, none, more, Asked, all_rows, of_set}
use Rattle.yp_kept.specs.Selection.{only_matches, set_names, set_selects}

-- whether a set could keep what is left of a path below its instance: nothing is left, or one row is left that a match node asks for, or the set has match nodes alone, or a selection node names the way, or a containment node could lead on
abbrev pub could_keep_by : List SchemaNode → Nodes → List Seg → Bool → Bool
could_keep_by nodes set [] leads = true
could_keep_by nodes set (seg ∷ segs) leads = (is_empty segs && set_names nodes seg set) || only_matches set || set_selects seg.node set || leads

abbrev mutual
  -- whether a containment node could keep what is left of a path: it names the way, and its set could keep the rest
  pub node_could_lead : List SchemaNode → Node → List Seg → Bool
  node_could_lead nodes (select n) rest = false
  node_could_lead nodes (compare n value) rest = false
  node_could_lead nodes (within n set) [] = false
  node_could_lead nodes (within n set) (seg ∷ segs) = nat_eq seg.node n && could_keep_by nodes set segs (set_could_lead nodes set segs)
  node_could_lead nodes unknown rest = false
  node_could_lead nodes unknown_compare rest = false

  pub set_could_lead : List SchemaNode → Nodes → List Seg → Bool
  set_could_lead nodes none rest = false
  set_could_lead nodes (more node set) rest = node_could_lead nodes node rest || set_could_lead nodes set rest

-- whether a set could keep what is left of a path below its instance
abbrev pub could_keep : List SchemaNode → Nodes → List Seg → Bool
could_keep nodes set rest = could_keep_by nodes set rest (set_could_lead nodes set rest)

-- whether a filter could keep the row at a path
abbrev pub could_be_kept : List SchemaNode → Asked → List Seg → Bool
could_be_kept nodes all_rows path = true
could_be_kept nodes (of_set set) path = could_keep nodes set path
