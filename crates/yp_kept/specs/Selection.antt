-- What a subtree filter selects of the rows that may be read (RFC 6241 section 6.2; RFC 8641 section 3.6).
use Rattle.std.specs.Prelude.{ℕ, List, [], ◌∷◌, ◌++◌, filter, Bool, true, false, ◌&&◌, ◌||◌, nat_eq}
use Rattle.std.specs.Ordering.{is_eq}
use Rattle.yp_base.specs.declared.path.Seg.{Seg}
use Rattle.yp_base.specs.declared.row.Row.{Row}
use Rattle.yp_base.specs.Order.{segment_cmp}
use Rattle.yp_schema.specs.declared.schema.SchemaNode.{SchemaNode}
use Rattle.yp_schema.specs.declared.schema.Kind.{Kind}
use Rattle.yp_schema.specs.declared.schema.Kind.TheVariants.{Container, Presence, List as Listing, Leaf, LeafList}
use Rattle.yp_schema.specs.Nodes.{node_at}
use Rattle.yp_schema.specs.WellFormed.{is_empty}
use Rattle.yp_schema.specs.Datastore.{has_row}
use Rattle.yp_filter.specs.Filters.{Node, Nodes, select, compare, within, unknown, unknown_compare, none, more, Asked, all_rows, of_set}
use Rattle.yp_nacm.specs.Decision.{visible_rows}
use Rattle.yp_kept.specs.Matches.{match_segment, all_hold}

-- ---- kinds of nodes in a set

-- whether a node is a match node
abbrev pub is_match : Node → Bool
is_match (select n) = false
is_match (compare n value) = true
is_match (within n set) = false
is_match unknown = false
is_match unknown_compare = true

abbrev pub has_match : Nodes → Bool
has_match none = false
has_match (more node set) = is_match node || has_match set

abbrev pub all_match : Nodes → Bool
all_match none = true
all_match (more node set) = is_match node && all_match set

-- whether a set has match nodes and nothing else (RFC 6241 section 6.2.5: then all of the instance is selected)
abbrev pub only_matches : Nodes → Bool
only_matches set = has_match set && all_match set

-- whether a segment is that of the row that a match node asks for
abbrev pub node_names : List SchemaNode → Seg → Node → Bool
node_names nodes seg (select n) = false
node_names nodes seg (compare n value) = is_eq (segment_cmp (match_segment nodes n value) seg)
node_names nodes seg (within n set) = false
node_names nodes seg unknown = false
node_names nodes seg unknown_compare = false

abbrev pub set_names : List SchemaNode → Seg → Nodes → Bool
set_names nodes seg none = false
set_names nodes seg (more node set) = node_names nodes seg node || set_names nodes seg set

-- whether a node is a selection node of this child (RFC 6241 section 6.2.4)
abbrev pub node_selects : ℕ → Node → Bool
node_selects n (select m) = nat_eq n m
node_selects n (compare m value) = false
node_selects n (within m set) = false
node_selects n unknown = false
node_selects n unknown_compare = false

abbrev pub set_selects : ℕ → Nodes → Bool
set_selects n none = false
set_selects n (more node set) = node_selects n node || set_selects n set

-- ---- what a set keeps

-- whether a set can be processed at an instance of this kind: a container, or a list entry that has a row
abbrev pub enters_by : Kind → Bool → Bool
enters_by Container there = true
enters_by Presence there = true
enters_by Listing there = there
enters_by Leaf there = false
enters_by LeafList there = false

abbrev pub enters : List SchemaNode → List Row → List Seg → ℕ → Bool
enters nodes rows at n = enters_by (node_at n nodes).kind (has_row at rows)

-- whether a set at an instance keeps what is left of a path below it: all its match nodes hold, and nothing is left, or one row is left that a match node asks for, or the set has match nodes alone, or a selection node names the way, or a containment node leads on
abbrev pub keeps_by : List SchemaNode → List Row → Nodes → List Seg → List Seg → Bool → Bool
keeps_by nodes rows set at [] leads = all_hold nodes rows at set
keeps_by nodes rows set at (seg ∷ segs) leads =
    all_hold nodes rows at set && ((is_empty segs && set_names nodes seg set) || only_matches set || set_selects seg.node set || leads)

abbrev mutual
  -- whether a containment node keeps what is left of a path: it names the way, the instance there can be entered, and its set keeps the rest (RFC 6241 section 6.2.3)
  pub node_leads : List SchemaNode → List Row → Node → List Seg → List Seg → Bool
  node_leads nodes rows (select n) at rest = false
  node_leads nodes rows (compare n value) at rest = false
  node_leads nodes rows (within n set) at [] = false
  node_leads nodes rows (within n set) at (seg ∷ segs) =
      nat_eq seg.node n && enters nodes rows (at ++ seg ∷ []) n && keeps_by nodes rows set (at ++ seg ∷ []) segs (set_leads nodes rows set (at ++ seg ∷ []) segs)
  node_leads nodes rows unknown at rest = false
  node_leads nodes rows unknown_compare at rest = false

  pub set_leads : List SchemaNode → List Row → Nodes → List Seg → List Seg → Bool
  set_leads nodes rows none at rest = false
  set_leads nodes rows (more node set) at rest = node_leads nodes rows node at rest || set_leads nodes rows set at rest

-- whether a set at an instance keeps what is left of a path below it
abbrev pub keeps : List SchemaNode → List Row → Nodes → List Seg → List Seg → Bool
keeps nodes rows set at rest = keeps_by nodes rows set at rest (set_leads nodes rows set at rest)

-- whether a filter keeps the row at a path, among these rows
abbrev pub kept : List SchemaNode → Asked → List Row → List Seg → Bool
kept nodes all_rows rows path = true
kept nodes (of_set set) rows path = keeps nodes rows set [] path

-- ---- selections

-- of these rows those that a filter keeps among them
abbrev pub kept_rows : List SchemaNode → Asked → List Row → List Row
kept_rows nodes asked rows = filter (λ row. kept nodes asked rows row.path) rows

-- what a filter selects for a reader: of the rows that may be read those that it keeps among these, so what may not be read decides nothing
abbrev pub selection : List SchemaNode → Asked → (List Seg → Bool) → List Row → List Row
selection nodes asked readable rows = kept_rows nodes asked (visible_rows readable rows)
