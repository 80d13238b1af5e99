-- Rows cut into runs: the rows of one member, and of one entry.
use Rattle.std.specs.Prelude.{◌≡◌, ℕ, ◌+◌, ◌<◌, ◌≤◌, List, [], ◌∷◌, ◌++◌, take, drop, length, max, map, Bool, true, false, Option, nat_eq}
use Rattle.std.specs.Cmp.Lexicographic.{slice_cmp}
use Rattle.std.specs.Ordering.{nat_cmp}
use Rattle.std.specs.declared.cmp.Ordering.TheVariants.{Less}
use Rattle.std.specs.List.{AllByRecursion}
use Rattle.std.specs.List.Sorted.{IsStrictlySortedBy}
use Rattle.yp_base.specs.declared.path.Seg.{Seg}
use Rattle.yp_base.specs.declared.row.Value.{Value}
use Rattle.yp_base.specs.declared.row.Row.{Row}
use Rattle.yp_base.specs.Order.{path_cmp}
use Rattle.yp_schema.specs.declared.schema.SchemaNode.{SchemaNode}
use Rattle.yp_schema.specs.declared.schema.Kind.{Kind}
use Rattle.yp_schema.specs.declared.schema.Kind.TheVariants.{Container, Presence, List as Listing, Leaf, LeafList}
use Rattle.yp_schema.specs.Nodes.{node_at}
use Rattle.yp_schema.specs.Datastore.{goes_to_row}
use Rattle.serde_json.specs.Data.{Data, Members, no_members, member}
use Rattle.yp_data_json.specs.Forest.{Forest, laid_all}
use Rattle.yp_data_json.specs.Writing.{Entry, Gathered, entry_in_front, gathered, members_in}

-- a path ends in this segment
abbrev pub EndsIn : Seg → List Seg → Type 0
EndsIn seg path = (above : List Seg) × (path ≡ above ++ seg ∷ [])

-- ---- rows below one object

-- what is left of a row's path goes down from the object's node to where a row of this value may end, unless nothing is left
abbrev pub GoesOn : List SchemaNode → Option ℕ → List Seg → Value → Type 0
GoesOn nodes parent [] value = Unit {0}
GoesOn nodes parent (seg ∷ segs) value = goes_to_row nodes parent (seg ∷ segs) value ≡ true

abbrev pub IsRest : List SchemaNode → Option ℕ → ℕ → Row → Type 0
IsRest nodes parent depth row = GoesOn nodes parent (drop depth row.path) row.value

abbrev pub rest_at : ℕ → Row → List Seg
rest_at depth row = drop depth row.path

-- rows in the order of what is left of their paths
abbrev pub AreRising : ℕ → List Row → Type 0
AreRising depth rows = IsStrictlySortedBy path_cmp (map (rest_at depth) rows)

-- rows that go on below one node, or from the top, in such order
pub record AreBelow (nodes : List SchemaNode) (parent : Option ℕ) (depth : ℕ) (rows : List Row) : Type 0 where
  pub each : AllByRecursion (IsRest nodes parent depth) rows
  pub in_order : AreRising depth rows

abbrev pub GoOnBelow : List SchemaNode → ℕ → List Row → Type 0
GoOnBelow nodes depth rows = (parent : Option ℕ) × AreBelow nodes parent depth rows

-- the most segments of a path
abbrev pub longest : List Row → ℕ
longest [] = 0
longest (row ∷ rows) = max (length row.path) (longest rows)

-- ---- runs

abbrev pub begins_with : ℕ → List Seg → Bool
begins_with node [] = false
begins_with node (seg ∷ segs) = nat_eq seg.node node

-- whether a row's path has a segment of this node at a depth
abbrev pub goes_through : ℕ → ℕ → Row → Bool
goes_through depth node row = begins_with node (drop depth row.path)

abbrev pub AllGoThrough : ℕ → ℕ → List Row → Type 0
AllGoThrough depth node rows = AllByRecursion (λ row. goes_through depth node row ≡ true) rows

-- whether the first row's path does
abbrev pub begins_through : ℕ → ℕ → List Row → Bool
begins_through depth node [] = false
begins_through depth node (row ∷ rows) = goes_through depth node row

-- a row's path has this segment at a depth
abbrev pub HasSegment : ℕ → Seg → Row → Type 0
HasSegment depth seg row = drop depth row.path ≡ seg ∷ drop (depth + 1) row.path

-- the first row's path does
abbrev pub StartsWith : ℕ → Seg → List Row → Type 0
StartsWith depth seg [] = ⊥
StartsWith depth seg (row ∷ rows) = HasSegment depth seg row

-- the first row's path doesn't
abbrev pub StartsApart : ℕ → Seg → List Row → Type 0
StartsApart depth seg [] = Unit {0}
StartsApart depth seg (row ∷ rows) = HasSegment depth seg row → ⊥

-- the rows of an entry that rows begin with go at least so far, and at most
pub record EndsBetween (depth : ℕ) (seg : Seg) (rows : List Row) (low high : ℕ) : Type 0 where
  pub order : low ≤ high
  pub within : high ≤ length rows
  pub run : AllByRecursion (HasSegment depth seg) (take low rows)
  pub apart : StartsApart depth seg (drop high rows)

-- ---- what is written of a run

-- entries of a node, each in front of those after it
abbrev pub all_in_front : ℕ → List Entry → Gathered → Gathered
all_in_front n [] after = after
all_in_front n (entry ∷ entries) after = entry_in_front n entry (all_in_front n entries after)

-- whether a node of this kind has entries
abbrev pub has_items : Kind → Bool
has_items Container = false
has_items Presence = false
has_items Listing = true
has_items Leaf = false
has_items LeafList = true

-- a name stands before the first of these members
abbrev pub StandsBefore : List ℕ → Members → Type 0
StandsBefore name no_members = Unit {0}
StandsBefore name (member other d ms) = slice_cmp nat_cmp name other ≡ Less

-- rows of one node, in front of later members, are one member of this value
abbrev pub AreOneMember : List SchemaNode → ℕ → ℕ → List Row → Data → Type 0
AreOneMember nodes depth node rows d =
    (f : Forest) → StandsBefore (node_at node nodes).member (members_in nodes f)
    → members_in nodes (laid_all depth rows f) ≡ member (node_at node nodes).member d (members_in nodes f)

-- rows of one list or leaf-list, in front of later members, are these entries
abbrev pub AreEntries : List SchemaNode → ℕ → ℕ → List Row → List Entry → Type 0
AreEntries nodes depth node rows entries =
    (f : Forest) → StandsBefore (node_at node nodes).member (members_in nodes f)
    → gathered nodes (laid_all depth rows f) ≡ all_in_front node entries (gathered nodes f)
