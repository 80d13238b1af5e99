-- What stands at an instance for a filter (RFC 6241 section 6.2): all at or below it is selected, or sets of the filter are processed there.
use Rattle.std.specs.Prelude.{◌≡◌, ℕ, ◌+◌, ◌-◌, List, [], ◌∷◌, ◌++◌, length, map, take, drop, Bool, true, false, ◌&&◌, ◌||◌, not, nat_eq, if◌then◌else◌, Option, Some, None, slice_get}
use Rattle.std.specs.Borrow.{Bor}
use Rattle.std.specs.List.{list_any, AllByRecursion}
use Rattle.yp_base.specs.declared.path.Seg.{Seg}
use Rattle.yp_base.specs.declared.row.Row.{Row}
use Rattle.yp_schema.specs.declared.schema.SchemaNode.{SchemaNode}
use Rattle.yp_schema.specs.WellFormed.{is_empty}
use Rattle.yp_filter.specs.Filters.{Node, Nodes, select, compare, within, unknown, unknown_compare, none, more, set_size}
use Rattle.yp_filter.specs.Fits.{set_fits}
use Rattle.yp_filter.specs.View.{set_view}
use Rattle.yp_filter.specs.declared.filter.FilterSet.{FilterSet}
use Rattle.yp_kept.specs.declared.standing.Standing.{Standing}
use Rattle.yp_kept.specs.declared.standing.Standing.TheVariants.{Whole, Sets}
use Rattle.yp_kept.specs.declared.standing.Way.{Way}
use Rattle.yp_kept.specs.Matches.{all_hold}
use Rattle.yp_kept.specs.Selection.{only_matches, set_names, set_selects, enters}
use Rattle.yp_kept.specs.Visits.{inner_visits}

-- all at or below an instance is selected, or these sets are processed there, in order
pub data Stands : Type 0 where
  everything : Stands
  these : List Nodes → Stands

-- ---- one instance down

-- the sets that a node of a set leads to at an instance of this child: its own, where it is a containment node of the child, the instance can be entered, and all match nodes of the set hold there (RFC 6241 sections 6.2.3 and 6.2.5)
abbrev pub node_led : List SchemaNode → List Row → List Seg → ℕ → Node → List Nodes
node_led nodes rows at n (select m) = []
node_led nodes rows at n (compare m value) = []
node_led nodes rows at n (within m set) = if nat_eq n m && enters nodes rows at m && all_hold nodes rows at set then set ∷ [] else []
node_led nodes rows at n unknown = []
node_led nodes rows at n unknown_compare = []

abbrev pub set_led : List SchemaNode → List Row → List Seg → ℕ → Nodes → List Nodes
set_led nodes rows at n none = []
set_led nodes rows at n (more node set) = node_led nodes rows at n node ++ set_led nodes rows at n set

-- the sets that sets lead to
abbrev pub sets_led : List SchemaNode → List Row → List Seg → ℕ → List Nodes → List Nodes
sets_led nodes rows at n [] = []
sets_led nodes rows at n (set ∷ sets) = set_led nodes rows at n set ++ sets_led nodes rows at n sets

-- whether one of these sets selects all of a child: it has match nodes alone, or a selection node of the child (RFC 6241 sections 6.2.4 and 6.2.5)
abbrev pub select_child : ℕ → List Nodes → Bool
select_child n sets = list_any (λ set. only_matches set || set_selects n set) sets

-- what stands at an instance of this child, by what stands at the instance above it
abbrev pub stands_below : List SchemaNode → List Row → List Seg → ℕ → Stands → Stands
stands_below nodes rows at n everything = everything
stands_below nodes rows at n (these sets) = if select_child n sets then everything else these (sets_led nodes rows at n sets)

-- what stands at the top: the set of the filter, where all its match nodes hold there
abbrev pub stands_at_top : List SchemaNode → List Row → Nodes → Stands
stands_at_top nodes rows set = these (if all_hold nodes rows [] set then set ∷ [] else [])

-- ---- on the way to a path

-- what stands at an instance and at each instance from there on, as far as a path goes
abbrev pub stand_on : List SchemaNode → List Row → List Seg → Stands → List Seg → List Stands
stand_on nodes rows at stands [] = stands ∷ []
stand_on nodes rows at stands (seg ∷ segs) = stands ∷ stand_on nodes rows (at ++ seg ∷ []) (stands_below nodes rows (at ++ seg ∷ []) seg.node stands) segs

-- what stands at each instance from the top to a path
abbrev pub stand_to : List SchemaNode → List Row → Nodes → List Seg → List Stands
stand_to nodes rows set path = stand_on nodes rows [] (stands_at_top nodes rows set) path

-- the child that the segment of a path at a depth is of
abbrev pub first_child : List Seg → ℕ
first_child [] = 0
first_child (seg ∷ segs) = seg.node

abbrev pub child_at : ℕ → List Seg → ℕ
child_at depth path = first_child (drop depth path)

-- ---- what is kept

-- whether an instance is selected where this stands
abbrev pub is_selected : Stands → Bool
is_selected everything = true
is_selected (these sets) = not (is_empty sets)

-- whether a match node of a set that stands at an instance asks for the row of this segment below it
abbrev pub stands_name : List SchemaNode → Seg → Stands → Bool
stands_name nodes seg everything = true
stands_name nodes seg (these sets) = list_any (set_names nodes seg) sets

abbrev pub selected_last : Option Stands → Bool
selected_last None = false
selected_last (Some stands) = is_selected stands

abbrev pub named_above : List SchemaNode → Option Seg → Option Stands → Bool
named_above nodes None above = false
named_above nodes (Some seg) None = false
named_above nodes (Some seg) (Some stands) = stands_name nodes seg stands

-- whether a path is kept, by what stands at each instance on the way to it: the last is selected, or a match node that stands at the one above it asks for the path's row
abbrev pub way_keeps : List SchemaNode → List Stands → List Seg → Bool
way_keeps nodes standings path = selected_last (slice_get standings (length path)) || named_above nodes (slice_get path (length path - 1)) (slice_get standings (length path - 1))

-- ---- the program's

-- what sets of a filter of the program say
abbrev pub views : List (Bor FilterSet) → List Nodes
views sets = map (λ set. set_view set.now) sets

-- what a standing of the program says
abbrev pub standing_view : Standing → Stands
standing_view Whole = everything
standing_view (Sets sets) = these (views sets.items)

-- whether these stand at the first instances on the way to a path
abbrev pub StandOnWay : List SchemaNode → List Row → Nodes → List Seg → List Standing → Type 0
StandOnWay nodes rows set path standings = map standing_view standings ≡ take (length standings) (stand_to nodes rows set path)

-- whether a way has what stands on the way to its path
abbrev pub IsWay : List SchemaNode → List Row → Nodes → Way → Type 0
IsWay nodes rows set way = StandOnWay nodes rows set way.path way.standings.items

-- whether sets fit below a schema node, or at the top
abbrev pub SetsFit : List SchemaNode → Option ℕ → List Nodes → Type 0
SetsFit nodes parent sets = AllByRecursion (λ set. set_fits nodes parent set ≡ true) sets

abbrev pub StandsFit : List SchemaNode → Option ℕ → Stands → Type 0
StandsFit nodes parent everything = SetsFit nodes parent []
StandsFit nodes parent (these sets) = SetsFit nodes parent sets

-- ---- visits

-- how many visits it takes at most to find what stands further down: one for each containment node of these sets, and for each node in it
abbrev pub sets_visits : List Nodes → ℕ
sets_visits [] = 0
sets_visits (set ∷ sets) = inner_visits set + sets_visits sets

abbrev pub stands_visits : Stands → ℕ
stands_visits everything = 0
stands_visits (these sets) = sets_visits sets

-- how many are left where the last of these stands; before the first, one for each node of the filter
abbrev pub left_by : Nodes → Option Standing → ℕ
left_by set None = set_size set
left_by set (Some standing) = stands_visits (standing_view standing)

abbrev pub visits_left : Nodes → List Standing → ℕ
visits_left set standings = left_by set (slice_get standings (length standings - 1))
