-- How the logic stores what a filter says, and terms: the nodes of a filter in a flat list, each before what is in it, read back from the end onto a stack of sets.
use Rattle.std.specs.Prelude.{◌≡◌, ℕ, List, [], ◌∷◌, Bool, cond, ◌==◌, Option, Some, None, refl}
use Rattle.std.specs.Coded.{Coded, code_by, coded×, coded_ℕ, coded_bool, coded_list, coded_option}
use mathlib.Core.Path.{ap, ◌∙◌}
use Rattle.yp_base.specs.declared.notice.Trigger.{Trigger}
use Rattle.yp_base.specs.declared.row.Value.{Value}
use Rattle.yp_base.specs.declared.row.Value.TheVariants.{Empty}
use Rattle.yp_base.specs.contracts.notice.Trigger as trigger
use Rattle.yp_base.specs.contracts.row.Value as value
use Rattle.yp_filter.specs.Filters.{Node, Nodes, select, compare, within, unknown, unknown_compare, none, more, Asked, all_rows, of_set}
use Rattle.yp_terms.specs.Terms.{Terms}

-- ---- filters

-- a kind, the number of a schema node and a value, of which a node uses what it has
abbrev Item : Type 0
Item = ℕ × (ℕ × Value)

abbrev item : ℕ → ℕ → Item
item kind n = (kind, (n, Empty))

abbrev mutual
  node_items : Node → List Item → List Item
  node_items (select n) rest = item 0 n ∷ rest
  node_items (compare n v) rest = (1, (n, v)) ∷ rest
  node_items (within n set) rest = item 2 n ∷ set_items set rest
  node_items unknown rest = item 3 0 ∷ rest
  node_items unknown_compare rest = item 4 0 ∷ rest

  set_items : Nodes → List Item → List Item
  set_items none rest = item 5 0 ∷ rest
  set_items (more node nodes) rest = node_items node (set_items nodes rest)

abbrev first : List Nodes → Nodes
first [] = none
first (set ∷ sets) = set

abbrev rest_of : List Nodes → List Nodes
rest_of [] = []
rest_of (set ∷ sets) = sets

-- a node before the set on top
abbrev put : Node → List Nodes → List Nodes
put node sets = more node (first sets) ∷ rest_of sets

abbrev joined : Item → List Nodes → List Nodes
joined i sets =
    cond (i.0 == 0) (put (select i.1.0) sets) (cond (i.0 == 1) (put (compare i.1.0 i.1.1) sets)
    (cond (i.0 == 2) (put (within i.1.0 (first sets)) (rest_of sets)) (cond (i.0 == 3) (put unknown sets)
    (cond (i.0 == 4) (put unknown_compare sets) (none ∷ sets)))))

abbrev sets_of : List Item → List Nodes
sets_of [] = []
sets_of (i ∷ is) = joined i (sets_of is)

abbrev set_at : List Item → Nodes
set_at is = first (sets_of is)

mutual
  sets_of-node : (node : Node) (rest : List Item) → sets_of (node_items node rest) ≡ put node (sets_of rest)
  sets_of-node (select n) rest = refl
  sets_of-node (compare n v) rest = refl
  sets_of-node (within n set) rest = ap (joined (item 2 n)) (sets_of-set set rest)
  sets_of-node unknown rest = refl
  sets_of-node unknown_compare rest = refl

  sets_of-set : (set : Nodes) (rest : List Item) → sets_of (set_items set rest) ≡ set ∷ sets_of rest
  sets_of-set none rest = refl
  sets_of-set (more node nodes) rest = sets_of-node node (set_items nodes rest) ∙ ap (put node) (sets_of-set nodes rest)

pub set_at-items : (set : Nodes) → set_at (set_items set []) ≡ set
set_at-items set = ap first (sets_of-set set [])

abbrev pub coded_set : Coded Nodes
coded_set = code_by (List Item) (coded_list (coded× coded_ℕ (coded× coded_ℕ value.the_row.coded))) (λ set. set_items set []) set_at set_at-items

abbrev in_set : Asked → Option Nodes
in_set all_rows = None
in_set (of_set set) = Some set

abbrev asked_of : Option Nodes → Asked
asked_of None = all_rows
asked_of (Some set) = of_set set

pub asked_of-in_set : (asked : Asked) → asked_of (in_set asked) ≡ asked
asked_of-in_set all_rows = refl
asked_of-in_set (of_set set) = refl

abbrev pub coded_asked : Coded Asked
coded_asked = code_by (Option Nodes) (coded_option coded_set) in_set asked_of asked_of-in_set

-- ---- terms

abbrev pub coded_terms : Coded Terms
coded_terms =
    code_by (ℕ × (List ℕ × (Bool × (Asked × Trigger))))
    (coded× coded_ℕ (coded× (coded_list coded_ℕ) (coded× coded_bool (coded× coded_asked trigger.the_row.coded))))
    (λ t. (t.id, (t.receivers, (t.configured, (t.asked, t.trigger)))))
    (λ p. record { id = p.0; receivers = p.1.0; configured = p.1.1.0; asked = p.1.1.1.0; trigger = p.1.1.1.1 })
    (λ _. refl)
