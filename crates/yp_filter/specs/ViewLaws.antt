-- What each node of a filter says.
use Rattle.std.proofs.Common.{◌≡◌, ℕ, rules, map}
use Rattle.yp_base.specs.declared.row.Value.{Value}
use Rattle.yp_filter.specs.Filters.{select, compare, within, unknown, unknown_compare}
use Rattle.yp_filter.specs.declared.filter.FilterNode.TheFolds.{the_lemmas}
use Rattle.yp_filter.specs.declared.filter.FilterNode.TheVariants.{Select, Match, Within, Unknown, UnknownMatch}
use Rattle.yp_filter.specs.declared.filter.FilterSet.{FilterSet}
use Rattle.yp_filter.specs.View.{node_view, set_view, nodes_of}

pub node_select : (n : ℕ) → node_view (Select n) ≡ select n
node_select n = search (rules, the_lemmas)

pub node_match : (n : ℕ) (value : Value) → node_view (Match n value) ≡ compare n value
node_match n value = search (rules, the_lemmas)

pub node_within : (n : ℕ) (set : FilterSet) → node_view (Within n set) ≡ within n (set_view set)
node_within n set = search (rules, the_lemmas)

pub node_unknown : node_view Unknown ≡ unknown
node_unknown = search (rules, the_lemmas)

pub node_unknown_match : node_view UnknownMatch ≡ unknown_compare
node_unknown_match = search (rules, the_lemmas)

pub set_nodes : (set : FilterSet) → set_view set ≡ nodes_of (map node_view set.nodes.items)
set_nodes set = search (rules, the_lemmas)
