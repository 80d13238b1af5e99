-- How many visits the test of a path takes at most: one for each node of the filter.
use Rattle.std.specs.Prelude.{ℕ, ◌+◌}
use Rattle.yp_filter.specs.Filters.{Node, Nodes, select, compare, within, unknown, unknown_compare, none, more, set_size}

abbrev pub match_count : Node → ℕ
match_count (select n) = 0
match_count (compare n value) = 1
match_count (within n set) = 0
match_count unknown = 0
match_count unknown_compare = 0

-- one for each match node of a set
abbrev pub match_visits : Nodes → ℕ
match_visits none = 0
match_visits (more node set) = match_count node + match_visits set

abbrev pub inner_count : Node → ℕ
inner_count (select n) = 0
inner_count (compare n value) = 0
inner_count (within n set) = 1 + set_size set
inner_count unknown = 0
inner_count unknown_compare = 0

-- one for each containment node of a set, and for each node in it
abbrev pub inner_visits : Nodes → ℕ
inner_visits none = 0
inner_visits (more node set) = inner_count node + inner_visits set
