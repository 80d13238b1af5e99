use Rattle.std.proofs.Common.{◌≡◌, ◌++◌, map}
use Rattle.yp_schema.specs.Reading.{numbered_node}
use Rattle.yp_schema.proofs.numbers.number_all.Given as goal

-- the nodes so far, put before those of the rest, are all
abbrev pub invariant-loop-path : goal.invariant-loop-path
invariant-loop-path l = l.made.items ++ map (numbered_node l.numbers) l.path-iterator ≡ map (numbered_node l.numbers) l.fn.nodes.entries
