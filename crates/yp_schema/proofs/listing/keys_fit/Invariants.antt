use Rattle.std.proofs.Common.{◌≡◌, drop}
use Rattle.yp_schema.specs.Rounds.{keys_fit}
use Rattle.yp_schema.proofs.listing.keys_fit.Given as goal

abbrev pub invariant-loop-key : goal.invariant-loop-key
invariant-loop-key l = keys_fit l.path (drop l.key-index l.key-items) l.nodes ≡ keys_fit l.path l.keys l.nodes
