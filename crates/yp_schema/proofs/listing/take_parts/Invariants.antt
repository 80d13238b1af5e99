use Rattle.std.proofs.Common.{◌≡◌, drop, map, []}
use Rattle.serde_json.specs.View.{view}
use Rattle.yp_schema.specs.Rounds.{parts_in}
use Rattle.yp_schema.proofs.listing.take_parts.Given as goal

abbrev pub invariant-loop-json : goal.invariant-loop-json
invariant-loop-json l = (l.part ≡ l.json-index) × (parts_in l.part (map view (drop l.json-index l.parts)) l.nodes ≡ parts_in 0 (map view l.parts) [])
