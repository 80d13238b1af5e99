use Rattle.std.proofs.Common.{◌≡◌, ◌++◌, drop, true, Ok, All}
use Rattle.yp_base.specs.Results.{◌>>=◌}
use Rattle.yp_schema.specs.Datastore.{is_path_of, is_place}
use Rattle.yp_decode.specs.Grammar.{edits_placed}
use Rattle.yp_decode.specs.Readings.{seen_edits, seen_places}
use Rattle.yp_decode.proofs.places.read_places.Given as goal

abbrev pub invariant-loop-edit : goal.invariant-loop-edit
invariant-loop-edit l = record {
  read : (edits_placed l.schema (seen_edits (drop l.edit-index l.edits)) >>= λ more. Ok (seen_places l.places.items ++ more)) ≡ edits_placed l.schema (seen_edits l.edits);
  path : All (λ edit. is_path_of l.schema edit.target ≡ true) l.places.items;
  place : All (λ edit. is_place l.schema edit.target ≡ true) l.places.items;
}
