use Rattle.std.proofs.Common.{◌≡◌, ℕ, List, take, true}
use Rattle.yp_base.specs.Types.{is_among, are_distinct}
use Rattle.yp_patch.specs.Shapes.{ids_of}
use Rattle.yp_patch.proofs.Distinct.{is_seen}
use Rattle.yp_patch.proofs.reading.first_repeated.Given as goal

abbrev pub invariant-loop-edit : goal.invariant-loop-edit
invariant-loop-edit l = record {
  seen : (text : List ℕ) → is_seen text l.seen.keys ≡ is_among text (ids_of (take l.edit-index l.edits));
  distinct : are_distinct (ids_of (take l.edit-index l.edits)) ≡ true;
}
