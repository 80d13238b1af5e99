use Rattle.std.proofs.Common.{◌≡◌, ℕ, List, take, true}
use Rattle.yp_base.specs.Types.{is_among, are_distinct}
use Rattle.yp_decode.proofs.Distinct.{found_ids, is_seen}
use Rattle.yp_decode.proofs.edits.are_distinct.Given as goal

abbrev pub invariant-loop-edit : goal.invariant-loop-edit
invariant-loop-edit l = record {
  seen : (text : List ℕ) → is_seen text l.seen.keys ≡ is_among text (found_ids (take l.edit-index l.edits));
  distinct : are_distinct (found_ids (take l.edit-index l.edits)) ≡ true;
}
