use Rattle.std.proofs.Common.{◌≡◌, ◌++◌, string_bytes}
use Rattle.std.specs.List.{flat_map}
use Rattle.std.specs.Vec.Iter.{into_iter_items}
use Rattle.yp_live.specs.Desks.{desk_text}
use Rattle.yp_live.specs.Runs.{CanBeWritten}
use Rattle.yp_live.proofs.text.push_desks.Given as goal

-- the lines so far and those of the desks that are left are all
abbrev pub invariant-loop-desk : goal.invariant-loop-desk
invariant-loop-desk l = record {
  can : CanBeWritten l.schema (into_iter_items l.desk-iterator);
  text : flat_map string_bytes l.parts.items ++ flat_map (desk_text l.schema) (into_iter_items l.desk-iterator) ≡ flat_map string_bytes l.fn.parts.items ++ flat_map (desk_text l.schema) l.fn.desks.items;
}
