use Rattle.std.proofs.Common.{◌≡◌, ◌++◌, string_bytes}
use Rattle.std.specs.List.{flat_map}
use Rattle.std.specs.Vec.Iter.{into_iter_items}
use Rattle.yp_report.proofs.texts.join_texts.Given as goal

-- the room is whatever it is
abbrev pub invariant-loop-part : goal.invariant-loop-part
invariant-loop-part l = Unit {0}

-- the parts so far and those that are left are all
abbrev pub invariant-loop-part-2 : goal.invariant-loop-part-2
invariant-loop-part-2 l = string_bytes l.text ++ flat_map string_bytes (into_iter_items l.part-iterator) ≡ flat_map string_bytes l.fn.parts.items
