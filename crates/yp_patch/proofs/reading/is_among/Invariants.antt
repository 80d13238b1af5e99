use Rattle.std.proofs.Common.{◌≡◌, drop}
use Rattle.yp_base.specs.Types.{is_among}
use Rattle.yp_patch.specs.Shapes.{ids_of}
use Rattle.yp_patch.proofs.reading.is_among.Given as goal

abbrev pub invariant-loop-edit : goal.invariant-loop-edit
invariant-loop-edit l = is_among l.id (ids_of (drop l.edit-index l.edits)) ≡ is_among l.id (ids_of l.fn.edits)
