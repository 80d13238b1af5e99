use Rattle.std.proofs.Common.{◌≡◌, drop}
use Rattle.std.specs.List.{list_any}
use Rattle.yp_kept.specs.Selection.{set_names}
use Rattle.yp_kept.specs.Standing.{views}
use Rattle.yp_kept.proofs.standing.some_names.Given as goal

-- the sets that are left tell it of all
abbrev pub invariant-loop-set : goal.invariant-loop-set
invariant-loop-set l = list_any (set_names l.schema l.segment) (views (drop l.set-index l.sets)) ≡ list_any (set_names l.schema l.segment) (views l.sets)
