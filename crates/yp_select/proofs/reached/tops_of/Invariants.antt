use Rattle.std.proofs.Common.{◌≡◌, ◌++◌, ◌-◌, length, drop, None}
use Rattle.std.specs.Prelude.{slice_get}
use Rattle.yp_select.proofs.Tops.{tops_after}
use Rattle.yp_select.proofs.reached.tops_of.Given as goal

-- the paths taken so far and those of the paths that are left are all
abbrev pub invariant-loop-path : goal.invariant-loop-path
invariant-loop-path l =
    l.tops.items ++ tops_after (slice_get l.tops.items (length l.tops.items - 1)) (drop l.path-index l.path-items) ≡ tops_after None l.path-items
