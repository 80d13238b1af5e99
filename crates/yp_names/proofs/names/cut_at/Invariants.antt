use Rattle.std.proofs.Common.{◌≡◌, ◌++◌, length}
use denote.Text.{Utf8}
use denote.Shadow.{shadow}
use Rattle.yp_base.specs.Cuts.{cut}
use Rattle.yp_names.proofs.names.cut_at.Given as goal

abbrev pub invariant-loop-name : goal.invariant-loop-name
invariant-loop-name l = shadow (Utf8 l.rest) × (l.names.items ++ cut 47 l.rest ≡ cut 47 l.text)

abbrev pub decreases-loop-name : goal.decreases-loop-name
decreases-loop-name l = length l.rest
