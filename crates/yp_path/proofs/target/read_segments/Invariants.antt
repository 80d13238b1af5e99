use Rattle.std.proofs.Common.{◌≡◌, ◌<◌, length, IfSome, None}
use denote.Text.{Utf8}
use denote.Shadow.{shadow}
use Rattle.yp_base.specs.Cuts.{cut}
use Rattle.yp_path.specs.Targets.{segments_in}
use Rattle.yp_path.proofs.Segments.{behind}
use Rattle.yp_path.proofs.target.read_segments.Given as goal

abbrev pub invariant-loop-part : goal.invariant-loop-part
invariant-loop-part l =
    shadow (Utf8 l.rest) × (IfSome l.parent (λ parent. parent < length l.schema)) × (behind l.segments.items (segments_in l.schema l.parent (cut 47 l.rest)) ≡ segments_in l.schema None (cut 47 l.text))

abbrev pub decreases-loop-part : goal.decreases-loop-part
decreases-loop-part l = length l.rest
