use Rattle.std.proofs.Common.{◌≡◌, ◌<◌, length, IfSome, None}
use denote.Text.{Utf8}
use denote.Shadow.{shadow}
use Rattle.yp_path.specs.RulePaths.{pieces, rule_segments_in}
use Rattle.yp_path.specs.declared.mark.Place.TheVariants.{Outside}
use Rattle.std.specs.List.{All}
use Rattle.yp_base.specs.declared.rule_path.RuleSeg.{RuleSeg}
use Rattle.yp_path.proofs.RuleSegments.{behind}
use Rattle.yp_path.proofs.rule.read_segments.Given as goal

abbrev pub invariant-loop-part : goal.invariant-loop-part
invariant-loop-part l =
    shadow (Utf8 l.rest) × (IfSome l.parent (λ parent. parent < length l.schema)) × (behind l.segments.items (rule_segments_in l.schema l.parent (pieces 47 Outside l.rest)) ≡ rule_segments_in l.schema None (pieces 47 Outside l.text)) × (All (λ (segment : RuleSeg). segment.node < length l.schema) l.segments.items)

abbrev pub decreases-loop-part : goal.decreases-loop-part
decreases-loop-part l = length l.rest
