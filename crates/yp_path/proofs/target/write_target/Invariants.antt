use Rattle.std.proofs.Common.{◌≡◌, ◌++◌, drop}
use Rattle.std.specs.String.{string_bytes}
use Rattle.yp_path.specs.Targets.{target_text, has_texts}
use Rattle.yp_path.proofs.target.write_target.Given as goal

abbrev pub invariant-loop-segment : goal.invariant-loop-segment
invariant-loop-segment l = (string_bytes l.text ++ target_text l.schema (drop l.segment-index l.segment-items) ≡ target_text l.schema l.segment-items) × (has_texts (drop l.segment-index l.segment-items) ≡ has_texts l.segment-items)
