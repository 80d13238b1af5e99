use Rattle.std.proofs.Common.{◌≡◌, length}
use denote.Text.{Utf8}
use denote.Shadow.{shadow}
use Rattle.yp_nacm_text.specs.Rules.{words_in, are_operations}
use Rattle.yp_nacm_text.proofs.operations.are_operations.Given as goal

abbrev pub invariant-loop-word : goal.invariant-loop-word
invariant-loop-word l = shadow (Utf8 l.rest) × (are_operations (words_in l.rest) ≡ are_operations (words_in l.text))

abbrev pub decreases-loop-word : goal.decreases-loop-word
decreases-loop-word l = length l.rest
