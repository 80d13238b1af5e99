use Rattle.std.proofs.Common.{◌≡◌, length}
use denote.Text.{Utf8}
use denote.Shadow.{shadow}
use Rattle.yp_base.specs.Types.{is_among}
use Rattle.yp_nacm_text.specs.Rules.{words_in}
use Rattle.yp_nacm_text.proofs.operations.has_word.Given as goal

abbrev pub invariant-loop-first : goal.invariant-loop-first
invariant-loop-first l = shadow (Utf8 l.rest) × (is_among l.word (words_in l.rest) ≡ is_among l.word (words_in l.text))

abbrev pub decreases-loop-first : goal.decreases-loop-first
decreases-loop-first l = length l.rest
