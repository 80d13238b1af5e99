use Rattle.std.proofs.Common.{◌==◌, position, sym, ap, ◌∙◌}
use Rattle.yp_path.proofs.Cuts.{no_place, ends_before, begins_behind}
use Rattle.yp_path.proofs.cut.cut_once.Goals as goal

pub range-requires-clause-end_boundary : goal.range-requires-clause-end_boundary
range-requires-clause-end_boundary c = ends_before c.args.mark c.args.text.now c.in-Some.i c.requires (sym (c.in-Some.ensures ∙ ap (position (λ b. b == c.args.mark)) c.as_bytes.ensures.value))

pub range_from-requires : goal.range_from-requires
range_from-requires c = λ _. begins_behind c.args.mark c.args.text.now c.in-Some.i c.requires c.utf8.text (sym (c.in-Some.ensures ∙ ap (position (λ b. b == c.args.mark)) c.as_bytes.ensures.value))

pub returns-in-None : goal.returns-in-None
returns-in-None c = no_place c.args.mark c.args.text.now (sym (c.in-None.ensures ∙ ap (position (λ b. b == c.args.mark)) c.as_bytes.ensures.value))
