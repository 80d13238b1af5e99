use Rattle.std.proofs.Common.{not, ap, ◌∙◌, ◌||◌}
use Rattle.yp_base.specs.Types.{same_text, is_among}
use Rattle.yp_nacm_text.proofs.TakenNames.{texts, found_text, text_put}
use Rattle.yp_nacm_text.proofs.names.NameSet.take.Goals as goal

pub returns-clause-free : goal.returns-clause-free
returns-clause-free c = c.in_ok-insert.ensures.added ∙ ap not (found_text c.args.name.now c.self.inside.taken.keys ∙ ap (is_among c.args.name.now) c.self.view_is)

pub returns-clause-taken : goal.returns-clause-taken
returns-clause-taken c = λ text.
    ap (λ keys. is_among text (texts keys)) c.in_ok-insert.ensures.keys
    ∙ text_put text c.args.name c.self.inside.taken.keys
    ∙ ap (λ names. same_text text c.args.name.now || is_among text names) c.self.view_is
