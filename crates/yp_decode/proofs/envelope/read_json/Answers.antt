use Rattle.std.proofs.Common.{ap, sym, ◌∙◌, cond, None, eq-eqb}
use Rattle.std.proofs.lemmas.Str.{utf8_valid_len-IsUtf8}
use Rattle.serde_json.specs.Read.{read as read_text}
use Rattle.yp_decode.proofs.envelope.read_json.Goals as goal

pub returns-in-Ok-from_str : goal.returns-in-Ok-from_str
returns-in-Ok-from_str c =
    sym (ap (λ b. cond b (read_text c.args.text.now) None) (eq-eqb _ _ (utf8_valid_len-IsUtf8 c.args.text.now c.in-Ok.ensures.cases.1))
    ∙ ap read_text (sym c.in-Ok.ensures.cases.0) ∙ c.in-Ok-from_str.ensures.ok)
