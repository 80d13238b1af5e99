use Rattle.std.proofs.Common.{◌++◌, ap, ◌∙◌}
use Rattle.serde_json.specs.Written.{compact_text}
use Rattle.yp_data_json.specs.Writing.{rows_json}
use Rattle.yp_encode.proofs.contents.contents_text.Goals as goal

pub returns : goal.returns
returns c =
    c.in_ok-contents.ensures ∙ c.in_ok-push_rows.ensures
    ∙ ap (λ old. old ++ compact_text (rows_json c.args.schema.now c.in_ok-top.top c.args.rows.now)) c.in_ok-text.ensures.bytes
    ∙ ap compact_text (ap (λ p. rows_json c.args.schema.now p c.args.rows.now) c.in_ok-top.ensures)
