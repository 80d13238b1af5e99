use Rattle.std.proofs.Common.{sym, ◌∙◌, string_bytes}
use Rattle.yp_json_text.proofs.Told.{plain_told}
use Rattle.yp_json_text.proofs.strings.push_string.Goals as goal

pub returns : goal.returns
returns c =
    plain_told c.args.value.now c.as_bytes.result.now (string_bytes c.args.text.now) (string_bytes c.push_str.new.self) (string_bytes c.push_str-2.new.self) (string_bytes c.push_str-3.new.self)
    (sym c.is_plain.ensures ∙ c.if-not-is_plain.false) c.as_bytes.ensures.value c.in_ok-push_str.ensures.bytes c.in_ok-push_str-2.ensures.bytes c.in_ok-push_str-3.ensures.bytes
