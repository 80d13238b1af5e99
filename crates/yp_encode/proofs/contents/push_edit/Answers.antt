use Rattle.std.proofs.Common.{sym, ◌∙◌, string_bytes}
use Rattle.yp_encode.proofs.Told.{valued_told, bare_told}
use Rattle.yp_encode.proofs.contents.push_edit.Goals as goal

pub returns-in_ok-push_str : goal.returns-in_ok-push_str
returns-in_ok-push_str c =
    valued_told c.args.schema.now c.args.number c.args.change.now (string_bytes c.args.text.now) (string_bytes c.push_head.new.text) (string_bytes c.push_value.new.text) (string_bytes c.push_str.new.self)
    (sym c.has_value.ensures ∙ c.if-has_value.true) c.in_ok-push_head.ensures c.in_ok-push_value.ensures c.in_ok-push_str.ensures.bytes

pub returns-in_ok-push_str-2 : goal.returns-in_ok-push_str-2
returns-in_ok-push_str-2 c =
    bare_told c.args.schema.now c.args.number c.args.change.now (string_bytes c.args.text.now) (string_bytes c.push_head.new.text) (string_bytes c.push_str-else-has_value.new.self)
    (sym c.has_value.ensures ∙ c.if-has_value.false) c.in_ok-push_head.ensures c.in_ok-push_str-2.ensures.bytes
