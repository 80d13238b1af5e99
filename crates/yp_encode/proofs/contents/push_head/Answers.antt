use Rattle.std.proofs.Common.{◌∙◌, string_bytes}
use Rattle.yp_encode.proofs.Told.{head_told}
use Rattle.yp_encode.proofs.contents.push_head.Goals as goal

pub returns : goal.returns
returns c =
    head_told c.args.schema.now c.args.number c.args.change.now c.operation.result.now c.as_str.result.now (string_bytes c.args.text.now) (string_bytes c.push_counted.new.text) (string_bytes c.push_member.new.text) (string_bytes c.push_member-2.new.text)
    c.operation.ensures (c.as_str.ensures ∙ c.in_ok-target.ensures.text) c.in_ok-push_counted.ensures c.in_ok-push_member.ensures c.in_ok-push_member-2.ensures
