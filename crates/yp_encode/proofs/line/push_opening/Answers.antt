use Rattle.std.proofs.Common.{◌∙◌, string_bytes}
use Rattle.yp_encode.proofs.Told.{opening_told}
use Rattle.yp_encode.proofs.line.push_opening.Goals as goal

pub returns : goal.returns
returns c =
    opening_told c.args.start.now c.args.tick c.args.name.now c.as_str.result.now (string_bytes c.args.text.now) (string_bytes c.push_member.new.text) (string_bytes c.push_member-2.new.text) (string_bytes c.push_str.new.self)
    (c.as_str.ensures ∙ c.in_ok-time.ensures) c.in_ok-push_member.ensures c.in_ok-push_member-2.ensures c.in_ok-push_str.ensures.bytes
