use Rattle.std.proofs.Common.{string_bytes}
use Rattle.yp_encode.proofs.Told.{reason_told}
use Rattle.yp_encode.proofs.line.push_reason.Goals as goal

pub returns : goal.returns
returns c =
    reason_told c.args.id c.args.reason.now (string_bytes c.args.text.now) (string_bytes c.push_number.new.text) (string_bytes c.push_member.new.text) (string_bytes c.push_str.new.self)
    c.in_ok-push_number.ensures c.in_ok-push_member.ensures c.in_ok-push_str.ensures.bytes
