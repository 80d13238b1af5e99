use Rattle.std.proofs.Common.{string_bytes}
use Rattle.yp_encode.proofs.Told.{full_told}
use Rattle.yp_encode.proofs.line.push_full.Goals as goal

pub returns : goal.returns
returns c =
    full_told c.args.contents.now c.args.id (string_bytes c.args.text.now) (string_bytes c.push_str.new.self) (string_bytes c.push_str-2.new.self) (string_bytes c.push_number.new.text) (string_bytes c.push_str-3.new.self)
    c.in_ok-push_str.ensures.bytes c.in_ok-push_str-2.ensures.bytes c.in_ok-push_number.ensures c.in_ok-push_str-3.ensures.bytes
