use Rattle.std.proofs.Common.{string_bytes}
use Rattle.yp_encode.proofs.Told.{changes_told}
use Rattle.yp_encode.proofs.line.push_changes.Goals as goal

pub returns : goal.returns
returns c =
    changes_told c.args.patch.now c.args.id c.args.incomplete c.end_of_changes.result.now (string_bytes c.args.text.now) (string_bytes c.push_str.new.self) (string_bytes c.push_str-2.new.self) (string_bytes c.push_number.new.text) (string_bytes c.push_str-3.new.self)
    c.end_of_changes.ensures c.in_ok-push_str.ensures.bytes c.in_ok-push_str-2.ensures.bytes c.in_ok-push_number.ensures c.in_ok-push_str-3.ensures.bytes
