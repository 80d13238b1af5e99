use Rattle.std.proofs.Common.{string_bytes}
use Rattle.yp_encode.proofs.Told.{id_told}
use Rattle.yp_encode.proofs.line.push_id.Goals as goal

pub returns : goal.returns
returns c =
    id_told c.args.id (string_bytes c.args.text.now) (string_bytes c.push_number.new.text) (string_bytes c.push_str.new.self) c.in_ok-push_number.ensures c.in_ok-push_str.ensures.bytes
