use Rattle.std.proofs.Common.{ap, false, string_bytes}
use Rattle.serde_json.specs.Data.{no_members}
use Rattle.serde_json.specs.Written.{members_text}
use Rattle.yp_encode.specs.Lines.{id_member}
use Rattle.yp_encode.proofs.Told.{line_told}
use Rattle.yp_encode.proofs.line.push_id_line.Goals as goal

pub returns : goal.returns
returns c = λ nodes notice name body.
    line_told nodes c.args.start.now c.args.tick notice c.args.name.now (members_text false (id_member c.args.id no_members)) (string_bytes c.args.text.now) (string_bytes c.push_opening.new.text) (string_bytes c.push_id.new.text) (string_bytes c.push_str.new.self)
    name (ap (members_text false) body) c.in_ok-push_opening.ensures c.in_ok-push_id.ensures c.in_ok-push_str.ensures.bytes
