use Rattle.std.proofs.lemmas.Str.{is_utf8-from_IsUtf8}
use Rattle.yp_path.proofs.escape.push_key.Goals as goal

pub returns-clause-utf8 : goal.returns-clause-utf8
returns-clause-utf8 c = is_utf8-from_IsUtf8 c.args.key.now c.utf8.key

pub returns-in_err-append_to-clause-utf8 : goal.returns-in_err-append_to-clause-utf8
returns-in_err-append_to-clause-utf8 c = is_utf8-from_IsUtf8 c.args.key.now c.utf8.key
