use Rattle.std.proofs.Common.{ap}
use Rattle.std.proofs.lemmas.Str.{IsUtf8-string_bytes}
use Rattle.yp_path.proofs.Utf8.{utf8_same, no_utf8}
use Rattle.yp_path.proofs.escape.text_of.Goals as goal

pub returns-in-Ok : goal.returns-in-Ok
returns-in-Ok c =
    rw c.in_ok-text-in-Ok.ensures (utf8_same _ _ (IsUtf8-string_bytes c.in-Ok.text) (ap (λ v. v.items) c.in-Ok.ensures.ok))

pub returns : goal.returns
returns c = no_utf8 _ c.in-Err.ensures.succeeds
