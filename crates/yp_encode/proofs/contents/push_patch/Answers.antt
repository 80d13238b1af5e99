use Rattle.std.proofs.Common.{string_bytes, ap, ◌∙◌, ◌++◌, false}
use Rattle.serde_json.specs.Written.{items_text}
use Rattle.yp_encode.specs.Lines.{edits_from}
use Rattle.yp_encode.proofs.Told.{patch_told}
use Rattle.yp_encode.proofs.contents.push_patch.Goals as goal

pub returns : goal.returns
returns c =
    patch_told c.args.schema.now c.args.patch_id c.args.changes.now (string_bytes c.args.text.now) (string_bytes c.push_str.new.self) (string_bytes c.push_edits.new.text) (string_bytes c.push_counted.new.text) (string_bytes c.push_str-2.new.self)
    c.in_ok-push_str.ensures.bytes (c.in_ok-push_edits.ensures ∙ ap (λ cs. string_bytes c.push_str.new.self ++ items_text false (edits_from c.args.schema.now 1 cs)) c.items.ensures) c.in_ok-push_counted.ensures c.in_ok-push_str-2.ensures.bytes
