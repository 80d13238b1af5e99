use Rattle.std.proofs.Common.{refl, string_bytes}
use Rattle.yp_base.specs.declared.notice.Notice.TheVariants.{Changes}
use Rattle.yp_encode.specs.Lines.{name_of}
use Rattle.yp_encode.specs.Texts.{changes_text}
use Rattle.yp_encode.proofs.Told.{changes_body, line_told}
use Rattle.yp_encode.proofs.line.push_changes_line.Goals as goal

pub returns : goal.returns
returns c = λ nodes patch_id changes is.
    let notice = Changes c.args.id patch_id changes c.args.incomplete in
    line_told nodes c.args.start.now c.args.tick notice (name_of notice) (changes_text c.args.patch.now c.args.id c.args.incomplete) (string_bytes c.args.text.now) (string_bytes c.push_opening.new.text) (string_bytes c.push_changes.new.text) (string_bytes c.push_str.new.self)
    refl (changes_body nodes c.args.id patch_id changes c.args.incomplete c.args.patch.now is) c.in_ok-push_opening.ensures c.in_ok-push_changes.ensures c.in_ok-push_str.ensures.bytes
