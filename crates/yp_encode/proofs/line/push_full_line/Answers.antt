use Rattle.std.proofs.Common.{refl, string_bytes}
use Rattle.yp_base.specs.declared.notice.Notice.TheVariants.{Full}
use Rattle.yp_encode.specs.Lines.{name_of}
use Rattle.yp_encode.specs.Texts.{full_text}
use Rattle.yp_encode.proofs.Told.{full_body, line_told}
use Rattle.yp_encode.proofs.line.push_full_line.Goals as goal

pub returns : goal.returns
returns c = λ nodes rows is.
    line_told nodes c.args.start.now c.args.tick (Full c.args.id rows) (name_of (Full c.args.id rows)) (full_text c.args.contents.now c.args.id) (string_bytes c.args.text.now) (string_bytes c.push_opening.new.text) (string_bytes c.push_full.new.text) (string_bytes c.push_str.new.self)
    refl (full_body nodes c.args.id rows c.args.contents.now is) c.in_ok-push_opening.ensures c.in_ok-push_full.ensures c.in_ok-push_str.ensures.bytes
