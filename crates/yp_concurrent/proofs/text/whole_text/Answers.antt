use Rattle.std.proofs.Common.{◌∙◌, codes, string_bytes}
use Rattle.std.specs.List.{flat_map}
use Rattle.yp_report.specs.Replies.{replied_lines}
use Rattle.yp_report.specs.Report.{receiver_text, reply_text}
use Rattle.yp_concurrent.specs.Report.{reports_beside}
use Rattle.yp_concurrent.proofs.Told.{parts_joined}
use Rattle.yp_concurrent.proofs.text.whole_text.Goals as goal

pub returns : goal.returns
returns c = λ start runs have.
    c.in_ok-text.ensures
    ∙ parts_joined string_bytes c.new-parts.result.items c.push.new.self.items c.push_receivers.new.parts.items c.push-2.new.self.items c.in_ok-replies_text.field-0 c.in_ok-from_str.field-0
    (flat_map reply_text (replied_lines 1 c.args.replies.items)) (flat_map (receiver_text c.args.schema.now start) (reports_beside c.args.schema.now start runs 0 c.args.receivers.now)) (codes "end\n")
    c.new-parts.ensures.items c.in_ok-push.ensures.items c.in_ok-replies_text.ensures (c.in_ok-push_receivers.ensures start runs have) c.in_ok-push-2.ensures.items c.in_ok-from_str.ensures.ok
