use Rattle.std.proofs.Common.{◌≡◌, ◌+◌, ◌++◌, drop, string_bytes}
use Rattle.std.specs.List.{flat_map}
use Rattle.yp_report.specs.Replies.{replied_lines}
use Rattle.yp_report.specs.Report.{reply_text}
use Rattle.yp_report.proofs.replies.push_replies.Given as goal

-- the lines so far and those of the replies that are left are all
abbrev pub invariant-loop-replied : goal.invariant-loop-replied
invariant-loop-replied l = record {
  count : l.position ≡ l.replied-index + 1;
  text : string_bytes l.text ++ flat_map reply_text (replied_lines l.position (drop l.replied-index l.replies)) ≡ string_bytes l.fn.text ++ flat_map reply_text (replied_lines 1 l.fn.replies);
}
