-- What a report comes to: how many commands, refusals, notifications of each kind, full queues, and rows that receivers hold; and its text.
use Rattle.std.specs.Prelude.{ℕ, List, ◌++◌, length, sum_by, count_by, Bool, true, false, codes, decimal}
use Rattle.yp_journal.specs.declared.reply.Reply.{Reply}
use Rattle.yp_journal.specs.declared.reply.Reply.TheVariants.{Id, Done, Registry, Edit}
use Rattle.yp_queue.specs.declared.packet.PacketKind.{PacketKind}
use Rattle.yp_queue.specs.declared.packet.PacketKind.TheVariants as kinds
use Rattle.yp_worker.specs.Packets.{kind_of}
use Rattle.yp_promise.specs.Shown.{Shown, Got, FullAt}
use Rattle.yp_report.specs.Report.{Report}
use Rattle.yp_live.specs.declared.counted.Counted.{Counted}
use Rattle.yp_live.specs.declared.counted.Counted.TheVariants.{FullUpdates, ChangeUpdates, Notices, FullQueues}

-- ---- the numbers

-- whether a reply tells of a refusal
abbrev pub is_refusal : Reply → Bool
is_refusal (Id id) = false
is_refusal Done = false
is_refusal (Registry refusal) = true
is_refusal (Edit edit_id tag path) = true

-- whether notifications of a kind are counted; an incomplete update is a change update too
abbrev pub is_counted : Counted → PacketKind → Bool
is_counted FullUpdates kinds.Full = true
is_counted ChangeUpdates kinds.Changes = true
is_counted ChangeUpdates kinds.Incomplete = true
is_counted Notices kinds.Notice = true
is_counted counted kind = false

abbrev pub counts_full_queues : Counted → Bool
counts_full_queues FullQueues = true
counts_full_queues other = false

-- whether it is counted that a receiver took a notification, or that its queue was full
abbrev pub shows : Counted → Shown → Bool
shows counted (Got n) = is_counted counted (kind_of n.made.body)
shows counted (FullAt sub position) = counts_full_queues counted

-- how often something is shown of the receivers of a report
abbrev pub count_shown : Counted → Report → ℕ
count_shown counted report = sum_by (λ receiver. count_by (shows counted) receiver.shown) report.receivers

pub record Counts : Type 0 where
  pub commands : ℕ
  pub refused : ℕ
  pub full_updates : ℕ
  pub change_updates : ℕ
  pub notices : ℕ
  pub full_queues : ℕ
  pub tree_rows : ℕ

-- what a report comes to
abbrev pub counts_of : Report → Counts
counts_of report = record {
  commands = length report.replies;
  refused = count_by (λ line. is_refusal line.reply) report.replies;
  full_updates = count_shown FullUpdates report;
  change_updates = count_shown ChangeUpdates report;
  notices = count_shown Notices report;
  full_queues = count_shown FullQueues report;
  tree_rows = sum_by (λ receiver. sum_by (λ tree. length tree.1) receiver.trees) report.receivers;
}

-- ---- the text

-- the line of a number, by its name
abbrev pub count_line : List ℕ → ℕ → List ℕ
count_line name count = name ++ codes " " ++ decimal count ++ codes "\n"

abbrev pub counts_text : Counts → List ℕ
counts_text counts =
    count_line (codes "commands") counts.commands
    ++ (count_line (codes "refused") counts.refused
    ++ (count_line (codes "full-updates") counts.full_updates
    ++ (count_line (codes "change-updates") counts.change_updates
    ++ (count_line (codes "notices") counts.notices
    ++ (count_line (codes "fulls") counts.full_queues
    ++ (count_line (codes "tree-rows") counts.tree_rows ++ codes "end\n"))))))

-- the text of what a report comes to
abbrev pub summary_text : Report → List ℕ
summary_text report = counts_text (counts_of report)
