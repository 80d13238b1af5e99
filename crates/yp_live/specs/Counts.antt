-- What a run comes to, as it is kept: in replies, logs and what desks hold.
use Rattle.std.specs.Prelude.{ℕ, zero, suc, ◌+◌, ◌&&◌, List, [], ◌∷◌, ◌++◌, length, sum_by, count_by, Bool, true, false, codes, if◌then◌else◌}
use Rattle.yp_offer_log.specs.Logs.{left_after}
use Rattle.yp_offer_log.specs.declared.logged.Logged.{Logged}
use Rattle.yp_offer_log.specs.declared.logged.Logged.TheVariants as logs
use Rattle.yp_report.specs.declared.replied.Replied.{Replied}
use Rattle.yp_live.specs.declared.counted.Counted.{Counted}
use Rattle.yp_live.specs.declared.counted.Counted.TheVariants.{FullUpdates, ChangeUpdates, Notices, FullQueues}
use Rattle.yp_live.specs.Desks.{DeskState}
use Rattle.yp_live.specs.Summary.{Counts, count_line, counts_full_queues, is_counted, is_refusal}

-- whether an entry of a log is told, where so many packets that were accepted are taken and not told yet
abbrev pub is_told : Logged → ℕ → Bool
is_told (logs.Line kind line) zero = false
is_told (logs.Line kind line) (suc taken) = true
is_told (logs.FullAt sub position) taken = true

-- whether it is counted
abbrev pub counts_entry : Counted → Logged → Bool
counts_entry counted (logs.Line kind line) = is_counted counted kind
counts_entry counted (logs.FullAt sub position) = counts_full_queues counted

-- how many of a log are told and counted
abbrev pub count_log : Counted → ℕ → List Logged → ℕ
count_log counted taken [] = 0
count_log counted taken (one ∷ log) =
    if is_told one taken && counts_entry counted one
    then 1 + count_log counted (left_after one taken) log
    else count_log counted (left_after one taken) log

abbrev pub count_desk : Counted → DeskState → ℕ
count_desk counted desk = count_log counted desk.taken desk.log

-- how many rows a receiver holds
abbrev pub desk_rows : DeskState → ℕ
desk_rows desk = sum_by (λ tree. length tree.1) desk.trees

-- what replies and desks come to
abbrev pub counts_from : List Replied → List DeskState → Counts
counts_from replies desks = record {
  commands = length replies;
  refused = count_by (λ replied. is_refusal replied.reply) replies;
  full_updates = sum_by (count_desk FullUpdates) desks;
  change_updates = sum_by (count_desk ChangeUpdates) desks;
  notices = sum_by (count_desk Notices) desks;
  full_queues = sum_by (count_desk FullQueues) desks;
  tree_rows = sum_by desk_rows desks;
}

-- ---- the text

-- the lines of how often each is told of desks
abbrev pub told_lines : List DeskState → List ℕ
told_lines desks =
    count_line (codes "full-updates") (sum_by (count_desk FullUpdates) desks)
    ++ (count_line (codes "change-updates") (sum_by (count_desk ChangeUpdates) desks)
    ++ (count_line (codes "notices") (sum_by (count_desk Notices) desks)
    ++ count_line (codes "fulls") (sum_by (count_desk FullQueues) desks)))

-- the text of what replies and desks come to
abbrev pub summary_from : List Replied → List DeskState → List ℕ
summary_from replies desks =
    count_line (codes "commands") (length replies)
    ++ (count_line (codes "refused") (count_by (λ replied. is_refusal replied.reply) replies)
    ++ (told_lines desks
    ++ (count_line (codes "tree-rows") (sum_by desk_rows desks) ++ codes "end\n")))
