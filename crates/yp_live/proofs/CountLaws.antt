-- What replies and desks come to is what the report of their serial run comes to.
use Rattle.std.proofs.Common.{◌≡◌, ℕ, zero, suc, ◌+◌, ◌<◌, Bool, true, false, List, [], ◌∷◌, length, map, sum_by, ◌++◌, refl, sym, ap, ap₂, ◌∙◌, cond, arith, append_assoc}
use Rattle.std.specs.Prelude.{if◌then◌else◌, codes, count_by}
use Rattle.std.proofs.lemmas.List.Sums.{sum_by-cons}
use Rattle.yp_base.specs.declared.row.Row.{Row}
use Rattle.yp_schema.specs.declared.schema.SchemaNode.{SchemaNode}
use Rattle.yp_journal.specs.declared.entry.Entry.{Entry}
use Rattle.yp_journal.specs.declared.receiver.ReceiverInfo.{ReceiverInfo}
use Rattle.yp_attempt.specs.Attempts.{notification_of}
use Rattle.yp_attempt.specs.Tracks.{Answer, Took, Full, Attempt}
use Rattle.yp_serial.specs.Serial.{Served}
use Rattle.yp_receiver.specs.Held.{lines_heard}
use Rattle.yp_promise.specs.Received.{received}
use Rattle.yp_promise.specs.Shown.{Shown, Got, FullAt, count_taken, got_by, offered_to, shown_before, shown_of}
use Rattle.yp_hearing.specs.Hearing.{line_for}
use Rattle.yp_offer_log.specs.Logs.{logged, logged_by}
use Rattle.yp_report.specs.declared.replied.Replied.{Replied}
use Rattle.yp_report.specs.Replies.{replied_of}
use Rattle.yp_report.specs.Report.{ReceiverReport, ReplyLine, reply_lines}
use Rattle.yp_live.specs.declared.counted.Counted.{Counted}
use Rattle.yp_live.specs.declared.counted.Counted.TheVariants.{FullUpdates, ChangeUpdates, Notices, FullQueues}
use Rattle.yp_live.specs.Counts.{count_desk, count_log, counts_from, desk_rows, summary_from}
use Rattle.yp_live.specs.Desks.{DeskState, desk_at, desks_at}
use Rattle.yp_live.specs.Report.{receiver_report, receiver_reports, report_of}
use Rattle.yp_live.specs.Summary.{count_line, counts_of, counts_text, is_refusal, shows, summary_text}

-- one that is counted, or not, before others
one_more : (b : Bool) (n : ℕ) → (if b then 1 + n else n) ≡ cond b 1 0 + n
one_more true n = refl
one_more false n = omega arith

-- ---- replies

replies_length : (n : ℕ) (entries : List Entry) → length (map replied_of entries) ≡ length (reply_lines n entries)
replies_length n [] = refl
replies_length n (entry ∷ entries) = ap suc (replies_length (n + 1) entries)

refusals : (n : ℕ) (entries : List Entry) → count_by (λ (replied : Replied). is_refusal replied.reply) (map replied_of entries) ≡ count_by (λ (line : ReplyLine). is_refusal line.reply) (reply_lines n entries)
refusals n [] = refl
refusals n (entry ∷ entries) =
    let line : ReplyLine = record { position = n; lane = entry.lane; index = entry.index; reply = entry.reply } in
    sum_by-cons (λ (replied : Replied). cond (is_refusal replied.reply) 1 0) (replied_of entry) (map replied_of entries)
    ∙ (ap (λ (k : ℕ). cond (is_refusal entry.reply) 1 0 + k) (refusals (n + 1) entries)
    ∙ sym (sum_by-cons (λ (l : ReplyLine). cond (is_refusal l.reply) 1 0) line (reply_lines (n + 1) entries)))

-- ---- what is told of a receiver

module _ (nodes : List SchemaNode) (start : ℕ) (counted : Counted) where
  shown_more : (one : Shown) (more : List Shown) (n : ℕ) → n ≡ count_by (shows counted) more → (if shows counted one then 1 + n else n) ≡ count_by (shows counted) (one ∷ more)
  shown_more one more n is =
      one_more (shows counted one) n
      ∙ (ap (λ (k : ℕ). cond (shows counted one) 1 0 + k) is
      ∙ sym (sum_by-cons (λ (s : Shown). cond (shows counted s) 1 0) one more))

  log_counted : (attempts : List Attempt) (taken : ℕ) → count_log counted taken (map (logged nodes start) attempts) ≡ count_by (shows counted) (shown_of taken attempts)
  log_counted [] taken = refl
  log_counted (a ∷ attempts) taken = by a.answer taken (log_counted attempts)
    where
      by : (answer : Answer) (taken : ℕ) → ((left : ℕ) → count_log counted left (map (logged nodes start) attempts) ≡ count_by (shows counted) (shown_of left attempts))
          → count_log counted taken (logged_by answer nodes start a ∷ map (logged nodes start) attempts) ≡ count_by (shows counted) (shown_before answer taken a (λ left. shown_of left attempts))
      by Took zero later = later zero
      by Took (suc taken) later = shown_more (Got (notification_of a)) (shown_of taken attempts) (count_log counted taken (map (logged nodes start) attempts)) (later taken)
      by Full taken later = shown_more (FullAt a.sub a.at) (shown_of taken attempts) (count_log counted taken (map (logged nodes start) attempts)) (later taken)

-- ---- all receivers

module _ (nodes : List SchemaNode) (start : ℕ) (served : Served) where
  desks_counted : (counted : Counted) (number : ℕ) (receivers : List ReceiverInfo)
      → sum_by (count_desk counted) (desks_at nodes start served number receivers) ≡ sum_by (λ (receiver : ReceiverReport). count_by (shows counted) receiver.shown) (receiver_reports nodes start served number receivers)
  desks_counted counted number [] = refl
  desks_counted counted number (receiver ∷ receivers) =
      sum_by-cons (count_desk counted) (desk_at nodes start served number receiver) (desks_at nodes start served (number + 1) receivers)
      ∙ (ap₂ (λ (a b : ℕ). a + b) (log_counted nodes start counted (offered_to number served) (count_taken number served)) (desks_counted counted (number + 1) receivers)
      ∙ sym (sum_by-cons (λ (r : ReceiverReport). count_by (shows counted) r.shown) (receiver_report nodes start served number receiver) (receiver_reports nodes start served (number + 1) receivers)))

  rows_counted : (count number : ℕ) (receivers : List ReceiverInfo) → number + length receivers ≡ count → ((n : ℕ) → n < count → lines_heard nodes [] (map (line_for nodes start) (got_by n served)) ≡ received [] (got_by n served))
      → sum_by desk_rows (desks_at nodes start served number receivers) ≡ sum_by (λ (receiver : ReceiverReport). sum_by (λ tree. length tree.1) receiver.trees) (receiver_reports nodes start served number receivers)
  rows_counted count number [] is heard = refl
  rows_counted count number (receiver ∷ receivers) is heard =
      let here : ReceiverReport = receiver_report nodes start served number receiver in
      sum_by-cons desk_rows (desk_at nodes start served number receiver) (desks_at nodes start served (number + 1) receivers)
      ∙ (ap₂ (λ (trees : List (ℕ × List Row)) (b : ℕ). sum_by (λ tree. length tree.1) trees + b) (sym (heard number (omega (arith, is)))) (rows_counted count (number + 1) receivers (omega (arith, is)) heard)
      ∙ sym (sum_by-cons (λ (r : ReceiverReport). sum_by (λ tree. length tree.1) r.trees) here (receiver_reports nodes start served (number + 1) receivers)))

-- of the replies of entries and of the desks of their serial run
counts_are : (nodes : List SchemaNode) (start : ℕ) (receivers : List ReceiverInfo) (entries : List Entry) (served : Served)
    → ((n : ℕ) → n < length receivers → lines_heard nodes [] (map (line_for nodes start) (got_by n served)) ≡ received [] (got_by n served))
    → counts_from (map replied_of entries) (desks_at nodes start served 0 receivers) ≡ counts_of (report_of nodes start receivers entries served)
counts_are nodes start receivers entries served heard = λ i. record {
  commands = replies_length 1 entries i;
  refused = refusals 1 entries i;
  full_updates = desks_counted nodes start served FullUpdates 0 receivers i;
  change_updates = desks_counted nodes start served ChangeUpdates 0 receivers i;
  notices = desks_counted nodes start served Notices 0 receivers i;
  full_queues = desks_counted nodes start served FullQueues 0 receivers i;
  tree_rows = rows_counted nodes start served (length receivers) 0 receivers (omega arith) heard i;
}

-- ---- the text

-- four lines and what comes after them
four_lines : (a b c d rest : List ℕ) → (a ++ (b ++ (c ++ d))) ++ rest ≡ a ++ (b ++ (c ++ (d ++ rest)))
four_lines a b c d rest =
    append_assoc a (b ++ (c ++ d)) rest
    ∙ ap (λ (t : List ℕ). a ++ t) (append_assoc b (c ++ d) rest ∙ ap (λ (t : List ℕ). b ++ t) (append_assoc c d rest))

counts_told : (replies : List Replied) (desks : List DeskState) → summary_from replies desks ≡ counts_text (counts_from replies desks)
counts_told replies desks =
    let line : Counted → List ℕ → List ℕ = λ counted name. count_line name (sum_by (count_desk counted) desks) in
    ap (λ (t : List ℕ). count_line (codes "commands") (length replies) ++ (count_line (codes "refused") (count_by (λ (replied : Replied). is_refusal replied.reply) replies) ++ t))
    (four_lines (line FullUpdates (codes "full-updates")) (line ChangeUpdates (codes "change-updates")) (line Notices (codes "notices")) (line FullQueues (codes "fulls"))
    (count_line (codes "tree-rows") (sum_by desk_rows desks) ++ codes "end\n"))

pub summary_is : (nodes : List SchemaNode) (start : ℕ) (receivers : List ReceiverInfo) (entries : List Entry) (served : Served)
    → ((n : ℕ) → n < length receivers → lines_heard nodes [] (map (line_for nodes start) (got_by n served)) ≡ received [] (got_by n served))
    → summary_from (map replied_of entries) (desks_at nodes start served 0 receivers) ≡ summary_text (report_of nodes start receivers entries served)
summary_is nodes start receivers entries served heard =
    counts_told (map replied_of entries) (desks_at nodes start served 0 receivers) ∙ ap counts_text (counts_are nodes start receivers entries served heard)

-- ---- lines that are added one after another

pub added_four : (t a b c d : List ℕ) → (((t ++ a) ++ b) ++ c) ++ d ≡ t ++ (a ++ (b ++ (c ++ d)))
added_four t a b c d =
    append_assoc ((t ++ a) ++ b) c d ∙ (append_assoc (t ++ a) b (c ++ d) ∙ append_assoc t a (b ++ (c ++ d)))
