-- The report of what workers did beside each other: the replies of a journal's entries, and what it tells of each receiver.
use Rattle.std.specs.Prelude.{ℕ, ◌+◌, ◌%◌, List, [], ◌∷◌, length, Option, Some, None}
use Rattle.std.specs.List.{slice_get}
use Rattle.yp_schema.specs.declared.schema.SchemaNode.{SchemaNode}
use Rattle.yp_journal.specs.declared.entry.Entry.{Entry}
use Rattle.yp_journal.specs.declared.receiver.ReceiverInfo.{ReceiverInfo}
use Rattle.yp_attempt.specs.Attempts.{Notification, of_receiver, taken_of}
use Rattle.yp_attempt.specs.Runs.{Run}
use Rattle.yp_attempt.specs.Tracks.{Attempt}
use Rattle.yp_report.specs.Report.{ReceiverReport, Report, reply_lines, told_of}

-- what a worker did, where there is one
abbrev pub done_by : Option Run → List Attempt
done_by None = []
done_by (Some run) = run.done

-- what the worker of the receiver of a number did: the worker whose number is the remainder of the receiver's by the number of workers
abbrev pub done_for : ℕ → List Run → List Attempt
done_for n runs = done_by (slice_get runs (n % length runs))

-- what it offered to the receiver
abbrev pub offered_beside : ℕ → List Run → List Attempt
offered_beside n runs = of_receiver n (done_for n runs)

-- what the receiver took: all that its queue accepted
abbrev pub got_beside : ℕ → List Run → List Notification
got_beside n runs = taken_of (offered_beside n runs)

-- what is told of the receiver of a number; it makes its trees from the bytes of the lines that it took
abbrev pub report_beside : List SchemaNode → ℕ → List Run → ℕ → ReceiverInfo → ReceiverReport
report_beside nodes start runs n receiver = told_of nodes start receiver (length (got_beside n runs)) (offered_beside n runs) (got_beside n runs)

-- the same of receivers in order, the first of which has this number
abbrev pub reports_beside : List SchemaNode → ℕ → List Run → ℕ → List ReceiverInfo → List ReceiverReport
reports_beside nodes start runs n [] = []
reports_beside nodes start runs n (receiver ∷ receivers) = report_beside nodes start runs n receiver ∷ reports_beside nodes start runs (n + 1) receivers

-- the report of the entries of a journal and of what workers did
abbrev pub report_beside_of : List SchemaNode → ℕ → List ReceiverInfo → List Entry → List Run → Report
report_beside_of nodes start receivers entries runs = record { replies = reply_lines 1 entries; receivers = reports_beside nodes start runs 0 receivers }
