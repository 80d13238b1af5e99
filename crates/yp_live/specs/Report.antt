-- The report of a serial run: the replies of its entries, and what it tells of each receiver.
use Rattle.std.specs.Prelude.{ℕ, ◌+◌, List, [], ◌∷◌}
use Rattle.yp_schema.specs.declared.schema.SchemaNode.{SchemaNode}
use Rattle.yp_journal.specs.declared.entry.Entry.{Entry}
use Rattle.yp_journal.specs.declared.receiver.ReceiverInfo.{ReceiverInfo}
use Rattle.yp_serial.specs.Serial.{Served}
use Rattle.yp_promise.specs.Shown.{count_taken, got_by, offered_to}
use Rattle.yp_report.specs.Report.{ReceiverReport, Report, reply_lines, told_of}

-- what is told of the receiver of a number; it makes its trees from the bytes of the lines that it took
abbrev pub receiver_report : List SchemaNode → ℕ → Served → ℕ → ReceiverInfo → ReceiverReport
receiver_report nodes start served n receiver = told_of nodes start receiver (count_taken n served) (offered_to n served) (got_by n served)

-- the same of receivers in order, the first of which has this number
abbrev pub receiver_reports : List SchemaNode → ℕ → Served → ℕ → List ReceiverInfo → List ReceiverReport
receiver_reports nodes start served n [] = []
receiver_reports nodes start served n (receiver ∷ receivers) = receiver_report nodes start served n receiver ∷ receiver_reports nodes start served (n + 1) receivers

-- the report of the entries of a journal and of its serial run
abbrev pub report_of : List SchemaNode → ℕ → List ReceiverInfo → List Entry → Served → Report
report_of nodes start receivers entries served = record { replies = reply_lines 1 entries; receivers = receiver_reports nodes start served 0 receivers }
