-- What is told of desks is what the report of a serial run tells.
use Rattle.std.proofs.Common.{◌≡◌, ℕ, ◌+◌, ◌<◌, List, [], ◌∷◌, ◌++◌, length, map, refl, arith}
use Rattle.std.specs.List.{AllByRecursion, flat_map}
use Rattle.yp_schema.specs.declared.schema.SchemaNode.{SchemaNode}
use Rattle.yp_journal.specs.declared.entry.Entry.{Entry}
use Rattle.yp_journal.specs.declared.receiver.ReceiverInfo.{ReceiverInfo}
use Rattle.yp_attempt.specs.Tracks.{Attempt}
use Rattle.yp_serial.specs.Serial.{Served}
use Rattle.yp_hearing.specs.Hearing.{line_for}
use Rattle.yp_receiver.specs.Held.{lines_heard}
use Rattle.yp_promise.specs.Received.{CanBeShown, received}
use Rattle.yp_promise.specs.Shown.{count_taken, got_by, offered_to, shown_of}
use Rattle.yp_offer_log.specs.Logs.{log_text, logged}
use Rattle.yp_report.specs.Replies.{replied_lines, replied_of}
use Rattle.yp_report.specs.Report.{receiver_text, reply_lines, shown_text, tree_text}
use Rattle.yp_live.specs.Desks.{DeskState, desk_text, desks_at}
use Rattle.yp_live.specs.Report.{receiver_reports}

-- what laws say of the lines of what a run keeps: its logs and its replies
pub record ReportLaws : Type 0 where
  pub logs : (nodes : List SchemaNode) (start : ℕ) (name : List ℕ) (attempts : List Attempt) (taken : ℕ)
      → flat_map (shown_text nodes start name) (shown_of taken attempts) ≡ log_text name taken (map (logged nodes start) attempts)
  pub replies : (n : ℕ) (entries : List Entry) → replied_lines n (map replied_of entries) ≡ reply_lines n entries

module _ (laws : ReportLaws) (nodes : List SchemaNode) (start : ℕ) (served : Served) where
  -- the lines of each desk, where what each receiver holds is what the bytes of its lines make
  pub desks_told : (count number : ℕ) (receivers : List ReceiverInfo) → number + length receivers ≡ count → ((n : ℕ) → n < count → lines_heard nodes [] (map (line_for nodes start) (got_by n served)) ≡ received [] (got_by n served))
      → flat_map (receiver_text nodes start) (receiver_reports nodes start served number receivers) ≡ flat_map (desk_text nodes) (desks_at nodes start served number receivers)
  desks_told count number [] is heard = refl
  desks_told count number (receiver ∷ receivers) is heard =
      λ i. (laws.logs nodes start receiver.name (offered_to number served) (count_taken number served) i ++ flat_map (tree_text nodes receiver.name) (heard number (omega (arith, is)) i)) ++ desks_told count (number + 1) receivers (omega (arith, is)) heard i

module _ (nodes : List SchemaNode) (start : ℕ) (served : Served) where
  -- what they hold can be written, where what each receiver holds can be shown
  pub desks_writable : (count number : ℕ) (receivers : List ReceiverInfo) → number + length receivers ≡ count → ((n : ℕ) → n < count → CanBeShown nodes (received [] (got_by n served)))
      → AllByRecursion (λ (desk : DeskState). CanBeShown nodes desk.trees) (desks_at nodes start served number receivers)
  desks_writable count number [] is can = tt
  desks_writable count number (receiver ∷ receivers) is can = (can number (omega (arith, is)), desks_writable count (number + 1) receivers (omega (arith, is)) can)
