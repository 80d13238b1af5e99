use Rattle.std.proofs.Common.{◌≡◌, ◌++◌, ℕ, List, drop, length, string_bytes}
use Rattle.std.specs.List.{flat_map}
use Rattle.yp_attempt.specs.Runs.{Run}
use Rattle.yp_report.specs.Report.{receiver_text}
use Rattle.yp_concurrent.specs.Report.{reports_beside}
use Rattle.yp_concurrent.specs.Texts.{HaveLogs}
use Rattle.yp_concurrent.proofs.text.push_receivers.Given as goal

-- the lines so far and those of the receivers that are left are all
abbrev pub invariant-loop-receiver : goal.invariant-loop-receiver
invariant-loop-receiver l = record {
  number : l.number ≡ l.receiver-index;
  count : length l.listeners.items ≡ length l.fn.listeners.items;
  have : (start : ℕ) (runs : List Run) → HaveLogs l.schema start runs l.fn.listeners.items → HaveLogs l.schema start runs l.listeners.items;
  text : (start : ℕ) (runs : List Run) → HaveLogs l.schema start runs l.fn.listeners.items
      → flat_map string_bytes l.parts.items ++ flat_map (receiver_text l.schema start) (reports_beside l.schema start runs l.number (drop l.receiver-index l.receivers))
      ≡ flat_map string_bytes l.fn.parts.items ++ flat_map (receiver_text l.schema start) (reports_beside l.schema start runs 0 l.receivers);
}
