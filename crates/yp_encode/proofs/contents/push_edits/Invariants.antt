use Rattle.std.proofs.Common.{◌≡◌, ◌+◌, ◌++◌, drop, false, string_bytes}
use Rattle.std.specs.List.{AllByRecursion}
use Rattle.serde_json.specs.Written.{items_text}
use Rattle.yp_encode.specs.Lines.{edits_from}
use Rattle.yp_encode.specs.Sendable.{IsSendableChange}
use Rattle.yp_encode.proofs.contents.push_edits.Given as goal

-- the edits so far and those of the changes that are left are all
abbrev pub invariant-loop-change : goal.invariant-loop-change
invariant-loop-change l = record {
  count : l.number ≡ l.change-index + 1;
  sendable : AllByRecursion (IsSendableChange l.schema) (drop l.change-index l.changes);
  all : string_bytes l.text ++ items_text l.later (edits_from l.schema l.number (drop l.change-index l.changes)) ≡ string_bytes l.fn.text ++ items_text false (edits_from l.schema 1 l.changes);
}
