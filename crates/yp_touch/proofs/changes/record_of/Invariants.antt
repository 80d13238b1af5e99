use Rattle.std.proofs.Common.{◌+◌, ◌≤◌, drop}
use Rattle.std.specs.Prelude.{option_copied}
use Rattle.yp_touch.specs.Roots.{record_visits}
use Rattle.yp_touch.proofs.Edits.{Makes}
use Rattle.yp_touch.proofs.changes.record_of.Given as goal

abbrev pub invariant-loop-row : goal.invariant-loop-row
invariant-loop-row g l = record {
  made : Makes l.schema (g.R.Readable.may l.readable l.schema) l.rows l.fn.changed (drop l.row-index l.changed) (option_copied l.root) l.changes.items;
  visits : l.steps ≤ l.fn.steps + record_visits l.rows l.changes.items;
}
