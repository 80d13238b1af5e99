-- Which changed rows are roots, the edit of one, and what the edits of a record cost.
use Rattle.std.specs.Prelude.{ℕ, ◌+◌, List, [], length, map, sum, Option, None, is_some, if◌then◌else◌}
use Rattle.yp_base.specs.declared.path.Seg.{Seg}
use Rattle.yp_base.specs.declared.row.Value.{Value}
use Rattle.yp_base.specs.declared.row.Row.{Row}
use Rattle.yp_base.specs.declared.notice.Change.{Change}
use Rattle.yp_base.specs.declared.notice.ChangeKind.{ChangeKind}
use Rattle.yp_base.specs.declared.notice.ChangeKind.TheVariants as kinds
use Rattle.yp_base.specs.Rows.{rows_within}
use Rattle.yp_changes.specs.declared.changed.ChangedRow.{ChangedRow}

-- the operation of the edit of a row with these values before and after
abbrev pub kind_of : Option Value → Option Value → ChangeKind
kind_of old new = if is_some new then (if is_some old then kinds.Replace else kinds.Create) else kinds.Delete

-- what the edit of a changed row carries of a selection: all at or below the row, where it is there afterwards
abbrev pub carried_below : List Row → ChangedRow → List Row
carried_below selected row = if is_some row.new then rows_within row.path selected else []

-- the edit of a changed row, where this is selected afterwards
abbrev pub row_edit : List Row → ChangedRow → Change
row_edit selected row = record { kind = kind_of row.old row.new; target = row.path; rows = carried_below selected row; after = None }

-- the most visits of a tree that what is carried from a place takes: one for each row there, and one more
abbrev pub visits_at : List Row → List Seg → ℕ
visits_at rows path = length (rows_within path rows) + 1

-- the most visits that the edits of a record take
abbrev pub record_visits : List Row → List Change → ℕ
record_visits rows changes = sum (map (λ change. visits_at rows change.target) changes)
