-- What classes select, as a worker keeps it with its text.
use Rattle.std.specs.Prelude.{◌≡◌, ℕ, List, []}
use Rattle.std.specs.List.{AllByRecursion}
use Rattle.serde_json.specs.Written.{compact_text}
use Rattle.yp_base.specs.declared.row.Row.{Row}
use Rattle.yp_schema.specs.declared.schema.SchemaNode.{SchemaNode}
use Rattle.yp_data_json.specs.Writing.{rows_json}
use Rattle.yp_filter.specs.Filters.{Asked}
use Rattle.yp_filter.specs.View.{filter_view}
use Rattle.yp_kept.specs.Selection.{selection}
use Rattle.yp_journal.specs.History.{JournalState, may_read}
use Rattle.yp_worker.specs.declared.contents.Content.{Content}
use Rattle.yp_worker.specs.declared.contents.Selected.{Selected}

-- what a filter selects at a state for the user of the receiver of this number
abbrev pub selected : List SchemaNode → JournalState → Asked → ℕ → List Row
selected nodes state asked number = selection nodes asked (may_read nodes state number) state.rows

-- these rows, with the text that a full update of them carries
pub record IsContent (nodes : List SchemaNode) (those : List Row) (content : Content) : Type 0 where
  pub rows : content.rows ≡ those
  pub text : content.text ≡ compact_text (rows_json nodes [] content.rows)

-- what is kept for a class: what its filter selects at a state under the rules of its receivers' users
abbrev pub IsSelected : List SchemaNode → JournalState → Selected → Type 0
IsSelected nodes state kept = IsContent nodes (selected nodes state (filter_view kept.filter) kept.first) kept.content

-- all that is kept is selected at a state
abbrev pub AreSelected : List SchemaNode → JournalState → List Selected → Type 0
AreSelected nodes state kept = AllByRecursion (IsSelected nodes state) kept
