-- The records of changes that classes were told at a position, with their texts.
use Rattle.std.specs.Prelude.{◌≡◌, ◌==◌, ℕ, List, [], length, false, Option, Some, None}
use Rattle.std.specs.List.{AllByRecursion, slice_get}
use Rattle.serde_json.specs.Written.{compact_text}
use Rattle.yp_base.specs.declared.notice.Change.{Change}
use Rattle.yp_base.specs.declared.notice.Kinds.{Kinds}
use Rattle.yp_schema.specs.declared.schema.SchemaNode.{SchemaNode}
use Rattle.yp_filter.specs.Filters.{Asked}
use Rattle.yp_filter.specs.View.{filter_view}
use Rattle.yp_encode.specs.Lines.{patch_data}
use Rattle.yp_encode.specs.Sendable.{IsSendableChange}
use Rattle.yp_kept.specs.Selection.{selection}
use Rattle.yp_touch.specs.declared.root.Root.{Root}
use Rattle.yp_touch.specs.Absorbed.{recorded as record_of_roots}
use Rattle.yp_journal.specs.History.{JournalState, may_read}
use Rattle.yp_slot.specs.declared.classes.Class.{Class}
use Rattle.yp_slot.specs.declared.records.Record.{Record}
use Rattle.yp_slot.specs.declared.records.Told.{Told}

-- the record of some places of what a filter selects for the user of a receiver at a state, without the edits of excluded kinds
abbrev pub record_for : List SchemaNode → JournalState → Asked → ℕ → Kinds → List Root → List Change
record_for nodes state asked receiver excluded roots = record_of_roots excluded roots (selection nodes asked (may_read nodes state receiver) state.rows)

-- some edits, of which there is one and each can be sent, with the text that a change update of them carries at a position
pub record IsWithText (nodes : List SchemaNode) (position : ℕ) (changes : List Change) (told : Record) : Type 0 where
  pub edits : told.changes ≡ changes
  pub some : (length changes == 0) ≡ false
  pub sendable : AllByRecursion (IsSendableChange nodes) told.changes
  pub text : told.text ≡ compact_text (patch_data nodes position told.changes)

-- the same, and none where there is no edit
abbrev pub IsRecord : List SchemaNode → ℕ → List Change → Option Record → Type 0
IsRecord nodes position changes None = changes ≡ []
IsRecord nodes position changes (Some told) = IsWithText nodes position changes told

-- what a class was told at a state: the record of those places of what the class selects
pub record IsTold (nodes : List SchemaNode) (state : JournalState) (classes : List Class) (told : Told) : Type 0 where
  pub class : Class
  pub there : slice_get classes told.class ≡ Some class
  pub record_is : IsRecord nodes state.position (record_for nodes state (filter_view class.filter) class.first told.excluded told.touched) told.made

abbrev pub AreTold : List SchemaNode → JournalState → List Class → List Told → Type 0
AreTold nodes state classes those = AllByRecursion (IsTold nodes state classes) those
