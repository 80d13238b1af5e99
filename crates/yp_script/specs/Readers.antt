-- What a reader of a script holds, and what its steps leave.
use Rattle.std.specs.Prelude.{◌≡◌, ℕ, List, map, Result, Ok, Err}
use Rattle.serde_json.specs.Data.{Data}
use Rattle.serde_json.specs.View.{view}
use Rattle.yp_base.specs.Results.{◌>>=◌}
use Rattle.yp_schema.specs.declared.schema.SchemaNode.{SchemaNode}
use Rattle.yp_schema.specs.Reading.{schema_of}
use Rattle.yp_command.specs.declared.fault.ScriptKind.{ScriptKind}
use Rattle.yp_command.specs.declared.fault.ScriptKind.TheVariants.{Order}
use Rattle.yp_command.specs.declared.halt.Halt.{Halt}
use Rattle.yp_command.specs.declared.halt.Halt.TheVariants as halts
use Rattle.yp_command.specs.Faults.{Said, least}
use Rattle.yp_script.specs.declared.fault.ScriptFault.{ScriptFault}
use Rattle.yp_script.specs.declared.form.Form.{Form}
use Rattle.yp_script.specs.declared.reader.Reader.{Reader}
use Rattle.yp_script.specs.declared.script.Script.{Script}
use Rattle.yp_script.specs.Faults.{LineFault}
use Rattle.yp_script.specs.Readings.{IsFault, at_part}
use Rattle.yp_script.specs.Script.{Progress, at_line, taken, ended}

-- what a reader holds, where its parts have this schema
abbrev pub progress_with : Reader → List SchemaNode → Progress
progress_with reader nodes = record {
  stage = reader.stage;
  start = reader.start;
  parts = map view reader.parts.parts.items;
  schema = nodes;
  receivers = reader.receivers;
  before = reader.before.commands.items;
  lanes = map (λ lane. lane.commands.items) reader.lanes.items;
  after = reader.after.commands.items;
}

-- the schema of a reader's parts, or the fault of the first part that has one
abbrev pub schema_in : Reader → Result (List SchemaNode) LineFault
schema_in reader = at_part reader.parts.numbers.items (schema_of (map view reader.parts.parts.items))

-- what a reader holds, or that fault
abbrev pub progress_in : Reader → Result Progress LineFault
progress_in reader = schema_in reader >>= λ nodes. Ok (progress_with reader nodes)

-- the same after a line of this number that says this
abbrev pub progress_by : Reader → ℕ → (Progress → Said Progress) → Result Progress LineFault
progress_by reader number said = progress_in reader >>= λ progress. at_line number (said progress)

-- the script that ends where a reader stands
abbrev pub script_by : ℕ → Reader → Result Script LineFault
script_by end reader = progress_in reader >>= ended end

-- ---- the values of a line

-- values that are no part of the schema were added to what a reader holds
pub record Added (old new : Reader) (form : Form Data) : Type 0 where
  pub schema : schema_in new ≡ schema_in old
  pub taken : (nodes : List SchemaNode) → schema_in old ≡ Ok nodes → taken (progress_with old nodes) form ≡ Ok (progress_with new nodes)

-- values with this fault, which left the parts of the schema as they were
pub record Lacking (old new : Reader) (form : Form Data) (own : ScriptKind) : Type 0 where
  pub schema : schema_in new ≡ schema_in old
  pub fault : (nodes : List SchemaNode) → schema_in old ≡ Ok nodes → taken (progress_with old nodes) form ≡ Err own

abbrev pub Adds : {U : Type 0} → Result U Halt → Reader → Reader → Form Data → Type 0
Adds (Ok u) old new form = Added old new form
Adds (Err (halts.Fault own)) old new form = Lacking old new form own
Adds (Err halts.Memory) old new form = Unit {0}

-- a fault that stands also where the line may not stand
abbrev pub IsEarly : {X : Type 0} → Said X → Type 0
IsEarly (Ok x) = Unit {0}
IsEarly (Err own) = least Order own ≡ own

-- values were taken; a part of the schema among them may still have a fault
pub record Took (old new : Reader) (number : ℕ) (form : Form Data) : Type 0 where
  pub progress : progress_by old number (λ progress. taken progress form) ≡ progress_in new
  pub early : (nodes : List SchemaNode) → schema_in old ≡ Ok nodes → IsEarly (taken (progress_with old nodes) form)

abbrev pub Takes : {U : Type 0} → Result U Halt → Reader → Reader → ℕ → Form Data → Type 0
Takes (Ok u) old new number form = Took old new number form
Takes (Err (halts.Fault own)) old new number form = Lacking old new form own
Takes (Err halts.Memory) old new number form = Unit {0}

-- ---- lines

-- a reader that took a line of this number that says this holds what the definition says, or stopped at this fault of the line
abbrev pub Goes : {U : Type 0} → Result U Halt → Reader → Reader → ℕ → (Progress → Said Progress) → Type 0
Goes (Ok u) old new number said = progress_by old number said ≡ progress_in new
Goes (Err (halts.Fault own)) old new number said = progress_by old number said ≡ progress_by new number (λ progress. Err own)
Goes (Err halts.Memory) old new number said = Unit {0}

-- the same with the fault of the script
abbrev pub Steps : {U : Type 0} → Result U ScriptFault → Reader → Reader → ℕ → (Progress → Said Progress) → Type 0
Steps (Ok u) old new number said = progress_by old number said ≡ progress_in new
Steps (Err fault) old new number said = IsFault fault (progress_by old number said)
