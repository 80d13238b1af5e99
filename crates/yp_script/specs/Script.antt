-- A script: what its lines say, in order, each judged by the lines before it; the first line with a fault is told, with the least of its faults.
use Rattle.std.specs.Prelude.{◌≡◌, ℕ, ◌+◌, ◌-◌, ◌≤◌, List, [], ◌∷◌, ◌++◌, All, length, take, replicate, slice_set, slice_index_or, true, Option, Some, None, option_map, option_and_then, Result, Ok, Err, if◌then◌else◌, map, sum_by}
use Rattle.std.specs.Result.{result_ok}
use Rattle.serde_json.specs.Data.{Data}
use Rattle.yp_base.specs.Results.{◌>>=◌, or_fault}
use Rattle.yp_base.specs.Types.{are_distinct}
use Rattle.yp_schema.specs.declared.schema.SchemaNode.{SchemaNode}
use Rattle.yp_schema.specs.Reading.{schema_of}
use Rattle.yp_schema.specs.Rounds.{Fault}
use Rattle.yp_journal.specs.declared.command.Command.{Command}
use Rattle.yp_journal.specs.declared.receiver.ReceiverInfo.{ReceiverInfo}
use Rattle.yp_journal.specs.History.{MayCome}
use Rattle.yp_command.specs.declared.fault.ScriptKind.TheVariants as kinds
use Rattle.yp_command.specs.Faults.{Said, said_map, with_fault}
use Rattle.yp_command.specs.Names.{names_of}
use Rattle.yp_command.specs.Requests.{command_said}
use Rattle.yp_command.specs.Words.{is_yes}
use Rattle.yp_script.specs.declared.form.Form.{Form}
use Rattle.yp_script.specs.declared.form.Form.TheVariants as forms
use Rattle.yp_script.specs.declared.lane.Laned.{Laned}
use Rattle.yp_script.specs.declared.script.Script.{Script}
use Rattle.yp_script.specs.declared.stage.Stage.{Stage}
use Rattle.yp_script.specs.declared.stage.Stage.TheVariants.{Opening, After}
use Rattle.yp_script.specs.Faults.{LineFault}
use Rattle.yp_script.specs.Forms.{line_form}
use Rattle.yp_script.specs.Lines.{Line, pieces_of, lines_from, byte_limit}
use Rattle.yp_script.specs.Order.{next_stage, is_complete, InOrder}
use Rattle.yp_script.specs.Values.{is_receiver_name, is_user_name, start_said, receiver_said, lanes_said, laned_said}

-- ---- what the lines so far say

-- the stage, the start, the parts of the schema and what they compile to, the receivers, and the commands before the lanes, in each lane and after them
pub record Progress : Type 0 where
  pub stage : Stage
  pub start : Option ℕ
  pub parts : List Data
  pub schema : List SchemaNode
  pub receivers : List ReceiverInfo
  pub before : List Command
  pub lanes : List (List Command)
  pub after : List Command

-- before the first line
abbrev pub no_progress : Progress
no_progress = record { stage = Opening; start = None; parts = []; schema = []; receivers = []; before = []; lanes = []; after = [] }

abbrev pub with_start : Progress → ℕ → Progress
with_start progress start = record progress { start = Some start }

abbrev pub with_part : Progress → Data → List SchemaNode → Progress
with_part progress part nodes = record progress { parts = progress.parts ++ part ∷ []; schema = nodes }

abbrev pub with_receiver : Progress → ReceiverInfo → Progress
with_receiver progress receiver = record progress { receivers = progress.receivers ++ receiver ∷ [] }

-- a command after the join is one after the lanes, and any other outside them one before
abbrev pub put_at : Stage → Progress → Command → Progress
put_at After progress command = record progress { after = progress.after ++ command ∷ [] }
put_at other progress command = record progress { before = progress.before ++ command ∷ [] }

abbrev pub with_command : Progress → Command → Progress
with_command progress command = put_at progress.stage progress command

-- so many lanes without commands
abbrev pub with_lanes : Progress → ℕ → Progress
with_lanes progress count = record progress { lanes = replicate count [] }

-- a command at the end of the lane of this number, from 1 on
abbrev pub in_lane : ℕ → Command → List (List Command) → List (List Command)
in_lane number command lanes = slice_set lanes (number - 1) (slice_index_or lanes (number - 1) [] ++ command ∷ [])

abbrev pub with_laned : Progress → Laned → Progress
with_laned progress laned = record progress { lanes = in_lane laned.lane laned.command progress.lanes }

-- ---- what a line says

-- the schema of some parts; a fault of it is that of the last part, since those before it have none
abbrev pub schema_said : Result (List SchemaNode) Fault → Said (List SchemaNode)
schema_said (Ok nodes) = Ok nodes
schema_said (Err fault) = Err kinds.Schema

-- what the values of a line add, or the least of their faults; a part of the schema is judged by those before it, a policy by the schema so far, and a subscription by the start and the receivers so far
abbrev pub taken : Progress → Form Data → Said Progress
taken progress (forms.Start value) = said_map (with_start progress) (start_said value)
taken progress (forms.Schema value) = said_map (with_part progress value) (schema_said (schema_of (progress.parts ++ value ∷ [])))
taken progress (forms.Receiver value) = said_map (with_receiver progress) (receiver_said progress.receivers value)
taken progress (forms.Command request) = said_map (with_command progress) (command_said progress.schema progress.start progress.receivers request)
taken progress (forms.Lanes value) = said_map (with_lanes progress) (lanes_said value)
taken progress (forms.Lane lane request) = said_map (with_laned progress) (laned_said progress.schema progress.start progress.receivers (length progress.lanes) lane request)
taken progress (forms.Join value) = if is_yes value then Ok progress else Err kinds.Member

-- the same at the stage to which the line leads; a line that may not stand at its place has that fault too
abbrev pub at_stage : Option Stage → Said Progress → Said Progress
at_stage None said = with_fault kinds.Order said
at_stage (Some stage) said = said_map (λ (progress : Progress). record progress { stage = stage }) said

abbrev pub form_taken : Progress → Form Data → Said Progress
form_taken progress form = at_stage (next_stage progress.stage form) (taken progress form)

-- what is said with one line more, or the least of its faults
abbrev pub line_taken : Progress → Said Data → Said Progress
line_taken progress json = json >>= λ value. (or_fault kinds.UnknownCommand (line_form value) >>= form_taken progress)

-- ---- the whole

-- a fault is that of a line
abbrev pub at_line : {X : Type 0} → ℕ → Said X → Result X LineFault
at_line number (Ok x) = Ok x
at_line number (Err own) = Err (record { line = number; kind = own })

-- the start of a script, where it may end at a stage
abbrev pub complete_start : Stage → Option ℕ → Option ℕ
complete_start stage start = if is_complete stage then start else None

abbrev pub script_at : Progress → ℕ → Script
script_at progress start = record {
  start = start;
  schema = progress.schema;
  receivers = progress.receivers;
  before = progress.before;
  lanes = progress.lanes;
  after = progress.after;
}

-- the script that ends here; where it may not, the fault is that of the line after the last
abbrev pub ended : ℕ → Progress → Result Script LineFault
ended end progress = at_line end (or_fault kinds.Order (option_map (script_at progress) (complete_start progress.stage progress.start)))

-- the script of some progress and of the lines that are left
abbrev pub script_from : ℕ → Progress → List Line → Result Script LineFault
script_from end progress [] = ended end progress
script_from end progress (line ∷ lines) = at_line line.number (line_taken progress line.json) >>= λ next. script_from end next lines

-- the script of a text
abbrev pub script_of : List ℕ → Result Script LineFault
script_of text = script_from (length (pieces_of text) + 1) no_progress (lines_from 0 0 (pieces_of text))

-- the script of a source's bytes; nothing past the first byte over the limit is looked at, since that byte is a fault of its line
abbrev pub script_in : List ℕ → Result Script LineFault
script_in bytes = script_of (take (byte_limit + 1) bytes)

-- ---- what each script keeps

-- a receiver as it may be declared, which takes its packets by itself or by commands
pub record IsReceiver (receiver : ReceiverInfo) : Type 0 where
  pub name : is_receiver_name receiver.name ≡ true
  pub user : is_user_name receiver.user ≡ true
  pub some : 1 ≤ receiver.places
  pub most : receiver.places ≤ 32

-- 16 receivers at most, of distinct names
pub record AreReceivers (receivers : List ReceiverInfo) : Type 0 where
  pub few : length receivers ≤ 16
  pub distinct : are_distinct (names_of receivers) ≡ true
  pub each : All IsReceiver receivers

-- each command of a script may come in a journal of its schema and its receivers
pub record MayRun (script : Script) : Type 0 where
  pub before : All (MayCome script.schema script.receivers) script.before
  pub lanes : All (All (MayCome script.schema script.receivers)) script.lanes
  pub after : All (MayCome script.schema script.receivers) script.after

-- the form of a line, where it has one that is read
abbrev pub form_at : Line → Option (Form Data)
form_at line = option_and_then line_form (result_ok line.json)

-- lines whose forms stand in order
pub record AreInOrder (lines : List Line) : Type 0 where
  pub forms : List (Form Data)
  pub known : map form_at lines ≡ map (λ form. Some form) forms
  pub order : InOrder forms

-- how many commands a script has
abbrev pub count_commands : Script → ℕ
count_commands script = length script.before + sum_by (λ lane. length lane) script.lanes + length script.after
