-- The commands of a script have UTF-8 texts.
use Rattle.std.proofs.Common.{◌≡◌, ℕ, zero, suc, ◌+◌, ◌-◌, List, [], ◌∷◌, ◌++◌, length, replicate, Bool, true, false, cond, Option, Some, None, option_map, Result, Ok, Err, IfSome, IfOk, subst}
use Rattle.std.specs.Prelude.{slice_set, slice_index_or, ◌&&◌, take}
use Rattle.std.specs.List.{AllByRecursion}
use Rattle.serde_json.specs.Data.{Data}
use Rattle.yp_base.specs.Results.{◌>>=◌, or_fault}
use Rattle.yp_schema.specs.declared.schema.SchemaNode.{SchemaNode}
use Rattle.yp_schema.specs.Reading.{schema_of}
use Rattle.yp_nacm_text.specs.Policies.{policy_in}
use Rattle.yp_patch.specs.declared.patch.Patch.{Patch}
use Rattle.yp_patch.specs.Shapes.{patch_in}
use Rattle.yp_time.specs.Ticks.{tick_limit}
use Rattle.yp_journal.specs.declared.command.Command.{Command}
use Rattle.yp_journal.specs.declared.command.Command.TheVariants as commands
use Rattle.yp_journal.specs.declared.receiver.ReceiverInfo.{ReceiverInfo}
use Rattle.yp_attempt.specs.ListLaws.{all_append}
use Rattle.yp_command.specs.declared.ask.AskPart.TheVariants as parts
use Rattle.yp_command.specs.declared.command.Request.{Request}
use Rattle.yp_command.specs.declared.command.Request.TheVariants.{Tick, Patch as PatchRequest, Policy, Establish, Modify, Delete, Kill, Resync, Configure, Reconfigure, Unconfigure, Take}
use Rattle.yp_command.specs.declared.fault.ScriptKind.TheVariants as kinds
use Rattle.yp_command.specs.Asks.{has_only, ask_said, by_said}
use Rattle.yp_command.specs.Calls.{amend_said, call_said, id_said, receivers_said}
use Rattle.yp_command.specs.Faults.{Said, holding, both}
use Rattle.yp_command.specs.Requests.{sound, command_said}
use Rattle.yp_command.specs.SaidLaws.{map_is, map_any, then_is, if_is, or_is, together_is}
use Rattle.yp_command.specs.Takes.{taker_said, count_said}
use Rattle.yp_command.specs.Words.{has_count, whole_said, is_yes}
use Rattle.yp_script.specs.declared.form.Form.{Form}
use Rattle.yp_script.specs.declared.form.Form.TheVariants as forms
use Rattle.yp_script.specs.declared.lane.Laned.{Laned}
use Rattle.yp_script.specs.declared.script.Script.{Script}
use Rattle.yp_script.specs.declared.stage.Stage.{Stage}
use Rattle.yp_script.specs.declared.stage.Stage.TheVariants as stages
use Rattle.yp_script.specs.Faults.{LineFault}
use Rattle.yp_script.specs.Forms.{line_form}
use Rattle.yp_script.specs.Lines.{Line, pieces_of, without_feed, is_blank, is_in_script, json_in, lines_from, byte_limit}
use Rattle.yp_script.specs.Order.{next_stage}
use Rattle.yp_script.specs.SaidLaws.{line_is}
use Rattle.yp_script.specs.Script.{Progress, no_progress, with_start, with_part, with_receiver, put_at, with_command, with_lanes, with_laned, schema_said, taken, at_stage, form_taken, line_taken, at_line, complete_start, script_at, script_from, script_in}
use Rattle.yp_script.specs.Values.{start_said, receiver_said, lanes_said, laned_said}
use Rattle.yp_utf8.specs.Utf8.{HasUtf8}
use Rattle.yp_texts.specs.Commands.{CommandHasUtf8, EditHasUtf8, ScriptHasUtf8}
use Rattle.yp_texts.proofs.Lines.{RequestHasUtf8, FormHasUtf8, line_utf8, form_utf8, patch_utf8}

-- ---- a command

command_utf8 : (nodes : List SchemaNode) (start : Option ℕ) (receivers : List ReceiverInfo) (request : Request Data) → RequestHasUtf8 request → IfOk (command_said nodes start receivers request) CommandHasUtf8
command_utf8 nodes start receivers (Tick json) u = map_any commands.Tick (whole_said 0 tick_limit json) CommandHasUtf8 (λ n. tt)
command_utf8 nodes start receivers (PatchRequest json) u =
    map_is commands.Edit (or_fault kinds.Patch (patch_in json)) (λ (patch : Patch). AllByRecursion EditHasUtf8 patch.edits) CommandHasUtf8
    (or_is kinds.Patch (patch_in json) (λ (patch : Patch). AllByRecursion EditHasUtf8 patch.edits) (patch_utf8 json u)) (λ patch v. v)
command_utf8 nodes start receivers (Policy json) u = map_any commands.Rules (sound (policy_in nodes json)) CommandHasUtf8 (λ policy. tt)
command_utf8 nodes start receivers (Establish json) u =
    map_any (λ said. commands.Establish said.0 said.1) (holding kinds.Member (has_only parts.Establish json) (both (by_said receivers json) (ask_said start json))) CommandHasUtf8 (λ said. tt)
command_utf8 nodes start receivers (Modify json) u =
    map_any (λ said. commands.Modify said.0.0 said.0.1 said.1) (holding kinds.Member (has_only parts.Modify json) (both (both (by_said receivers json) (id_said json)) (amend_said start json))) CommandHasUtf8 (λ said. tt)
command_utf8 nodes start receivers (Delete json) u = map_any (λ said. commands.Delete said.0 said.1) (call_said receivers json) CommandHasUtf8 (λ said. tt)
command_utf8 nodes start receivers (Kill json) u = map_any (λ said. commands.Kill said.0 said.1) (call_said receivers json) CommandHasUtf8 (λ said. tt)
command_utf8 nodes start receivers (Resync json) u = map_any (λ said. commands.Resync said.0 said.1) (call_said receivers json) CommandHasUtf8 (λ said. tt)
command_utf8 nodes start receivers (Configure json) u =
    map_any (λ said. commands.Configure said.0.0 said.0.1 said.1) (holding kinds.Member (has_only parts.Configure json) (both (both (id_said json) (receivers_said json)) (ask_said start json))) CommandHasUtf8 (λ said. tt)
command_utf8 nodes start receivers (Reconfigure json) u =
    map_any (λ said. commands.Reconfigure said.0 said.1) (holding kinds.Member (has_only parts.Reconfigure json) (both (id_said json) (amend_said start json))) CommandHasUtf8 (λ said. tt)
command_utf8 nodes start receivers (Unconfigure json) u = map_any commands.Unconfigure (holding kinds.Member (has_only parts.Unconfigure json) (id_said json)) CommandHasUtf8 (λ id. tt)
command_utf8 nodes start receivers (Take json) u =
    map_any (λ said. commands.Take said.0 said.1) (holding kinds.Member (has_count 2 json) (both (taker_said receivers json) (count_said json))) CommandHasUtf8 (λ said. tt)

-- ---- what the lines so far say

abbrev AllCommands : List Command → Type 0
AllCommands commands = AllByRecursion CommandHasUtf8 commands

record ProgressHasUtf8 (progress : Progress) : Type 0 where
  before : AllCommands progress.before
  lanes : AllByRecursion AllCommands progress.lanes
  after : AllCommands progress.after

one_more : (done : List Command) (command : Command) → AllCommands done → CommandHasUtf8 command → AllCommands (done ++ command ∷ [])
one_more done command h u = all_append CommandHasUtf8 done (command ∷ []) h (u, tt)

put_utf8 : (stage : Stage) (progress : Progress) (command : Command) → ProgressHasUtf8 progress → CommandHasUtf8 command → ProgressHasUtf8 (put_at stage progress command)
put_utf8 stages.After progress command h u = record { before = h.before; lanes = h.lanes; after = one_more progress.after command h.after u }
put_utf8 stages.Opening progress command h u = record { before = one_more progress.before command h.before u; lanes = h.lanes; after = h.after }
put_utf8 stages.Started progress command h u = record { before = one_more progress.before command h.before u; lanes = h.lanes; after = h.after }
put_utf8 stages.Schemas progress command h u = record { before = one_more progress.before command h.before u; lanes = h.lanes; after = h.after }
put_utf8 stages.Receivers progress command h u = record { before = one_more progress.before command h.before u; lanes = h.lanes; after = h.after }
put_utf8 stages.Before progress command h u = record { before = one_more progress.before command h.before u; lanes = h.lanes; after = h.after }
put_utf8 stages.Within progress command h u = record { before = one_more progress.before command h.before u; lanes = h.lanes; after = h.after }

no_commands : (count : ℕ) → AllByRecursion AllCommands (replicate count [])
no_commands zero = tt
no_commands (suc count) = (tt, no_commands count)

set_utf8 : (lanes : List (List Command)) (place : ℕ) (lane : List Command) → AllByRecursion AllCommands lanes → AllCommands lane → AllByRecursion AllCommands (slice_set lanes place lane)
set_utf8 [] place lane h u = tt
set_utf8 (first ∷ lanes) zero lane h u = (u, h.1)
set_utf8 (first ∷ lanes) (suc place) lane h u = (h.0, set_utf8 lanes place lane h.1 u)

at_utf8 : (lanes : List (List Command)) (place : ℕ) → AllByRecursion AllCommands lanes → AllCommands (slice_index_or lanes place [])
at_utf8 [] place h = tt
at_utf8 (first ∷ lanes) zero h = h.0
at_utf8 (first ∷ lanes) (suc place) h = at_utf8 lanes place h.1

laned_utf8 : (progress : Progress) (laned : Laned) → ProgressHasUtf8 progress → CommandHasUtf8 laned.command → ProgressHasUtf8 (with_laned progress laned)
laned_utf8 progress laned h u =
    let place = laned.lane - 1 in
    record {
      before = h.before;
      lanes = set_utf8 progress.lanes place (slice_index_or progress.lanes place [] ++ laned.command ∷ []) h.lanes (one_more (slice_index_or progress.lanes place []) laned.command (at_utf8 progress.lanes place h.lanes) u);
      after = h.after;
    }

-- ---- a line

taken_utf8 : (progress : Progress) (form : Form Data) → ProgressHasUtf8 progress → FormHasUtf8 form → IfOk (taken progress form) ProgressHasUtf8
taken_utf8 progress (forms.Start value) h u = map_any (with_start progress) (start_said value) ProgressHasUtf8 (λ start. record { before = h.before; lanes = h.lanes; after = h.after })
taken_utf8 progress (forms.Schema value) h u =
    map_any (with_part progress value) (schema_said (schema_of (progress.parts ++ value ∷ []))) ProgressHasUtf8 (λ nodes. record { before = h.before; lanes = h.lanes; after = h.after })
taken_utf8 progress (forms.Receiver value) h u =
    map_any (with_receiver progress) (receiver_said progress.receivers value) ProgressHasUtf8 (λ receiver. record { before = h.before; lanes = h.lanes; after = h.after })
taken_utf8 progress (forms.Command request) h u =
    map_is (with_command progress) (command_said progress.schema progress.start progress.receivers request) CommandHasUtf8 ProgressHasUtf8
    (command_utf8 progress.schema progress.start progress.receivers request u) (λ command v. put_utf8 progress.stage progress command h v)
taken_utf8 progress (forms.Lanes value) h u = map_any (with_lanes progress) (lanes_said value) ProgressHasUtf8 (λ count. record { before = h.before; lanes = no_commands count; after = h.after })
taken_utf8 progress (forms.Lane lane request) h u =
    map_is (with_laned progress) (laned_said progress.schema progress.start progress.receivers (length progress.lanes) lane request) (λ (laned : Laned). CommandHasUtf8 laned.command) ProgressHasUtf8
    (together_is (λ number command. record { lane = number; command = command }) (whole_said 1 (length progress.lanes) lane) (command_said progress.schema progress.start progress.receivers request)
    CommandHasUtf8 (λ (laned : Laned). CommandHasUtf8 laned.command) (command_utf8 progress.schema progress.start progress.receivers request u) (λ number command v. v))
    (λ laned v. laned_utf8 progress laned h v)
taken_utf8 progress (forms.Join value) h u = if_is kinds.Member (is_yes value) (Ok progress) ProgressHasUtf8 (λ yes. h)

stage_utf8 : (next : Option Stage) (said : Said Progress) → IfOk said ProgressHasUtf8 → IfOk (at_stage next said) ProgressHasUtf8
stage_utf8 None (Ok progress) h = tt
stage_utf8 None (Err kind) h = tt
stage_utf8 (Some stage) (Ok progress) h = record { before = h.before; lanes = h.lanes; after = h.after }
stage_utf8 (Some stage) (Err kind) h = tt

said_utf8 : (progress : Progress) (json : Said Data) → ProgressHasUtf8 progress → IfOk json HasUtf8 → IfOk (line_taken progress json) ProgressHasUtf8
said_utf8 progress json h u =
    then_is json (λ value. or_fault kinds.UnknownCommand (line_form value) >>= form_taken progress) HasUtf8 ProgressHasUtf8 u
    (λ value v.
    then_is (or_fault kinds.UnknownCommand (line_form value)) (form_taken progress) FormHasUtf8 ProgressHasUtf8 (or_is kinds.UnknownCommand (line_form value) FormHasUtf8 (form_utf8 value v))
    (λ form f. stage_utf8 (next_stage progress.stage form) (taken progress form) (taken_utf8 progress form h f)))

-- ---- the whole

abbrev AllLines : List Line → Type 0
AllLines lines = AllByRecursion (λ (line : Line). IfOk line.json HasUtf8) lines

lines_at : (b : Bool) (line : Line) (lines : List Line) → IfOk line.json HasUtf8 → AllLines lines → AllLines (cond b lines (line ∷ lines))
lines_at true line lines u h = h
lines_at false line lines u h = (u, h)

lines_utf8 : (pieces : List (List ℕ)) (number at : ℕ) → AllLines (lines_from number at pieces)
lines_utf8 [] number at = tt
lines_utf8 (piece ∷ pieces) number at =
    let within = is_in_script (number + 1) (at + length piece) in
    lines_at (within && is_blank (without_feed piece)) (record { number = number + 1; json = json_in within (without_feed piece) }) (lines_from (number + 1) (at + length piece) pieces)
    (line_utf8 within (without_feed piece)) (lines_utf8 pieces (number + 1) (at + length piece))

whole_utf8 : (progress : Progress) (start : Option ℕ) → ProgressHasUtf8 progress → IfSome (option_map (script_at progress) start) ScriptHasUtf8
whole_utf8 progress None h = tt
whole_utf8 progress (Some start) h = record { before = h.before; lanes = h.lanes; after = h.after }

from_utf8 : (lines : List Line) (end : ℕ) (progress : Progress) → AllLines lines → ProgressHasUtf8 progress → IfOk (script_from end progress lines) ScriptHasUtf8
from_utf8 [] end progress all h =
    let found = option_map (script_at progress) (complete_start progress.stage progress.start) in
    line_is end (or_fault kinds.Order found) ScriptHasUtf8 (or_is kinds.Order found ScriptHasUtf8 (whole_utf8 progress (complete_start progress.stage progress.start) h))
from_utf8 (line ∷ lines) end progress all h =
    then_is (at_line line.number (line_taken progress line.json)) (λ next. script_from end next lines) ProgressHasUtf8 ScriptHasUtf8
    (line_is line.number (line_taken progress line.json) ProgressHasUtf8 (said_utf8 progress line.json h all.0)) (λ next k. from_utf8 lines end next all.1 k)

none_yet : ProgressHasUtf8 no_progress
none_yet = record { before = tt; lanes = tt; after = tt }

-- each command of a script that was read has UTF-8 texts
pub script_utf8 : (bytes : List ℕ) (script : Script) → script_in bytes ≡ Ok script → ScriptHasUtf8 script
script_utf8 bytes script is =
    let text = take (byte_limit + 1) bytes in
    subst (λ (r : Result Script LineFault). IfOk r ScriptHasUtf8) is
    (from_utf8 (lines_from 0 0 (pieces_of text)) (length (pieces_of text) + 1) no_progress (lines_utf8 (pieces_of text) 0 0) none_yet)
