-- A script has no more commands than lines.
use Rattle.std.proofs.Common.{◌≡◌, ℕ, ◌+◌, ◌-◌, ◌*◌, ◌≤◌, Bool, true, false, ◌&&◌, List, [], ◌∷◌, ◌++◌, length, get_or, set, replicate, sum_by, Option, Some, None, option_map, Result, Ok, Err, refl, ap, subst, inl, inr, arith, nat_le, IfOk, if◌then◌else◌, length-append}
use Rattle.std.proofs.lemmas.Bool.{leb-true, cases_lt, and_parts}
use Rattle.std.proofs.lemmas.List.{set_past}
use Rattle.std.proofs.lemmas.List.Sums.{sum_by-set}
use Rattle.std.proofs.lemmas.List.Folds.{sum_by-replicate}
use Rattle.serde_json.specs.Data.{Data}
use Rattle.yp_base.specs.Results.{◌>>=◌, or_fault}
use Rattle.yp_schema.specs.Reading.{schema_of}
use Rattle.yp_journal.specs.declared.command.Command.{Command as Asking}
use Rattle.yp_command.specs.declared.fault.ScriptKind.TheVariants as kinds
use Rattle.yp_command.specs.Faults.{Said}
use Rattle.yp_command.specs.Requests.{command_said}
use Rattle.yp_command.specs.Words.{is_yes}
use Rattle.yp_command.specs.SaidLaws.{map_is, map_any, then_is, if_is}
use Rattle.yp_script.specs.declared.fault.ScriptFault.{ScriptFault}
use Rattle.yp_script.specs.declared.form.Form.{Form}
use Rattle.yp_script.specs.declared.form.Form.TheVariants.{Start, Schema, Receiver, Command, Lanes, Lane, Join}
use Rattle.yp_script.specs.declared.script.Script.{Script}
use Rattle.yp_script.specs.declared.stage.Stage.{Stage}
use Rattle.yp_script.specs.declared.stage.Stage.TheVariants.{After}
use Rattle.yp_script.specs.Faults.{LineFault}
use Rattle.yp_script.specs.Forms.{line_form}
use Rattle.yp_script.specs.Lines.{Line, pieces_of, without_feed, is_blank, json_in, is_in_script, lines_from}
use Rattle.yp_script.specs.Order.{next_stage}
use Rattle.yp_script.specs.Readings.{Gives}
use Rattle.yp_script.specs.Script.{Progress, no_progress, with_start, with_part, with_receiver, put_at, with_command, with_lanes, with_laned, schema_said, taken, at_stage, form_taken, line_taken, at_line, complete_start, script_at, script_from, script_of, count_commands}
use Rattle.yp_script.specs.Values.{start_said, receiver_said, lanes_said, laned_said}
use Rattle.yp_script.specs.SaidLaws.{line_is}

-- ---- a line has one command at most

abbrev count_so_far : Progress → ℕ
count_so_far progress = length progress.before + sum_by (λ lane. length lane) progress.lanes + length progress.after

abbrev HasAtMost : ℕ → Progress → Type 0
HasAtMost most progress = count_so_far progress ≤ most

command_more : (stage : Stage) (progress : Progress) (command : Asking) → count_so_far (put_at stage progress command) ≤ count_so_far progress + 1
command_more After progress command = omega (arith, length-append progress.after (command ∷ []))
command_more other progress command = omega (arith, length-append progress.before (command ∷ []))

lane_more : (lanes : List (List Asking)) (place : ℕ) (command : Asking) → sum_by (λ lane. length lane) (set lanes place (get_or lanes place [] ++ command ∷ [])) ≤ sum_by (λ lane. length lane) lanes + 1
lane_more lanes place command =
    elim (cases_lt place (length lanes)) [
      | inl h ↦
          let more : sum_by (λ lane. length lane) (set lanes place (get_or lanes place [] ++ command ∷ [])) + length (get_or lanes place []) ≡ sum_by (λ lane. length lane) lanes + length (get_or lanes place [] ++ command ∷ []) =
          sum_by-set (λ (lane : List Asking). length lane) lanes place (get_or lanes place [] ++ command ∷ []) [] h in
          omega (arith, more, length-append (get_or lanes place []) (command ∷ []))
      | inr h ↦
          let same : set lanes place (get_or lanes place [] ++ command ∷ []) ≡ lanes = set_past lanes place (get_or lanes place [] ++ command ∷ []) h in
          omega (arith, ap (λ xs. sum_by (λ (lane : List Asking). length lane) xs) same)
    ]

no_more : (count : ℕ) → sum_by (λ (lane : List Asking). length lane) (replicate count []) ≡ 0
no_more count = let e : sum_by (λ (lane : List Asking). length lane) (replicate count []) ≡ count * 0 = sum_by-replicate (λ (lane : List Asking). length lane) count [] in omega (arith, e)

taken_more : (progress : Progress) (form : Form Data) → IfOk (taken progress form) (HasAtMost (count_so_far progress + 1))
taken_more progress (Start value) = map_any (with_start progress) (start_said value) (HasAtMost (count_so_far progress + 1)) (λ start. omega arith)
taken_more progress (Schema value) = map_any (with_part progress value) (schema_said (schema_of (progress.parts ++ value ∷ []))) (HasAtMost (count_so_far progress + 1)) (λ nodes. omega arith)
taken_more progress (Receiver value) = map_any (with_receiver progress) (receiver_said progress.receivers value) (HasAtMost (count_so_far progress + 1)) (λ receiver. omega arith)
taken_more progress (Command request) =
    map_any (with_command progress) (command_said progress.schema progress.start progress.receivers request) (HasAtMost (count_so_far progress + 1)) (λ command. command_more progress.stage progress command)
taken_more progress (Lanes value) = map_any (with_lanes progress) (lanes_said value) (HasAtMost (count_so_far progress + 1)) (λ count. omega (arith, no_more count))
taken_more progress (Lane lane request) =
    map_any (with_laned progress) (laned_said progress.schema progress.start progress.receivers (length progress.lanes) lane request) (HasAtMost (count_so_far progress + 1))
    (λ laned. omega (arith, lane_more progress.lanes (laned.lane - 1) laned.command))
taken_more progress (Join value) = if_is kinds.Member (is_yes value) (Ok progress) (HasAtMost (count_so_far progress + 1)) (λ yes. omega arith)

staged_more : (most : ℕ) (stage : Option Stage) (said : Said Progress) → IfOk said (HasAtMost most) → IfOk (at_stage stage said) (HasAtMost most)
staged_more most None (Ok progress) few = tt
staged_more most None (Err kind) few = tt
staged_more most (Some stage) said few = map_is (λ (progress : Progress). record progress { stage = stage }) said (HasAtMost most) (HasAtMost most) few (λ progress more. more)

form_more : (progress : Progress) (form : Option (Form Data)) → IfOk (or_fault kinds.UnknownCommand form >>= form_taken progress) (HasAtMost (count_so_far progress + 1))
form_more progress None = tt
form_more progress (Some form) = staged_more (count_so_far progress + 1) (next_stage progress.stage form) (taken progress form) (taken_more progress form)

line_adds : (progress : Progress) (json : Said Data) → IfOk (line_taken progress json) (HasAtMost (count_so_far progress + 1))
line_adds progress (Ok value) = form_more progress (line_form value)
line_adds progress (Err kind) = tt

-- ---- the lines

abbrev AtMost : ℕ → Script → Type 0
AtMost most script = count_commands script ≤ most

within_lines : (number end : ℕ) → is_in_script number end ≡ true → number ≤ 100000
within_lines number end is = leb-true number 100000 (and_parts (nat_le number 100000) (nat_le end 67108864) is).0

line_more : (end number : ℕ) (progress : Progress) (text : List ℕ) (rest : List Line) (within blank : Bool) → count_so_far progress ≤ number → (within ≡ true → number + 1 ≤ 100000)
    → ((next : Progress) → count_so_far next ≤ number + 1 → number + 1 ≤ 100000 → IfOk (script_from end next rest) (AtMost 100000))
    → IfOk (script_from end progress (if within && blank then rest else record { number = number + 1; json = json_in within text } ∷ rest)) (AtMost 100000)
line_more end number progress text rest true true few many each = each progress (omega (arith, few)) (many refl)
line_more end number progress text rest true false few many each =
    then_is (at_line (number + 1) (line_taken progress (json_in true text))) (λ next. script_from end next rest) (HasAtMost (count_so_far progress + 1)) (AtMost 100000)
    (line_is (number + 1) (line_taken progress (json_in true text)) (HasAtMost (count_so_far progress + 1)) (line_adds progress (json_in true text)))
    (λ next most. each next (omega (arith, few, most)) (many refl))
line_more end number progress text rest false blank few many each = tt

end_has : (most : ℕ) (progress : Progress) (start : Option ℕ) → count_so_far progress ≤ most → IfOk (or_fault kinds.Order (option_map (script_at progress) start)) (AtMost most)
end_has most progress None few = tt
end_has most progress (Some start) few = few

lines_more : (end number at : ℕ) (progress : Progress) (pieces : List (List ℕ)) → count_so_far progress ≤ number → number ≤ 100000 → IfOk (script_from end progress (lines_from number at pieces)) (AtMost 100000)
lines_more end number at progress [] few many =
    line_is end (or_fault kinds.Order (option_map (script_at progress) (complete_start progress.stage progress.start))) (AtMost 100000)
    (end_has 100000 progress (complete_start progress.stage progress.start) (omega (arith, few, many)))
lines_more end number at progress (piece ∷ pieces) few many =
    line_more end number progress (without_feed piece) (lines_from (number + 1) (at + length piece) pieces) (is_in_script (number + 1) (at + length piece)) (is_blank (without_feed piece)) few
    (within_lines (number + 1) (at + length piece)) (λ next fewer more. lines_more end (number + 1) (at + length piece) next pieces fewer more)

pub read_count : (r : Result Script ScriptFault) (text : List ℕ) → Gives r (script_of text) → IfOk r (λ script. count_commands script ≤ 100000)
read_count (Ok script) text is =
    subst (λ (read : Result Script LineFault). IfOk read (AtMost 100000)) is (lines_more (length (pieces_of text) + 1) 0 0 no_progress (pieces_of text) (omega arith) (omega arith))
read_count (Err fault) text is = tt
