-- The lines of a script that is read stand in order.
use Rattle.std.proofs.Common.{◌≡◌, ℕ, ◌+◌, true, true≢false, List, [], ◌∷◌, ◌++◌, length, map, Option, Some, None, option_map, option_and_then, is_some, Result, Ok, Err, refl, sym, ap, subst, IfOk}
use Rattle.std.specs.Option.{IsSomeAnd}
use Rattle.std.specs.Result.{result_ok}
use Rattle.std.proofs.lemmas.Result.{IfOk-weaker}
use Rattle.serde_json.specs.Data.{Data}
use Rattle.yp_base.specs.Results.{◌>>=◌, or_fault}
use Rattle.yp_command.specs.declared.fault.ScriptKind.TheVariants as kinds
use Rattle.yp_command.specs.declared.command.Request.{Request}
use Rattle.yp_command.specs.Faults.{Said}
use Rattle.yp_command.specs.SaidLaws.{then_is}
use Rattle.yp_script.specs.declared.fault.ScriptFault.{ScriptFault}
use Rattle.yp_script.specs.declared.form.Form.{Form}
use Rattle.yp_script.specs.declared.form.Form.TheVariants.{Start, Schema, Receiver, Command, Lanes, Lane, Join}
use Rattle.yp_script.specs.declared.script.Script.{Script}
use Rattle.yp_script.specs.declared.stage.Stage.{Stage}
use Rattle.yp_script.specs.declared.stage.Stage.TheVariants.{Opening, Started, Schemas, Receivers, Before, Within, After}
use Rattle.yp_script.specs.Faults.{LineFault}
use Rattle.yp_script.specs.Forms.{line_form}
use Rattle.yp_script.specs.Lines.{Line, pieces_of, lines_from}
use Rattle.yp_script.specs.Order.{next_stage, LanesPart, lanes_part, InOrder}
use Rattle.yp_script.specs.Readings.{Gives}
use Rattle.yp_script.specs.Script.{Progress, no_progress, taken, at_stage, form_taken, line_taken, at_line, complete_start, script_at, script_from, script_of, form_at, AreInOrder}
use Rattle.yp_script.specs.SaidLaws.{line_is}

-- ---- what may stand after a stage

-- the forms of the lines that are left at a stage
abbrev Rest : Stage → List (Form Data) → Type 0
Rest Opening forms = InOrder forms
Rest Started forms =
    (first : Data) × (parts : List Data) × (receivers : List Data) × (before : List (Request Data)) × (lanes : Option LanesPart) × (forms ≡ Schema first ∷ map Schema parts ++ (map Receiver receivers ++ (map Command before ++ lanes_part lanes)))
Rest Schemas forms = (parts : List Data) × (receivers : List Data) × (before : List (Request Data)) × (lanes : Option LanesPart) × (forms ≡ map Schema parts ++ (map Receiver receivers ++ (map Command before ++ lanes_part lanes)))
Rest Receivers forms = (receivers : List Data) × (before : List (Request Data)) × (lanes : Option LanesPart) × (forms ≡ map Receiver receivers ++ (map Command before ++ lanes_part lanes))
Rest Before forms = (before : List (Request Data)) × (lanes : Option LanesPart) × (forms ≡ map Command before ++ lanes_part lanes)
Rest Within forms = (within : List (Data × Request Data)) × (end : Data) × (after : List (Request Data)) × (forms ≡ map (λ line. Lane line.0 line.1) within ++ Join end ∷ map Command after)
Rest After forms = (after : List (Request Data)) × (forms ≡ map Command after)

-- a script may end
rest_ends : (stage : Stage) (start : Option ℕ) → is_some (complete_start stage start) ≡ true → Rest stage []
rest_ends Schemas start is = ([], [], [], None, refl)
rest_ends Receivers start is = ([], [], None, refl)
rest_ends Before start is = ([], None, refl)
rest_ends After start is = ([], refl)
rest_ends other start is = absurd (true≢false (sym is))

-- a form in front of those that may stand after it
rest_more : (stage : Stage) (form : Form Data) (forms : List (Form Data)) → IsSomeAnd (next_stage stage form) (λ next. Rest next forms) → Rest stage (form ∷ forms)
rest_more Opening (Start start) forms rest = record {
  start = start;
  first = rest.0;
  parts = rest.1;
  receivers = rest.2;
  before = rest.3;
  lanes = rest.4;
  all = ap (λ xs. Start start ∷ xs) rest.5;
}
rest_more Started (Schema part) forms rest = (part, rest.0, rest.1, rest.2, rest.3, ap (λ xs. Schema part ∷ xs) rest.4)
rest_more Schemas (Schema part) forms rest = (part ∷ rest.0, rest.1, rest.2, rest.3, ap (λ xs. Schema part ∷ xs) rest.4)
rest_more Schemas (Receiver receiver) forms rest = ([], receiver ∷ rest.0, rest.1, rest.2, ap (λ xs. Receiver receiver ∷ xs) rest.3)
rest_more Schemas (Command request) forms rest = ([], [], request ∷ rest.0, rest.1, ap (λ xs. Command request ∷ xs) rest.2)
rest_more Schemas (Lanes count) forms rest = ([], [], [], Some (record { count = count; within = rest.0; end = rest.1; after = rest.2 }), ap (λ xs. Lanes count ∷ xs) rest.3)
rest_more Receivers (Receiver receiver) forms rest = (receiver ∷ rest.0, rest.1, rest.2, ap (λ xs. Receiver receiver ∷ xs) rest.3)
rest_more Receivers (Command request) forms rest = ([], request ∷ rest.0, rest.1, ap (λ xs. Command request ∷ xs) rest.2)
rest_more Receivers (Lanes count) forms rest = ([], [], Some (record { count = count; within = rest.0; end = rest.1; after = rest.2 }), ap (λ xs. Lanes count ∷ xs) rest.3)
rest_more Before (Command request) forms rest = (request ∷ rest.0, rest.1, ap (λ xs. Command request ∷ xs) rest.2)
rest_more Before (Lanes count) forms rest = ([], Some (record { count = count; within = rest.0; end = rest.1; after = rest.2 }), ap (λ xs. Lanes count ∷ xs) rest.3)
rest_more Within (Lane lane request) forms rest = ((lane, request) ∷ rest.0, rest.1, rest.2, ap (λ xs. Lane lane request ∷ xs) rest.3)
rest_more Within (Join end) forms rest = ([], end, rest.0, ap (λ xs. Join end ∷ xs) rest.1)
rest_more After (Command request) forms rest = (request ∷ rest.0, ap (λ xs. Command request ∷ xs) rest.1)
rest_more stage form forms rest = absurd rest

-- ---- the lines

-- the form of a line that is taken, which leads from the stage before it to the one after it
abbrev Follows : Progress → Option (Form Data) → Progress → Type 0
Follows progress known next = (form : Form Data) × (known ≡ Some form) × (next_stage progress.stage form ≡ Some next.stage)

staged : (stage : Option Stage) (said : Said Progress) → IfOk (at_stage stage said) (λ next. stage ≡ Some next.stage)
staged None (Ok progress) = tt
staged None (Err kind) = tt
staged (Some stage) (Ok progress) = refl
staged (Some stage) (Err kind) = tt

follows_form : (progress : Progress) (known : Option (Form Data)) → IfOk (or_fault kinds.UnknownCommand known >>= form_taken progress) (Follows progress known)
follows_form progress None = tt
follows_form progress (Some form) =
    IfOk-weaker (form_taken progress form) (λ next. next_stage progress.stage form ≡ Some next.stage) (Follows progress (Some form)) (λ next leads. (form, refl, leads)) (staged (next_stage progress.stage form) (taken progress form))

follows_line : (progress : Progress) (line : Line) → IfOk (line_taken progress line.json) (Follows progress (form_at line))
follows_line progress line = follows line.json
  where
    follows : (json : Said Data) → IfOk (line_taken progress json) (Follows progress (option_and_then line_form (result_ok json)))
    follows (Ok value) = follows_form progress (line_form value)
    follows (Err kind) = tt

-- the forms of the lines that are left at a stage
abbrev Rests : Stage → List Line → Type 0
Rests stage lines = (forms : List (Form Data)) × (map form_at lines ≡ map (λ form. Some form) forms) × Rest stage forms

rests_more : (progress next : Progress) (line : Line) (lines : List Line) → Follows progress (form_at line) next → Rests next.stage lines → Rests progress.stage (line ∷ lines)
rests_more progress next line lines follows rests = (
  follows.0 ∷ rests.0,
  (λ i. follows.1 i ∷ rests.1 i),
  rest_more progress.stage follows.0 rests.0 (subst (λ (to : Option Stage). IsSomeAnd to (λ stage. Rest stage rests.0)) (sym follows.2) rests.2),
)

rests_end : (progress : Progress) (start : Option ℕ) → complete_start progress.stage progress.start ≡ start → IfOk (or_fault kinds.Order (option_map (script_at progress) start)) (λ script. Rests progress.stage [])
rests_end progress None is = tt
rests_end progress (Some start) is = ([], refl, rest_ends progress.stage progress.start (ap is_some is))

lines_rest : (end : ℕ) (progress : Progress) (lines : List Line) → IfOk (script_from end progress lines) (λ script. Rests progress.stage lines)
lines_rest end progress [] =
    line_is end (or_fault kinds.Order (option_map (script_at progress) (complete_start progress.stage progress.start))) (λ script. Rests progress.stage []) (rests_end progress (complete_start progress.stage progress.start) refl)
lines_rest end progress (line ∷ lines) =
    then_is (at_line line.number (line_taken progress line.json)) (λ next. script_from end next lines) (Follows progress (form_at line)) (λ script. Rests progress.stage (line ∷ lines))
    (line_is line.number (line_taken progress line.json) (Follows progress (form_at line)) (follows_line progress line))
    (λ next follows. IfOk-weaker (script_from end next lines) (λ script. Rests next.stage lines) (λ script. Rests progress.stage (line ∷ lines)) (λ script rests. rests_more progress next line lines follows rests) (lines_rest end next lines))

lines_in_order : (end : ℕ) (lines : List Line) → IfOk (script_from end no_progress lines) (λ script. AreInOrder lines)
lines_in_order end lines =
    IfOk-weaker (script_from end no_progress lines) (λ script. Rests Opening lines) (λ script. AreInOrder lines) (λ script rests. record { forms = rests.0; known = rests.1; order = rests.2 }) (lines_rest end no_progress lines)

pub read_in_order : (r : Result Script ScriptFault) (text : List ℕ) → Gives r (script_of text) → IfOk r (λ script. AreInOrder (lines_from 0 0 (pieces_of text)))
read_in_order (Ok script) text is =
    subst (λ (read : Result Script LineFault). IfOk read (λ script. AreInOrder (lines_from 0 0 (pieces_of text)))) is (lines_in_order (length (pieces_of text) + 1) (lines_from 0 0 (pieces_of text)))
read_in_order (Err fault) text is = tt
