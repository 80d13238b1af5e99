-- Steps of a reader: what it holds after a line is what the definition says of the line.
use Rattle.std.proofs.Common.{◌≡◌, ℕ, ◌+◌, List, [], ◌∷◌, ◌++◌, length, map, Option, Some, None, Result, Ok, Err, refl, sym, ap, ◌∙◌, subst}
use Rattle.std.proofs.lemmas.List.{length-map}
use Rattle.std.specs.Borrow.{Bor}
use Rattle.serde_json.specs.Data.{Data}
use Rattle.serde_json.specs.declared.value.Value.{Value}
use Rattle.serde_json.specs.View.{view}
use Rattle.yp_base.specs.Results.{◌>>=◌, or_fault, bind_same}
use Rattle.yp_schema.specs.declared.schema.SchemaNode.{SchemaNode}
use Rattle.yp_schema.specs.Reading.{schema_of}
use Rattle.yp_schema.specs.Rounds.{Fault}
use Rattle.yp_command.specs.declared.fault.ScriptKind.{ScriptKind}
use Rattle.yp_command.specs.declared.fault.ScriptKind.TheVariants as kinds
use Rattle.yp_command.specs.declared.halt.Halt.{Halt}
use Rattle.yp_command.specs.declared.halt.Halt.TheVariants as halts
use Rattle.yp_command.specs.Faults.{Said, said_map, least}
use Rattle.yp_command.specs.Readings.{beside}
use Rattle.yp_script.specs.declared.cursor.Lines.{Lines}
use Rattle.yp_script.specs.declared.cursor.Line.{Line as FoundLine}
use Rattle.yp_script.specs.declared.fault.ScriptFault.{ScriptFault}
use Rattle.yp_script.specs.declared.fault.ScriptFault.TheVariants.{At, Memory}
use Rattle.yp_script.specs.declared.form.Form.{Form}
use Rattle.yp_script.specs.declared.form.Form.TheVariants as forms
use Rattle.yp_script.specs.declared.reader.Reader.{Reader}
use Rattle.yp_script.specs.declared.script.Script.{Script}
use Rattle.yp_script.specs.declared.stage.Stage.{Stage}
use Rattle.yp_script.specs.declared.stage.Stage.TheVariants as stages
use Rattle.yp_script.specs.Cursor.{lines_left, last_number, seen_line}
use Rattle.yp_script.specs.Faults.{LineFault}
use Rattle.yp_script.specs.Forms.{seen_form, line_form}
use Rattle.yp_script.specs.Lines.{Line}
use Rattle.yp_script.specs.Order.{next_stage}
use Rattle.yp_script.specs.Readings.{Gives, IsFault, at_part}
use Rattle.yp_script.specs.Readers.{progress_with, schema_in, progress_in, progress_by, Added, Lacking, Adds, IsEarly, Took, Takes, Goes}
use Rattle.yp_script.specs.Script.{Progress, with_part, schema_said, taken, at_stage, form_taken, line_taken, at_line, script_from}
use Rattle.yp_script.proofs.PartLaws.{part_grows, bound_twice, bound_where}

-- ---- faults

pub fault_then : {X Y : Type 0} (fault : ScriptFault) (r : Result X LineFault) (f : X → Result Y LineFault) → IsFault fault r → IsFault fault (r >>= f)
fault_then (At line own) r f is = ap (λ x. x >>= f) is
fault_then Memory r f is = tt

pub fault_along : {X : Type 0} (fault : ScriptFault) (a b : Result X LineFault) → a ≡ b → IsFault fault b → IsFault fault a
fault_along (At line own) a b same is = same ∙ is
fault_along Memory a b same is = tt

-- ---- what a reader holds after a line

-- a line, said of what is held with each schema
by_nodes : (reader : Reader) (number : ℕ) (said : Progress → Said Progress) → progress_by reader number said ≡ (schema_in reader >>= λ nodes. at_line number (said (progress_with reader nodes)))
by_nodes reader number said = bound_twice (schema_in reader) (λ nodes. Ok (progress_with reader nodes)) (λ progress. at_line number (said progress))

-- two lines that say the same
said_alike : (reader : Reader) (number : ℕ) (one other : Progress → Said Progress) → ((nodes : List SchemaNode) → schema_in reader ≡ Ok nodes → one (progress_with reader nodes) ≡ other (progress_with reader nodes)) → progress_by reader number one ≡ progress_by reader number other
said_alike reader number one other same =
    by_nodes reader number one
    ∙ bound_where (schema_in reader) (λ nodes. at_line number (one (progress_with reader nodes))) (λ nodes. at_line number (other (progress_with reader nodes))) (λ nodes known. ap (at_line number) (same nodes known))
    ∙ sym (by_nodes reader number other)

-- a fault of the line itself, where the parts stay as they were
same_fault : (old new : Reader) (number : ℕ) (own : ScriptKind) → schema_in new ≡ schema_in old → progress_by old number (λ progress. Err own) ≡ progress_by new number (λ progress. Err own)
same_fault old new number own same =
    by_nodes old number (λ progress. Err own)
    ∙ ap (λ (r : Result (List SchemaNode) LineFault). r >>= λ nodes. (let none : Said Progress = Err own in at_line number none)) (sym same)
    ∙ sym (by_nodes new number (λ progress. Err own))

-- ---- the values of a line

added_took : (old new : Reader) (number : ℕ) (form : Form Data) → Added old new form → Took old new number form
added_took old new number form added = record {
  progress =
      by_nodes old number (λ progress. taken progress form)
      ∙ bound_where (schema_in old) (λ nodes. at_line number (taken (progress_with old nodes) form)) (λ nodes. Ok (progress_with new nodes)) (λ nodes known. ap (at_line number) (added.taken nodes known))
      ∙ ap (λ (r : Result (List SchemaNode) LineFault). r >>= λ nodes. Ok (progress_with new nodes)) (sym added.schema);
  early = λ nodes known. subst (λ (said : Said Progress). IsEarly said) (sym (added.taken nodes known)) tt;
}

pub adds_takes : {U : Type 0} (r : Result U Halt) (old new : Reader) (number : ℕ) (form : Form Data) → Adds r old new form → Takes r old new number form
adds_takes (Ok u) old new number form adds = added_took old new number form adds
adds_takes (Err (halts.Fault own)) old new number form adds = adds
adds_takes (Err halts.Memory) old new number form adds = tt

numbers_many : (reader : Reader) → length reader.parts.numbers.items ≡ length (map view reader.parts.parts.items)
numbers_many reader = sym reader.parts.numbers.ok.0 ∙ reader.parts.each ∙ reader.parts.parts.ok.0 ∙ sym (length-map reader.parts.parts.items view)

made_step : (line : ℕ) (old new : Reader) (nodes : List SchemaNode) (part : Data) (s : Said (List SchemaNode)) → ((made : List SchemaNode) → progress_with new made ≡ with_part (progress_with old made) part made)
    → at_line line (said_map (with_part (progress_with old nodes) part) s) ≡ (at_line line s >>= λ made. Ok (progress_with new made))
made_step line old new nodes part (Ok made) same = ap (λ (p : Progress). Ok p) (sym (same made))
made_step line old new nodes part (Err kind) same = refl

part_early : (progress : Progress) (part : Data) (r : Result (List SchemaNode) Fault) → IsEarly (said_map (with_part progress part) (schema_said r))
part_early progress part (Ok nodes) = tt
part_early progress part (Err fault) = refl

-- a part that was added is judged with those after it
pub took_part : (old new : Reader) (line : ℕ) (part : Data)
    → new.parts.numbers.items ≡ old.parts.numbers.items ++ line ∷ [] → map view new.parts.parts.items ≡ map view old.parts.parts.items ++ part ∷ []
    → ((made : List SchemaNode) → progress_with new made ≡ with_part (progress_with old made) part made) → Took old new line (forms.Schema part)
took_part old new line part numbers parts same =
    let ps = map view old.parts.parts.items in
    let s = schema_said (schema_of (ps ++ part ∷ [])) in
    record {
      progress =
          by_nodes old line (λ progress. taken progress (forms.Schema part))
          ∙ bind_same (schema_in old) (λ nodes. at_line line (said_map (with_part (progress_with old nodes) part) s)) (λ nodes. (at_line line s >>= λ made. Ok (progress_with new made))) (λ nodes. made_step line old new nodes part s same)
          ∙ sym (bound_twice (schema_in old) (λ nodes. at_line line s) (λ made. Ok (progress_with new made)))
          ∙ ap (λ (r : Result (List SchemaNode) LineFault). r >>= λ made. Ok (progress_with new made))
          (sym (part_grows old.parts.numbers.items line ps part (numbers_many old)) ∙ (λ i. at_part (sym numbers i) (schema_of (sym parts i))));
      early = λ nodes known. part_early (progress_with old nodes) part (schema_of (ps ++ part ∷ []));
    }

-- ---- a line of a form

-- where a form leads is the same of its values as a contract sees them
pub leads_seen : (stage : Stage) (form : Form (Bor Value)) → next_stage stage (seen_form form) ≡ next_stage stage form
leads_seen stages.Opening (forms.Start value) = refl
leads_seen stages.Started (forms.Start value) = refl
leads_seen stages.Schemas (forms.Start value) = refl
leads_seen stages.Receivers (forms.Start value) = refl
leads_seen stages.Before (forms.Start value) = refl
leads_seen stages.Within (forms.Start value) = refl
leads_seen stages.After (forms.Start value) = refl
leads_seen stage form = refl

staged_line : (line : ℕ) (said : Said Progress) (stage : Stage) → at_line line (at_stage (Some stage) said) ≡ (at_line line said >>= λ (progress : Progress). Ok (record progress { stage = stage }))
staged_line line (Ok progress) stage = refl
staged_line line (Err kind) stage = refl

misplaced_line : (line : ℕ) (said : Said Progress) → IsEarly said → at_line line (at_stage None said) ≡ (at_line line said >>= λ progress. Err (record { line = line; kind = kinds.Order }))
misplaced_line line (Ok progress) early = refl
misplaced_line line (Err kind) early = ap (λ own. Err (record { line = line; kind = own })) early

module _ (old mid : Reader) (line : ℕ) (form : Form Data) where
  -- where it is known to which stage the line leads, and what follows its values
  after_values : (next : Option Stage) (f : Progress → Result Progress LineFault) → next_stage old.stage form ≡ next → Took old mid line form
      → ((nodes : List SchemaNode) → schema_in old ≡ Ok nodes → at_line line (at_stage next (taken (progress_with old nodes) form)) ≡ (at_line line (taken (progress_with old nodes) form) >>= f))
      → progress_by old line (λ progress. form_taken progress form) ≡ (progress_in mid >>= f)
  after_values next f leads took same =
      said_alike old line (λ progress. form_taken progress form) (λ progress. at_stage next (taken progress form)) (λ nodes known. ap (λ (to : Option Stage). at_stage to (taken (progress_with old nodes) form)) leads)
      ∙ by_nodes old line (λ progress. at_stage next (taken progress form))
      ∙ bound_where (schema_in old) (λ nodes. at_line line (at_stage next (taken (progress_with old nodes) form))) (λ nodes. (at_line line (taken (progress_with old nodes) form) >>= f)) same
      ∙ sym (bound_twice (schema_in old) (λ nodes. at_line line (taken (progress_with old nodes) form)) f)
      ∙ ap (λ (r : Result Progress LineFault). r >>= f) (sym (by_nodes old line (λ progress. taken progress form)) ∙ took.progress)

  -- the line leads to a stage
  pub goes_on : (stage : Stage) → next_stage old.stage form ≡ Some stage → Took old mid line form
      → progress_by old line (λ progress. form_taken progress form) ≡ (schema_in mid >>= λ nodes. Ok (record (progress_with mid nodes) { stage = stage }))
  goes_on stage leads took =
      after_values (Some stage) (λ (progress : Progress). Ok (record progress { stage = stage })) leads took (λ nodes known. staged_line line (taken (progress_with old nodes) form) stage)
      ∙ bound_twice (schema_in mid) (λ nodes. Ok (progress_with mid nodes)) (λ (progress : Progress). Ok (record progress { stage = stage }))

  -- the line may not stand where it does
  pub goes_nowhere : next_stage old.stage form ≡ None → Took old mid line form → progress_by old line (λ progress. form_taken progress form) ≡ progress_by mid line (λ progress. Err kinds.Order)
  goes_nowhere leads took = after_values None (λ progress. Err (record { line = line; kind = kinds.Order })) leads took (λ nodes known. misplaced_line line (taken (progress_with old nodes) form) (took.early nodes known))

  lacks : (next : Option Stage) (own told : ScriptKind) → next_stage old.stage form ≡ next → at_stage next (Err own) ≡ Err told → Lacking old mid form own → progress_by old line (λ progress. form_taken progress form) ≡ progress_by mid line (λ progress. Err told)
  lacks next own told leads is lacking =
      said_alike old line (λ progress. form_taken progress form) (λ progress. Err told) (λ nodes known. ap (λ (to : Option Stage). at_stage to (taken (progress_with old nodes) form)) leads ∙ ap (at_stage next) (lacking.fault nodes known) ∙ is)
      ∙ same_fault old mid line told lacking.schema

  -- what stops the values of the line
  pub halts_there : (stage : Stage) (h : Halt) → next_stage old.stage form ≡ Some stage → Takes {U = Unit {0}} (Err h) old mid line form → Goes {U = Unit {0}} (Err h) old mid line (λ progress. form_taken progress form)
  halts_there stage (halts.Fault own) leads takes = lacks (Some stage) own own leads refl takes
  halts_there stage halts.Memory leads takes = tt

  pub halts_nowhere : (h : Halt) → next_stage old.stage form ≡ None → Takes {U = Unit {0}} (Err h) old mid line form → Goes {U = Unit {0}} (Err (beside kinds.Order h)) old mid line (λ progress. form_taken progress form)
  halts_nowhere (halts.Fault own) leads takes = lacks None own (least kinds.Order own) leads refl takes
  halts_nowhere halts.Memory leads takes = tt

-- ---- the JSON of a line

goes_along : {U : Type 0} (r : Result U Halt) (old new : Reader) (line : ℕ) (one other : Progress → Said Progress) → ((progress : Progress) → one progress ≡ other progress) → Goes r old new line other → Goes r old new line one
goes_along r old new line one other same goes = subst (λ (said : Progress → Said Progress). Goes r old new line said) (λ i. λ progress. sym (same progress) i) goes

-- JSON of this form says what the form does
pub goes_known : {U : Type 0} (r : Result U Halt) (old new : Reader) (line : ℕ) (json : Result Value ScriptKind) (v : Value) (form : Form Data) → json ≡ Ok v → line_form (view v) ≡ Some form
    → Goes r old new line (λ progress. form_taken progress form) → Goes r old new line (λ progress. line_taken progress (said_map view json))
goes_known r old new line json v form is known goes =
    goes_along r old new line (λ progress. line_taken progress (said_map view json)) (λ progress. form_taken progress form)
    (λ progress. ap (λ (j : Result Value ScriptKind). line_taken progress (said_map view j)) is ∙ ap (λ (o : Option (Form Data)). or_fault kinds.UnknownCommand o >>= form_taken progress) known) goes

-- JSON of no form says nothing
pub goes_formless : (old : Reader) (line : ℕ) (json : Result Value ScriptKind) (v : Value) → json ≡ Ok v → line_form (view v) ≡ None → progress_by old line (λ progress. line_taken progress (said_map view json)) ≡ progress_by old line (λ progress. Err kinds.UnknownCommand)
goes_formless old line json v is known =
    said_alike old line (λ progress. line_taken progress (said_map view json)) (λ progress. Err kinds.UnknownCommand)
    (λ nodes schema. ap (λ (j : Result Value ScriptKind). line_taken (progress_with old nodes) (said_map view j)) is ∙ ap (λ (o : Option (Form Data)). or_fault kinds.UnknownCommand o >>= form_taken (progress_with old nodes)) known)

pub goes_unread : (old : Reader) (line : ℕ) (json : Result Value ScriptKind) (kind : ScriptKind) → json ≡ Err kind → progress_by old line (λ progress. line_taken progress (said_map view json)) ≡ progress_by old line (λ progress. Err kind)
goes_unread old line json kind is =
    said_alike old line (λ progress. line_taken progress (said_map view json)) (λ progress. Err kind) (λ nodes known. ap (λ (j : Result Value ScriptKind). line_taken (progress_with old nodes) (said_map view j)) is)

-- ---- the fault of a script

-- a fault of the parts of the schema is the script's, and else that of the line is
pub stops_part : (fault : ScriptFault) (reader : Reader) (line : ℕ) (said : Progress → Said Progress) → IsFault fault (schema_in reader) → IsFault fault (progress_by reader line said)
stops_part fault reader line said is =
    fault_then fault (progress_in reader) (λ progress. at_line line (said progress)) (fault_then fault (schema_in reader) (λ nodes. Ok (progress_with reader nodes)) is)

pub stops_line : (reader : Reader) (line : ℕ) (kind : ScriptKind) (nodes : List SchemaNode) → schema_in reader ≡ Ok nodes → progress_by reader line (λ progress. Err kind) ≡ Err (record { line = line; kind = kind })
stops_line reader line kind nodes is = ap (λ (r : Result (List SchemaNode) LineFault). (r >>= λ nodes. Ok (progress_with reader nodes)) >>= λ progress. (let none : Said Progress = Err kind in at_line line none)) is

-- ---- the lines of a text

-- a line that is taken leaves the script
pub walks : (text : Result Script LineFault) (before after : Reader) (place next : Lines) (line : FoundLine) → lines_left place ≡ seen_line line ∷ lines_left next → last_number next ≡ last_number place
    → progress_by before line.number (λ progress. line_taken progress (seen_line line).json) ≡ progress_in after
    → (progress_in before >>= λ progress. script_from (last_number place + 1) progress (lines_left place)) ≡ text
    → (progress_in after >>= λ progress. script_from (last_number next + 1) progress (lines_left next)) ≡ text
walks text before after place next line found last steps is =
    ap (λ n. progress_in after >>= λ progress. script_from (n + 1) progress (lines_left next)) last
    ∙ ap (λ (r : Result Progress LineFault). r >>= λ progress. script_from (last_number place + 1) progress (lines_left next)) (sym steps)
    ∙ bound_twice (progress_in before) (λ progress. at_line line.number (line_taken progress (seen_line line).json)) (λ progress. script_from (last_number place + 1) progress (lines_left next))
    ∙ ap (λ (lines : List Line). progress_in before >>= λ progress. script_from (last_number place + 1) progress lines) (sym found)
    ∙ is

-- a fault of a line is the script's
pub walks_fault : (fault : ScriptFault) (text : Result Script LineFault) (before : Reader) (place next : Lines) (line : FoundLine) → lines_left place ≡ seen_line line ∷ lines_left next
    → IsFault fault (progress_by before line.number (λ progress. line_taken progress (seen_line line).json))
    → (progress_in before >>= λ progress. script_from (last_number place + 1) progress (lines_left place)) ≡ text → Gives (Err fault) text
walks_fault fault text before place next line found stops is =
    fault_along fault text (progress_by before line.number (λ progress. line_taken progress (seen_line line).json) >>= λ progress. script_from (last_number place + 1) progress (lines_left next))
    (sym is
    ∙ ap (λ (lines : List Line). progress_in before >>= λ progress. script_from (last_number place + 1) progress lines) found
    ∙ sym (bound_twice (progress_in before) (λ progress. at_line line.number (line_taken progress (seen_line line).json)) (λ progress. script_from (last_number place + 1) progress (lines_left next))))
    (fault_then fault (progress_by before line.number (λ progress. line_taken progress (seen_line line).json)) (λ progress. script_from (last_number place + 1) progress (lines_left next)) stops)
