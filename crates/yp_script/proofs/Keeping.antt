-- What each script keeps: receivers of distinct names, and commands of these receivers.
use Rattle.std.proofs.Common.{◌≡◌, ℕ, ◌+◌, ◌-◌, ◌<◌, ◌≤◌, ◌^◌, inl, inr, codes, true, false, not, ◌&&◌, ◌||◌, List, [], ◌∷◌, ◌++◌, length, take, min, get_or, Option, Some, None, option_map, is_some, Result, Ok, Err, refl, sym, ap, ◌∙◌, subst, arith, nat_lt, IfOk, length-append}
use Rattle.std.specs.List.{All, list_any}
use Rattle.std.specs.Cmp.Lexicographic.{nat_list_eq_equiv}
use Rattle.std.proofs.lemmas.Bool.{ltb-true, not-true, cases_lt, and_parts, or_parts}
use Rattle.std.proofs.lemmas.List.{length-replicate, length-set, map-append, get_or_past, take_all}
use Rattle.std.proofs.lemmas.List.Elements.{All-push, All-nil, All-set, All-get_or, All-weaker, All-replicate}
use Rattle.std.proofs.lemmas.Result.{IfOk-weaker}
use Rattle.serde_json.specs.Data.{Data}
use Rattle.yp_value.specs.Json.{member_of}
use Rattle.yp_base.specs.Results.{◌>>=◌, or_fault}
use Rattle.yp_base.specs.Types.{same_text, is_among, are_distinct}
use Rattle.yp_schema.specs.declared.schema.SchemaNode.{SchemaNode}
use Rattle.yp_schema.specs.Reading.{schema_of}
use Rattle.yp_journal.specs.declared.command.Command.{Command}
use Rattle.yp_journal.specs.declared.receiver.ReceiverInfo.{ReceiverInfo}
use Rattle.yp_command.specs.declared.fault.ScriptKind.TheVariants as kinds
use Rattle.yp_command.specs.declared.command.Request.{Request}
use Rattle.yp_command.specs.Commands.{IsCommandOf, CommandsMayCome}
use Rattle.yp_command.specs.Faults.{Said, said_map}
use Rattle.yp_command.specs.Names.{names_of, receiver_number}
use Rattle.yp_command.specs.Requests.{command_said}
use Rattle.yp_command.specs.Words.{text_at, where_true, whole_said, whole_there, is_yes}
use Rattle.yp_command.specs.CommandLaws.{command_is, of_more}
use Rattle.yp_command.specs.NameLaws.{none_there}
use Rattle.yp_command.specs.SaidLaws.{map_is, map_any, then_is, if_is, or_is, together_is, holding_is, where_is, whole_is, whole_there_is}
use Rattle.yp_script.specs.declared.lane.Laned.{Laned}
use Rattle.yp_script.specs.declared.fault.ScriptFault.{ScriptFault}
use Rattle.yp_script.specs.declared.form.Form.{Form}
use Rattle.yp_script.specs.declared.form.Form.TheVariants as forms
use Rattle.yp_script.specs.declared.script.Script.{Script}
use Rattle.yp_script.specs.declared.stage.Stage.{Stage}
use Rattle.yp_script.specs.declared.stage.Stage.TheVariants.{Opening, Started, Schemas, Receivers, Before, Within, After}
use Rattle.yp_script.specs.Commands.{HasBounds}
use Rattle.yp_script.specs.Faults.{LineFault}
use Rattle.yp_script.specs.Forms.{line_form}
use Rattle.yp_script.specs.Lines.{Line, pieces_of, lines_from}
use Rattle.yp_script.specs.Order.{next_stage}
use Rattle.yp_script.specs.Readings.{Gives}
use Rattle.yp_script.specs.Script.{Progress, no_progress, with_start, with_part, with_receiver, put_at, with_command, with_lanes, with_laned, schema_said, taken, at_stage, form_taken, line_taken, at_line, complete_start, script_at, script_from, script_of, IsReceiver, AreReceivers, MayRun}
use Rattle.yp_script.specs.Values.{is_receiver_name, is_user_name, is_new_name, has_receiver_form, takes_itself, name_said, user_said, places_said, receiver_of, receiver_said, lanes_said, laned_said, start_said}
use Rattle.yp_script.specs.SaidLaws.{line_is}

-- ---- receivers' names

among_more : (text other : List ℕ) (names : List (List ℕ)) → is_among text names ≡ false → same_text text other ≡ false → is_among text (names ++ other ∷ []) ≡ false
among_more text other [] among differs = ap (λ b. b || false) differs
among_more text other (name ∷ names) among differs =
    let parts = or_parts (same_text text name) (is_among text names) among in
    ap (λ b. b || is_among text (names ++ other ∷ [])) parts.0 ∙ among_more text other names parts.1 differs

-- names stay distinct where one is added that isn't there
distinct_more : (other : List ℕ) (names : List (List ℕ)) → are_distinct names ≡ true → list_any (same_text other) names ≡ false → are_distinct (names ++ other ∷ []) ≡ true
distinct_more other [] are new = refl
distinct_more other (name ∷ names) are new =
    let parts = and_parts (not (is_among name names)) (are_distinct names) are in
    let others = or_parts (same_text other name) (list_any (same_text other) names) new in
    let differs : same_text name other ≡ false = nat_list_eq_equiv.symm name other ∙ others.0 in
    ap (λ b. not b && are_distinct (names ++ other ∷ [])) (among_more name other names (not-true (is_among name names) parts.0) differs)
    ∙ distinct_more other names parts.1 others.1

-- ---- receivers

-- a receiver that may be declared beside others
record MayJoin (receivers : List ReceiverInfo) (receiver : ReceiverInfo) : Type 0 where
  is : IsReceiver receiver
  new : is_some (receiver_number receivers receiver.name) ≡ false
  room : length receivers + 1 ≤ 16

joined : (receivers : List ReceiverInfo) (receiver : ReceiverInfo) → AreReceivers receivers → MayJoin receivers receiver → AreReceivers (receivers ++ receiver ∷ [])
joined receivers receiver are may = record {
  few = omega (arith, length-append receivers (receiver ∷ []), may.room);
  distinct = ap are_distinct (map-append (λ (r : ReceiverInfo). r.name) receivers (receiver ∷ [])) ∙ distinct_more receiver.name (names_of receivers) are.distinct (none_there (same_text receiver.name) (names_of receivers) may.new);
  each = All-push IsReceiver receivers receiver are.each may.is;
}

named : (receivers : List ReceiverInfo) (name : List ℕ) → is_new_name receivers name ≡ true → (is_receiver_name name ≡ true) × (is_some (receiver_number receivers name) ≡ false)
named receivers name is =
    let parts = and_parts (is_receiver_name name) (not (is_some (receiver_number receivers name))) is in
    (parts.0, not-true (is_some (receiver_number receivers name)) parts.1)

places_are : (receivers : List ReceiverInfo) (json : Data) → IfOk (places_said receivers json) (λ places. (length receivers + 1 ≤ 16) × (1 ≤ places) × (places ≤ 32))
places_are receivers json =
    holding_is kinds.Limit (nat_lt (length receivers) 16) (whole_there 1 32 (member_of (codes "queue") json)) (λ places. (length receivers + 1 ≤ 16) × (1 ≤ places) × (places ≤ 32)) (λ room.
    IfOk-weaker (whole_there 1 32 (member_of (codes "queue") json)) (λ places. (1 ≤ places) × (places ≤ 32)) (λ places. (length receivers + 1 ≤ 16) × (1 ≤ places) × (places ≤ 32))
    (λ n bounds. (let few : length receivers < 16 = ltb-true (length receivers) 16 room in omega arith, bounds.0, bounds.1)) (whole_there_is 1 32 (member_of (codes "queue") json)))

name_is : (receivers : List ReceiverInfo) (json : Data) → IfOk (name_said receivers json) (λ name. is_new_name receivers name ≡ true)
name_is receivers json = or_is kinds.Member (where_true (is_new_name receivers) (text_at (codes "name") json)) (λ name. is_new_name receivers name ≡ true) (where_is (is_new_name receivers) (text_at (codes "name") json))

user_is : (json : Data) → IfOk (user_said json) (λ user. is_user_name user ≡ true)
user_is json = or_is kinds.Member (where_true is_user_name (text_at (codes "user") json)) (λ user. is_user_name user ≡ true) (where_is is_user_name (text_at (codes "user") json))

receiver_is : (receivers : List ReceiverInfo) (json : Data) → IfOk (receiver_said receivers json) (MayJoin receivers)
receiver_is receivers json =
    if_is kinds.Member (has_receiver_form json) (name_said receivers json >>= (λ name. user_said json >>= (λ user. said_map (receiver_of name user (takes_itself json)) (places_said receivers json)))) (MayJoin receivers) (λ form.
    then_is (name_said receivers json) (λ name. user_said json >>= (λ user. said_map (receiver_of name user (takes_itself json)) (places_said receivers json))) (λ name. is_new_name receivers name ≡ true) (MayJoin receivers) (name_is receivers json) (λ name is_name.
    then_is (user_said json) (λ user. said_map (receiver_of name user (takes_itself json)) (places_said receivers json)) (λ user. is_user_name user ≡ true) (MayJoin receivers) (user_is json) (λ user is_user.
    map_is (receiver_of name user (takes_itself json)) (places_said receivers json) (λ places. (length receivers + 1 ≤ 16) × (1 ≤ places) × (places ≤ 32)) (MayJoin receivers) (places_are receivers json) (λ places bounds.
    let new = named receivers name is_name in
    record {
      is = record { name = new.0; user = is_user; some = bounds.1; most = bounds.2 };
      new = new.1;
      room = bounds.0;
    }))))

-- ---- commands

-- receivers are fewer than numbers of 32 bits
few_are : (receivers : List ReceiverInfo) → AreReceivers receivers → length receivers < 2 ^ 32
few_are receivers are = omega (arith, are.few)

all_more : (nodes : List SchemaNode) (receivers : List ReceiverInfo) (receiver : ReceiverInfo) (gathered : List Command) → length (receivers ++ receiver ∷ []) < 2 ^ 32 → All (IsCommandOf nodes receivers) gathered → All (IsCommandOf nodes (receivers ++ receiver ∷ [])) gathered
all_more nodes receivers receiver gathered few are = All-weaker (IsCommandOf nodes receivers) (IsCommandOf nodes (receivers ++ receiver ∷ [])) (λ command is. of_more nodes receivers receiver command few is) gathered are

laned_is : (nodes : List SchemaNode) (start : Option ℕ) (receivers : List ReceiverInfo) (count : ℕ) (place : Data) (request : Request Data) → length receivers < 2 ^ 32 → IfOk (laned_said nodes start receivers count place request) (λ laned. IsCommandOf nodes receivers laned.command)
laned_is nodes start receivers count place request few =
    together_is (λ lane command. record { lane = lane; command = command }) (whole_said 1 count place) (command_said nodes start receivers request) (IsCommandOf nodes receivers) (λ laned. IsCommandOf nodes receivers laned.command)
    (command_is nodes start receivers request few) (λ lane command is. is)

-- ---- commands come after the schema

-- before the receivers there is no command
abbrev IsBare : Stage → List Command → List (List Command) → List Command → Type 0
IsBare Opening first laned last = (first ≡ []) × (laned ≡ []) × (last ≡ [])
IsBare Started first laned last = (first ≡ []) × (laned ≡ []) × (last ≡ [])
IsBare Schemas first laned last = (first ≡ []) × (laned ≡ []) × (last ≡ [])
IsBare other first laned last = Unit {0}

abbrev Bare : Progress → Type 0
Bare progress = IsBare progress.stage progress.before progress.lanes progress.after

-- the same of a stage that is led to
abbrev IsBareAt : Option Stage → List Command → List (List Command) → List Command → Type 0
IsBareAt None first laned last = Unit {0}
IsBareAt (Some stage) first laned last = IsBare stage first laned last

module _ (first : List Command) (laned : List (List Command)) (last : List Command) where
  start_leads : (stage : Stage) (value : Data) → IsBare stage first laned last → IsBareAt (next_stage stage (forms.Start value)) first laned last
  start_leads Opening value bare = bare
  start_leads other value bare = tt

  schema_leads : (stage : Stage) (value : Data) → IsBare stage first laned last → IsBareAt (next_stage stage (forms.Schema value)) first laned last
  schema_leads Started value bare = bare
  schema_leads Schemas value bare = bare
  schema_leads other value bare = tt

  receiver_leads : (stage : Stage) (value : Data) → IsBareAt (next_stage stage (forms.Receiver value)) first laned last
  receiver_leads Schemas value = tt
  receiver_leads Receivers value = tt
  receiver_leads other value = tt

  command_leads : (stage : Stage) (request : Request Data) → IsBareAt (next_stage stage (forms.Command request)) first laned last
  command_leads Schemas request = tt
  command_leads Receivers request = tt
  command_leads Before request = tt
  command_leads After request = tt
  command_leads other request = tt

  lanes_lead : (stage : Stage) (value : Data) → IsBareAt (next_stage stage (forms.Lanes value)) first laned last
  lanes_lead Schemas value = tt
  lanes_lead Receivers value = tt
  lanes_lead Before value = tt
  lanes_lead other value = tt

  lane_leads : (stage : Stage) (lane : Data) (request : Request Data) → IsBareAt (next_stage stage (forms.Lane lane request)) first laned last
  lane_leads Within lane request = tt
  lane_leads other lane request = tt

  join_leads : (stage : Stage) (value : Data) → IsBareAt (next_stage stage (forms.Join value)) first laned last
  join_leads Within value = tt
  join_leads other value = tt

  -- where a part of the schema may stand, no command came before it
  part_bare : (stage next : Stage) (value : Data) → next_stage stage (forms.Schema value) ≡ Some next → IsBare stage first laned last → (first ≡ []) × (laned ≡ []) × (last ≡ [])
  part_bare Started next value leads bare = bare
  part_bare Schemas next value leads bare = bare
  part_bare other next value leads bare = cc

-- ---- scripts

-- what a script keeps, and what it keeps so far
pub record Keeps (nodes : List SchemaNode) (known : List ReceiverInfo) (first : List Command) (laned : List (List Command)) (last : List Command) : Type 0 where
  pub receivers : AreReceivers known
  pub before : All (IsCommandOf nodes known) first
  pub lanes : All (All (IsCommandOf nodes known)) laned
  pub after : All (IsCommandOf nodes known) last
  pub few : length laned ≤ 64

abbrev Keep : Progress → Type 0
Keep progress = Keeps progress.schema progress.receivers progress.before progress.lanes progress.after

abbrev pub ScriptKeeps : Script → Type 0
ScriptKeeps script = Keeps script.schema script.receivers script.before script.lanes script.after

keeps_receiver : (progress : Progress) (receiver : ReceiverInfo) → Keep progress → MayJoin progress.receivers receiver → Keep (with_receiver progress receiver)
keeps_receiver progress receiver keeps may =
    let are : AreReceivers (progress.receivers ++ receiver ∷ []) = joined progress.receivers receiver keeps.receivers may in
    let few : length (progress.receivers ++ receiver ∷ []) < 2 ^ 32 = few_are (progress.receivers ++ receiver ∷ []) are in
    record {
      receivers = are;
      before = all_more progress.schema progress.receivers receiver progress.before few keeps.before;
      lanes =
          All-weaker (All (IsCommandOf progress.schema progress.receivers)) (All (IsCommandOf progress.schema (progress.receivers ++ receiver ∷ [])))
          (λ lane are. all_more progress.schema progress.receivers receiver lane few are) progress.lanes keeps.lanes;
      after = all_more progress.schema progress.receivers receiver progress.after few keeps.after;
      few = keeps.few;
    }

-- of another schema, where there are no commands
keeps_part : (progress : Progress) (part : Data) (nodes : List SchemaNode) → Keep progress → (progress.before ≡ []) × (progress.lanes ≡ []) × (progress.after ≡ []) → Keep (with_part progress part nodes)
keeps_part progress part nodes keeps none = record {
  receivers = keeps.receivers;
  before = subst (All (IsCommandOf nodes progress.receivers)) (sym none.0) (All-nil (IsCommandOf nodes progress.receivers));
  lanes = subst (All (All (IsCommandOf nodes progress.receivers))) (sym none.1) (All-nil (All (IsCommandOf nodes progress.receivers)));
  after = subst (All (IsCommandOf nodes progress.receivers)) (sym none.2) (All-nil (IsCommandOf nodes progress.receivers));
  few = keeps.few;
}

keeps_command : (stage : Stage) (progress : Progress) (command : Command) → Keep progress → IsCommandOf progress.schema progress.receivers command → Keep (put_at stage progress command)
keeps_command After progress command keeps is =
    record { receivers = keeps.receivers; before = keeps.before; lanes = keeps.lanes; after = All-push (IsCommandOf progress.schema progress.receivers) progress.after command keeps.after is; few = keeps.few }
keeps_command other progress command keeps is =
    record { receivers = keeps.receivers; before = All-push (IsCommandOf progress.schema progress.receivers) progress.before command keeps.before is; lanes = keeps.lanes; after = keeps.after; few = keeps.few }

lane_at : {X : Type 0} (P : X → Type 0) (lanes : List (List X)) (place : ℕ) → All (All P) lanes → All P (get_or lanes place [])
lane_at P lanes place are =
    elim (cases_lt place (length lanes)) [
      | inl h ↦ All-get_or (All P) lanes place [] h are
      | inr h ↦ subst (All P) (sym (get_or_past lanes place [] h)) (All-nil P)
    ]

keeps_laned : (progress : Progress) (laned : Laned) → Keep progress → IsCommandOf progress.schema progress.receivers laned.command → Keep (with_laned progress laned)
keeps_laned progress laned keeps is =
    let Own = IsCommandOf progress.schema progress.receivers in
    let lane : All Own (get_or progress.lanes (laned.lane - 1) [] ++ laned.command ∷ []) =
    All-push Own (get_or progress.lanes (laned.lane - 1) []) laned.command (lane_at Own progress.lanes (laned.lane - 1) keeps.lanes) is in
    record {
      receivers = keeps.receivers;
      before = keeps.before;
      lanes = All-set (All Own) progress.lanes (laned.lane - 1) (get_or progress.lanes (laned.lane - 1) [] ++ laned.command ∷ []) lane keeps.lanes;
      after = keeps.after;
      few = omega (arith, keeps.few, length-set progress.lanes (laned.lane - 1) (get_or progress.lanes (laned.lane - 1) [] ++ laned.command ∷ []));
    }

-- what is kept where a line leads to a stage
abbrev KeepAt : Stage → Progress → Type 0
KeepAt stage progress = Keep progress × IsBare stage progress.before progress.lanes progress.after

-- a stage that a line leads to is the one that it is known to lead to
led : (leads : Option Stage) (stage : Stage) (first : List Command) (laned : List (List Command)) (last : List Command) → leads ≡ Some stage → IsBareAt leads first laned last → IsBare stage first laned last
led leads stage first laned last is bare = subst (λ (to : Option Stage). IsBareAt to first laned last) is bare

-- values that are taken leave what is kept
keeps_taken : (progress : Progress) (form : Form Data) (stage : Stage) → next_stage progress.stage form ≡ Some stage → Keep progress → Bare progress → IfOk (taken progress form) (KeepAt stage)
keeps_taken progress (forms.Start value) stage leads keeps bare =
    map_any (with_start progress) (start_said value) (KeepAt stage)
    (λ start. (keeps, led (next_stage progress.stage (forms.Start value)) stage progress.before progress.lanes progress.after leads (start_leads progress.before progress.lanes progress.after progress.stage value bare)))
keeps_taken progress (forms.Schema value) stage leads keeps bare =
    map_any (with_part progress value) (schema_said (schema_of (progress.parts ++ value ∷ []))) (KeepAt stage)
    (λ nodes. (
      keeps_part progress value nodes keeps (part_bare progress.before progress.lanes progress.after progress.stage stage value leads bare),
      led (next_stage progress.stage (forms.Schema value)) stage progress.before progress.lanes progress.after leads (schema_leads progress.before progress.lanes progress.after progress.stage value bare),
    ))
keeps_taken progress (forms.Receiver value) stage leads keeps bare =
    map_is (with_receiver progress) (receiver_said progress.receivers value) (MayJoin progress.receivers) (KeepAt stage) (receiver_is progress.receivers value)
    (λ receiver may. (
      keeps_receiver progress receiver keeps may,
      led (next_stage progress.stage (forms.Receiver value)) stage progress.before progress.lanes progress.after leads (receiver_leads progress.before progress.lanes progress.after progress.stage value),
    ))
keeps_taken progress (forms.Command request) stage leads keeps bare =
    map_is (with_command progress) (command_said progress.schema progress.start progress.receivers request) (IsCommandOf progress.schema progress.receivers) (KeepAt stage)
    (command_is progress.schema progress.start progress.receivers request (few_are progress.receivers keeps.receivers))
    (λ command is.
    let next = with_command progress command in (
      keeps_command progress.stage progress command keeps is,
      led (next_stage progress.stage (forms.Command request)) stage next.before next.lanes next.after leads (command_leads next.before next.lanes next.after progress.stage request),
    ))
keeps_taken progress (forms.Lanes value) stage leads keeps bare =
    map_is (with_lanes progress) (lanes_said value) (λ n. (1 ≤ n) × (n ≤ 64)) (KeepAt stage) (whole_is 1 64 value)
    (λ count bounds.
    let next = with_lanes progress count in (
      record {
        receivers = keeps.receivers;
        before = keeps.before;
        lanes = All-replicate (All (IsCommandOf progress.schema progress.receivers)) count [] (All-nil (IsCommandOf progress.schema progress.receivers));
        after = keeps.after;
        few = omega (arith, bounds, length-replicate {A = List Command} count []);
      },
      led (next_stage progress.stage (forms.Lanes value)) stage next.before next.lanes next.after leads (lanes_lead next.before next.lanes next.after progress.stage value),
    ))
keeps_taken progress (forms.Lane lane request) stage leads keeps bare =
    map_is (with_laned progress) (laned_said progress.schema progress.start progress.receivers (length progress.lanes) lane request) (λ laned. IsCommandOf progress.schema progress.receivers laned.command) (KeepAt stage)
    (laned_is progress.schema progress.start progress.receivers (length progress.lanes) lane request (few_are progress.receivers keeps.receivers))
    (λ laned is.
    let next = with_laned progress laned in (
      keeps_laned progress laned keeps is,
      led (next_stage progress.stage (forms.Lane lane request)) stage next.before next.lanes next.after leads (lane_leads next.before next.lanes next.after progress.stage lane request),
    ))
keeps_taken progress (forms.Join value) stage leads keeps bare =
    if_is kinds.Member (is_yes value) (Ok progress) (KeepAt stage)
    (λ yes. (keeps, led (next_stage progress.stage (forms.Join value)) stage progress.before progress.lanes progress.after leads (join_leads progress.before progress.lanes progress.after progress.stage value)))

-- what is kept after a line
abbrev Kept : Progress → Type 0
Kept progress = Keep progress × Bare progress

unstaged : (said : Said Progress) → IfOk (at_stage None said) Kept
unstaged (Ok progress) = tt
unstaged (Err kind) = tt

keeps_staged : (progress : Progress) (form : Form Data) (next : Option Stage) → next_stage progress.stage form ≡ next → Kept progress → IfOk (at_stage next (taken progress form)) Kept
keeps_staged progress form None leads kept = unstaged (taken progress form)
keeps_staged progress form (Some stage) leads kept =
    map_is (λ (progress : Progress). record progress { stage = stage }) (taken progress form) (KeepAt stage) Kept (keeps_taken progress form stage leads kept.0 kept.1) (λ progress keep. keep)

keeps_line : (progress : Progress) (json : Said Data) → Kept progress → IfOk (line_taken progress json) Kept
keeps_line progress (Err kind) kept = tt
keeps_line progress (Ok value) kept =
    then_is (or_fault kinds.UnknownCommand (line_form value)) (form_taken progress) (λ form. Unit {0}) Kept (any_form (line_form value)) (λ form any. keeps_staged progress form (next_stage progress.stage form) refl kept)
  where
    any_form : (form : Option (Form Data)) → IfOk (or_fault kinds.UnknownCommand form) (λ form. Unit {0})
    any_form None = tt
    any_form (Some form) = tt

keeps_end : (progress : Progress) (start : Option ℕ) → Keep progress → IfOk (or_fault kinds.Order (option_map (script_at progress) start)) ScriptKeeps
keeps_end progress None keeps = tt
keeps_end progress (Some start) keeps = keeps

keeps_lines : (end : ℕ) (progress : Progress) (lines : List Line) → Kept progress → IfOk (script_from end progress lines) ScriptKeeps
keeps_lines end progress [] kept =
    line_is end (or_fault kinds.Order (option_map (script_at progress) (complete_start progress.stage progress.start))) ScriptKeeps (keeps_end progress (complete_start progress.stage progress.start) kept.0)
keeps_lines end progress (line ∷ lines) kept =
    then_is (at_line line.number (line_taken progress line.json)) (λ next. script_from end next lines) Kept ScriptKeeps
    (line_is line.number (line_taken progress line.json) Kept (keeps_line progress line.json kept))
    (λ next keep. keeps_lines end next lines keep)

no_receivers : AreReceivers []
no_receivers = record { few = omega arith; distinct = refl; each = All-nil IsReceiver }

script_keeps : (end : ℕ) (lines : List Line) → IfOk (script_from end no_progress lines) ScriptKeeps
script_keeps end lines =
    keeps_lines end no_progress lines
    (record { receivers = no_receivers; before = All-nil (IsCommandOf [] []); lanes = All-nil (All (IsCommandOf [] [])); after = All-nil (IsCommandOf [] []); few = omega arith }, (refl, refl, refl))

-- ---- what a journal of its receivers takes

may_run : CommandsMayCome → (script : Script) → ScriptKeeps script → HasBounds script → MayRun script
may_run may script keeps few = record {
  before = λ k d h. may script.schema script.receivers (get_or script.before k d) (keeps.before k d h) (few.before k d h);
  lanes = λ k d h. λ j e g. may script.schema script.receivers (get_or (get_or script.lanes k d) j e) (keeps.lanes k d h j e g) (few.lanes k d h j e g);
  after = λ k d h. may script.schema script.receivers (get_or script.after k d) (keeps.after k d h) (few.after k d h);
}

-- ---- what is read

pub read_keeps : (r : Result Script ScriptFault) (text : List ℕ) → Gives r (script_of text) → IfOk r ScriptKeeps
read_keeps (Ok script) text is = subst (λ (read : Result Script LineFault). IfOk read ScriptKeeps) is (script_keeps (length (pieces_of text) + 1) (lines_from 0 0 (pieces_of text)))
read_keeps (Err fault) text is = tt

pub read_receivers : (r : Result Script ScriptFault) → IfOk r ScriptKeeps → IfOk r (λ script. AreReceivers script.receivers)
read_receivers (Ok script) keeps = keeps.receivers
read_receivers (Err fault) keeps = tt

pub read_lanes : (r : Result Script ScriptFault) → IfOk r ScriptKeeps → IfOk r (λ script. length script.lanes ≤ 64)
read_lanes (Ok script) keeps = keeps.few
read_lanes (Err fault) keeps = tt

pub read_commands : CommandsMayCome → (r : Result Script ScriptFault) → IfOk r ScriptKeeps → IfOk r HasBounds → IfOk r MayRun
read_commands may (Ok script) keeps few = may_run may script keeps few
read_commands may (Err fault) keeps few = tt

-- nothing past so many bytes is looked at
pub take_least : (bytes : List ℕ) (most front : ℕ) → front ≡ min (length bytes) most → take front bytes ≡ take most bytes
take_least bytes most front is =
    elim (cases_lt most (length bytes)) [
      | inl h ↦ ap (λ n. take n bytes) (let e : front ≡ most = omega arith in e)
      | inr h ↦ take_all front bytes (omega arith) ∙ sym (take_all most bytes h)
    ]
