-- The form of a line of a script, with the values that stand in it: a line is a JSON object of one member, or of two in a lane.
use Rattle.std.specs.Prelude.{ℕ, List, Option, Some, None, option_map, option_and_then, if◌then◌else◌, codes}
use Rattle.std.specs.Borrow.{Bor}
use Rattle.serde_json.specs.Data.{Data}
use Rattle.serde_json.specs.View.{view}
use Rattle.serde_json.specs.declared.value.Value.{Value}
use Rattle.yp_value.specs.Json.{member_of}
use Rattle.yp_base.specs.Types.{same_text}
use Rattle.yp_command.specs.Requests.{request_named, request_in, seen_request}
use Rattle.yp_command.specs.Words.{has_count, sole_member}
use Rattle.yp_script.specs.declared.form.Form.{Form}
use Rattle.yp_script.specs.declared.form.Form.TheVariants.{Start, Schema, Receiver, Command, Lanes, Lane, Join}

-- ---- lines

-- the form of a line whose only member has this name and this value
abbrev pub form_named : List ℕ → Data → Option (Form Data)
form_named name value =
    if same_text name (codes "start") then Some (Start value)
    else (if same_text name (codes "schema") then Some (Schema value)
    else (if same_text name (codes "receiver") then Some (Receiver value)
    else (if same_text name (codes "lanes") then Some (Lanes value)
    else (if same_text name (codes "join") then Some (Join value)
    else option_map Command (request_named name value)))))

-- the form of a line of a lane: the number of the lane, and what is done there
abbrev pub lane_form : Data → Option (Form Data)
lane_form json =
    if has_count 2 json
    then option_and_then (λ lane. option_map (Lane lane) (option_and_then request_in (member_of (codes "do") json))) (member_of (codes "lane") json)
    else None

abbrev pub form_by : Option (List ℕ × Data) → Data → Option (Form Data)
form_by None json = lane_form json
form_by (Some member) json = form_named member.0 member.1

-- the form of a line, where it has one that is read
abbrev pub line_form : Data → Option (Form Data)
line_form json = form_by (sole_member json) json

-- the same as a contract sees it
abbrev pub seen_form : Form (Bor Value) → Form Data
seen_form (Start value) = Start (view value.now)
seen_form (Schema value) = Schema (view value.now)
seen_form (Receiver value) = Receiver (view value.now)
seen_form (Command request) = Command (seen_request request)
seen_form (Lanes value) = Lanes (view value.now)
seen_form (Lane lane request) = Lane (view lane.now) (seen_request request)
seen_form (Join value) = Join (view value.now)
