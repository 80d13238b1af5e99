-- The order of a script's lines: a start; schema lines, one at least; receivers; commands; lanes and their end, which may be left out; commands.
use Rattle.std.specs.Prelude.{◌≡◌, ◌∷◌, [], ◌++◌, List, map, Bool, true, false, Option, Some, None}
use Rattle.serde_json.specs.Data.{Data}
use Rattle.yp_command.specs.declared.command.Request.{Request}
use Rattle.yp_script.specs.declared.form.Form.{Form}
use Rattle.yp_script.specs.declared.form.Form.TheVariants.{Start, Schema, Receiver, Command, Lanes, Lane, Join}
use Rattle.yp_script.specs.declared.stage.Stage.{Stage}
use Rattle.yp_script.specs.declared.stage.Stage.TheVariants.{Opening, Started, Schemas, Receivers, Before, Within, After}

-- the stage to which a line of a form leads, where it may stand at this one
abbrev pub next_stage : {V : Type 0} → Stage → Form V → Option Stage
next_stage Opening (Start value) = Some Started
next_stage Started (Schema value) = Some Schemas
next_stage Schemas (Schema value) = Some Schemas
next_stage Schemas (Receiver value) = Some Receivers
next_stage Schemas (Command request) = Some Before
next_stage Schemas (Lanes value) = Some Within
next_stage Receivers (Receiver value) = Some Receivers
next_stage Receivers (Command request) = Some Before
next_stage Receivers (Lanes value) = Some Within
next_stage Before (Command request) = Some Before
next_stage Before (Lanes value) = Some Within
next_stage Within (Lane lane request) = Some Within
next_stage Within (Join value) = Some After
next_stage After (Command request) = Some After
next_stage stage form = None

-- whether a script may end at a stage
abbrev pub is_complete : Stage → Bool
is_complete Opening = false
is_complete Started = false
is_complete Within = false
is_complete other = true

-- ---- whole scripts

-- the lanes of a script: how many, the lines of lanes, their end, and the commands after it
pub record LanesPart : Type 0 where
  pub count : Data
  pub within : List (Data × Request Data)
  pub end : Data
  pub after : List (Request Data)

abbrev pub lanes_part : Option LanesPart → List (Form Data)
lanes_part None = []
lanes_part (Some part) = Lanes part.count ∷ map (λ line. Lane line.0 line.1) part.within ++ Join part.end ∷ map Command part.after

-- the forms of a script's lines: a start; parts of the schema, one at least; receivers; commands; and the lanes' part, where there is one
pub record InOrder (forms : List (Form Data)) : Type 0 where
  pub start : Data
  pub first : Data
  pub parts : List Data
  pub receivers : List Data
  pub before : List (Request Data)
  pub lanes : Option LanesPart
  pub all : forms ≡ Start start ∷ (Schema first ∷ map Schema parts ++ (map Receiver receivers ++ (map Command before ++ lanes_part lanes)))
