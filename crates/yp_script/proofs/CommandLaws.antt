-- What a reader holds after a command.
use Rattle.std.proofs.Common.{◌≡◌, ℕ, List, length, Ok, Err, sym, ap, ◌∙◌}
use Rattle.std.proofs.lemmas.List.{length-map}
use Rattle.serde_json.specs.Data.{Data}
use Rattle.yp_schema.specs.declared.schema.SchemaNode.{SchemaNode}
use Rattle.yp_journal.specs.declared.command.Command.{Command}
use Rattle.yp_command.specs.declared.command.Request.{Request}
use Rattle.yp_command.specs.declared.halt.Halt.{Halt}
use Rattle.yp_command.specs.declared.halt.Halt.TheVariants as halts
use Rattle.yp_command.specs.Faults.{Said, said_map, together}
use Rattle.yp_command.specs.Readings.{Halts}
use Rattle.yp_command.specs.Requests.{command_said}
use Rattle.yp_command.specs.Words.{whole_said}
use Rattle.yp_script.specs.declared.lane.Laned.{Laned}
use Rattle.yp_script.specs.declared.form.Form.TheVariants as forms
use Rattle.yp_script.specs.declared.gathered.Gathered.{Gathered}
use Rattle.yp_script.specs.declared.reader.Reader.{Reader}
use Rattle.yp_script.specs.Readers.{progress_with, schema_in, Added, Adds}
use Rattle.yp_script.specs.Script.{Progress, with_command, with_laned}
use Rattle.yp_script.specs.Values.{laned_said}

-- reading a command leaves what is held
pub record Same (old mid : Reader) : Type 0 where
  pub schema : schema_in mid ≡ schema_in old
  pub held : (nodes : List SchemaNode) → progress_with mid nodes ≡ progress_with old nodes

module _ (old mid new : Reader) (same : Same old mid) where
  -- a command outside the lanes
  pub added_command : (request : Request Data) (command : Command)
      → ((nodes : List SchemaNode) → schema_in old ≡ Ok nodes → command_said nodes old.start old.receivers request ≡ Ok command)
      → schema_in new ≡ schema_in mid → ((nodes : List SchemaNode) → progress_with new nodes ≡ with_command (progress_with mid nodes) command) → Added old new (forms.Command request)
  added_command request command said parts put = record {
    schema = parts ∙ same.schema;
    taken = λ nodes known.
        ap (said_map (with_command (progress_with old nodes))) (said nodes known)
        ∙ ap (λ (progress : Progress). Ok (with_command progress command)) (sym (same.held nodes))
        ∙ ap (λ (progress : Progress). Ok progress) (sym (put nodes));
  }

  -- a command of a lane
  pub added_laned : (place : Data) (request : Request Data) (laned : Laned)
      → ((nodes : List SchemaNode) → schema_in old ≡ Ok nodes → laned_said nodes old.start old.receivers (length (progress_with old nodes).lanes) place request ≡ Ok laned)
      → schema_in new ≡ schema_in mid → ((nodes : List SchemaNode) → progress_with new nodes ≡ with_laned (progress_with mid nodes) laned) → Added old new (forms.Lane place request)
  added_laned place request laned said parts put = record {
    schema = parts ∙ same.schema;
    taken = λ nodes known.
        ap (said_map (with_laned (progress_with old nodes))) (said nodes known)
        ∙ ap (λ (progress : Progress). Ok (with_laned progress laned)) (sym (same.held nodes))
        ∙ ap (λ (progress : Progress). Ok progress) (sym (put nodes));
  }

module _ (old mid : Reader) (same : Same old mid) where
  -- what a lane line says, by its number and its command
  pub laned_read : (count : ℕ) (lane : Said ℕ) (place : Data) (request : Request Data) (nodes : List SchemaNode) → count ≡ length mid.lanes.items → lane ≡ whole_said 1 count place
      → laned_said nodes old.start old.receivers (length (progress_with old nodes).lanes) place request ≡ together (λ lane command. record { lane = lane; command = command }) lane (command_said nodes old.start old.receivers request)
  laned_read count lane place request nodes many is =
      let as_many : length (progress_with old nodes).lanes ≡ count =
      ap (λ (progress : Progress). length progress.lanes) (sym (same.held nodes)) ∙ length-map mid.lanes.items (λ (lane : Gathered). lane.commands.items) ∙ sym many in
      ap (λ (n : ℕ). laned_said nodes old.start old.receivers n place request) as_many
      ∙ ap (λ (read : Said ℕ). together (λ lane command. (let laned : Laned = record { lane = lane; command = command } in laned)) read (command_said nodes old.start old.receivers request)) (sym is)

  -- what stops a command of a lane
  pub stops_laned : (place : Data) (request : Request Data) (halt : Halt)
      → ((nodes : List SchemaNode) → schema_in old ≡ Ok nodes → Halts halt (laned_said nodes old.start old.receivers (length (progress_with old nodes).lanes) place request))
      → Adds {U = Unit {0}} (Err halt) old mid (forms.Lane place request)
  stops_laned place request (halts.Fault own) said = record { schema = same.schema; fault = λ nodes known. ap (said_map (with_laned (progress_with old nodes))) (said nodes known) }
  stops_laned place request halts.Memory said = tt
