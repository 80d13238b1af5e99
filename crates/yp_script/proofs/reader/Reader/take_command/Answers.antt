use Rattle.std.proofs.Common.{map, ap}
use Rattle.serde_json.specs.View.{view}
use Rattle.yp_schema.specs.Reading.{schema_of}
use Rattle.yp_command.specs.Requests.{seen_request}
use Rattle.yp_script.specs.declared.parts.Parts.{Parts}
use Rattle.yp_script.specs.Readings.{at_part}
use Rattle.yp_script.proofs.CommandLaws.{added_command}
use Rattle.yp_script.proofs.reader.Reader.take_command.Goals as goal

pub returns : goal.returns
returns c =
    added_command c.args.self.now c.read_asked.new.self c.put_command.new.self (record { schema = c.in_ok-command.ensures.schema; held = c.in_ok-command.ensures.same }) (seen_request c.args.request)
    c.in_ok-command.command c.in_ok-command.ensures.said (ap (λ (parts : Parts). at_part parts.numbers.items (schema_of (map view parts.parts.items))) c.in_ok-put_command.ensures.parts)
    c.in_ok-put_command.ensures.put
