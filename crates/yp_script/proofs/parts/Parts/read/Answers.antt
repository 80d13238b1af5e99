use Rattle.std.proofs.Common.{◌≡◌, ℕ, ◌<◌, List, length, map, Err, sym, ap, ◌∙◌, arith}
use Rattle.std.proofs.lemmas.List.{length-map}
use Rattle.serde_json.specs.declared.value.Value.{Value}
use Rattle.serde_json.specs.View.{view}
use Rattle.yp_schema.specs.Reading.{schema_of}
use Rattle.yp_schema.specs.Rounds.{fault_at}
use Rattle.yp_command.specs.declared.fault.ScriptKind.TheVariants.{Schema}
use Rattle.yp_script.specs.Readings.{at_part}
use Rattle.yp_script.proofs.PartLaws.{fault_within, line_there}
use Rattle.yp_script.proofs.parts.Parts.read.Goals as goal

pub index-requires : goal.index-requires
index-requires c =
    let fault = fault_at c.in-Err-At.part c.in-Err-At.place c.in-Err-At.kind in
    let read : schema_of (map view c.as_slice.result.now) ≡ Err fault = rw c.in-Err-At.field-0-is at c.in-Err-At.ensures.read in
    let within : c.in-Err-At.part < length (map view c.as_slice.result.now) = fault_within (map view c.as_slice.result.now) fault read in
    omega (arith, within, length-map c.as_slice.result.now view, ap length c.as_slice.ensures.value, c.args.self.now.parts.ok.0, c.args.self.now.each)

pub returns-in-Err-At : goal.returns-in-Err-At
returns-in-Err-At c =
    let numbers = c.args.self.now.numbers.items in
    let fault = fault_at c.in-Err-At.part c.in-Err-At.place c.in-Err-At.kind in
    let read : schema_of (map view c.as_slice.result.now) ≡ Err fault = rw c.in-Err-At.field-0-is at c.in-Err-At.ensures.read in
    let within : c.in-Err-At.part < length (map view c.as_slice.result.now) = fault_within (map view c.as_slice.result.now) fault read in
    let there : c.in-Err-At.part < length numbers =
    omega (arith, within, length-map c.as_slice.result.now view, ap length c.as_slice.ensures.value, c.args.self.now.parts.ok.0, c.args.self.now.numbers.ok.0, c.args.self.now.each) in
    rw c.node_flaw.ensures
    (ap (λ (parts : List Value). at_part numbers (schema_of (map view parts))) (sym c.as_slice.ensures.value)
    ∙ ap (at_part numbers) read
    ∙ ap (λ (line : ℕ). Err (record { line = line; kind = Schema })) (line_there numbers c.in-Err-At.part c.index.result.now there c.index.ensures))
