use Rattle.std.proofs.Common.{◌≡◌, List, refl}
use Rattle.std.specs.Prelude.{◌↔◌, Result, Ok, Err, IfOk, IfErr, Contains}
use Rattle.serde_json.specs.Data.{Data}
use Rattle.serde_json.specs.View.{view}
use Rattle.yp_base.specs.declared.path.Seg.{Seg}
use Rattle.yp_base.specs.declared.row.Row.{Row}
use Rattle.yp_schema.specs.declared.schema.SchemaNode.{SchemaNode}
use Rattle.yp_data_json.specs.declared.fault.DataFault.{DataFault}
use Rattle.yp_data_json.specs.declared.fault.DataFault.TheVariants.{UnknownElement, InvalidValue, MissingKey, RepeatedKey, Memory}
use Rattle.yp_data_json.specs.Reading.{Gives}
use Rattle.yp_data_json.specs.AtPath.{rows_read}
use Rattle.yp_data_json.specs.Holding.{IsDataAt, HoldsAt}
use Rattle.data_cases.proofs.data.held_rows.Goals as goal

held : (nodes : List SchemaNode) (at : List Seg) (d : Data) (result : Result (List Row) DataFault) → Gives result (rows_read nodes at d)
    → ((rows : List Row) → rows_read nodes at d ≡ Ok rows → (row : Row) → Contains rows row ↔ HoldsAt nodes at d row) → IfOk result (λ rows. (row : Row) → Contains rows row ↔ HoldsAt nodes at d row)
held nodes at d (Ok rows) read law = law rows read
held nodes at d (Err e) read law = tt

pub returns-clause-rows : goal.returns-clause-rows
returns-clause-rows c =
    held c.args.schema.now c.args.at.now (view c.args.json.now) c.read_rows.result c.read_rows.ensures.read
    (λ rows read. c.accepted_data_holds_its_rows.ensures.rows c.args.schema.now c.args.at.now (view c.args.json.now) rows c.stands.ensures c.requires c.names_stand_once.ensures read)

refused_at : (nodes : List SchemaNode) (at : List Seg) (d : Data) (fault : DataFault) → Gives (Err fault) (rows_read nodes at d) → (rows : List Row) → rows_read nodes at d ≡ Ok rows → fault ≡ Memory
refused_at nodes at d UnknownElement read rows is = let no : ⊥ = cc in absurd no
refused_at nodes at d InvalidValue read rows is = let no : ⊥ = cc in absurd no
refused_at nodes at d MissingKey read rows is = let no : ⊥ = cc in absurd no
refused_at nodes at d RepeatedKey read rows is = let no : ⊥ = cc in absurd no
refused_at nodes at d Memory read rows is = refl

refused : (nodes : List SchemaNode) (at : List Seg) (d : Data) (result : Result (List Row) DataFault) → Gives result (rows_read nodes at d)
    → (IsDataAt nodes at d → (rows : List Row) × (rows_read nodes at d ≡ Ok rows)) → IfErr result (λ fault. IsDataAt nodes at d → fault ≡ Memory)
refused nodes at d (Ok rows) read law = tt
refused nodes at d (Err fault) read law = λ is. let all = law is in refused_at nodes at d fault read all.0 all.1

pub returns-clause-refused : goal.returns-clause-refused
returns-clause-refused c =
    refused c.args.schema.now c.args.at.now (view c.args.json.now) c.read_rows.result c.read_rows.ensures.read
    (λ is. c.accepted_data_holds_its_rows.ensures.is_read c.args.schema.now c.args.at.now (view c.args.json.now) c.stands.ensures c.requires c.names_stand_once.ensures is)
