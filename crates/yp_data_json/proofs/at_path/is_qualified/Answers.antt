use Rattle.std.proofs.Common.{◌∙◌, ◌∷◌}
use Rattle.yp_schema.specs.Nodes.{node_at}
use Rattle.yp_data_json.proofs.OneMember.{begins_otherwise, begins_with}
use Rattle.yp_data_json.proofs.at_path.is_qualified.Goals as goal

pub returns-in-Some : goal.returns-in-Some
returns-in-Some c =
    begins_with (node_at c.args.node c.args.schema.now).home c.args.name.now (node_at c.args.node c.args.schema.now).name c.as_bytes-2.result.now c.as_bytes.result.now c.name.result.now c.in-Some.rest.now c.is_colon_and.result
    (c.as_bytes-2.ensures.value ∙ c.module.ensures) c.as_bytes.ensures.value c.name.ensures c.in-Some.ensures.cases.0 c.in-Some.ensures.cases.1 c.is_colon_and.ensures

pub returns-in-None : goal.returns-in-None
returns-in-None c =
    begins_otherwise (node_at c.args.node c.args.schema.now).home c.args.name.now (58 ∷ (node_at c.args.node c.args.schema.now).name) c.as_bytes-2.result.now c.as_bytes.result.now
    (c.as_bytes-2.ensures.value ∙ c.module.ensures) c.as_bytes.ensures.value c.in-None.ensures.cases
