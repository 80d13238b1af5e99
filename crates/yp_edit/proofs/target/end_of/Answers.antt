use Rattle.std.proofs.Common.{sym, ap, ◌∙◌}
use Rattle.yp_base.specs.Paths.{last_node}
use Rattle.yp_schema.specs.SchemaLaws.{last_node_append}
use Rattle.yp_edit.proofs.target.end_of.Goals as goal

pub returns-in-Some : goal.returns-in-Some
returns-in-Some c = sym (ap last_node (sym c.items.ensures ∙ c.in-Some.ensures.cases.0) ∙ last_node_append c.in-Some.field-0-1.now c.in-Some.last.now)
