use Rattle.std.proofs.Common.{sym, ap, ◌∙◌}
use Rattle.yp_base.specs.Paths.{last_node}
use Rattle.yp_schema.specs.Datastore.{is_key_at}
use Rattle.yp_schema.specs.SchemaLaws.{last_node_append, open_place}
use Rattle.yp_schema.proofs.schema.Schema.ends_in_key.Goals as goal

pub returns-in-Some-clause-ends : goal.returns-in-Some-clause-ends
returns-in-Some-clause-ends c =
    c.is_key_node.ensures
    ∙ sym (ap (is_key_at c.args.self.now) (ap last_node (sym c.items.ensures ∙ c.in-Some.ensures.cases.0) ∙ last_node_append c.in-Some.field-0-1.now c.in-Some.end.now))

pub returns-in-Some-clause-place : goal.returns-in-Some-clause-place
returns-in-Some-clause-place c is open_end = open_place c.args.self.now c.args.path.now is (sym (returns-in-Some-clause-ends c) ∙ open_end)
