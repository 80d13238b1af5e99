use Rattle.std.proofs.Common.{map, subst}
use Rattle.std.specs.List.{AllByRecursion}
use Rattle.yp_base.specs.Rows.{row_of}
use Rattle.yp_schema.specs.Datastore.{IsRowOf}
use Rattle.yp_schema.specs.SchemaLaws.{row_path}
use Rattle.yp_touch.proofs.looking.look_at_rows.Goals as goal

pub look_at-requires-clause-path : goal.look_at-requires-clause-path
look_at-requires-clause-path g c =
    row_path c.args.sides.now.schema.now (row_of (c.in-Some.row.0.now, c.in-Some.row.1.now))
    (subst (λ rows. AllByRecursion (IsRowOf c.args.sides.now.schema.now) (map (λ each. row_of (each.0.now, each.1.now)) rows)) c.in-Some.ensures.steps.0 c.loop-row.invariant.of_schema).0
