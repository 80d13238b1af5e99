use Rattle.std.proofs.Common.{◌≡◌, List, true, sym, subst, ◌∙◌}
use Rattle.serde_json.specs.View.{view}
use Rattle.yp_base.specs.declared.path.Seg.{Seg}
use Rattle.yp_schema.specs.Datastore.{is_place}
use Rattle.serde_json.specs.Data.{object, member, no_members}
use Rattle.yp_data_json.specs.AtPath.{rows_read}
use Rattle.yp_data_json.specs.Reading.{Gives, Fails}
use Rattle.yp_data_json.proofs.OneMember.{unknown, named, named_leaf}
use Rattle.yp_data_json.proofs.Places.{place_within}
use Rattle.yp_data_json.proofs.at_path.read_member.Goals as goal

pub is_qualified-requires : goal.is_qualified-requires
is_qualified-requires c =
    place_within c.args.schema.now c.args.above.now c.args.last.now
    (subst (λ (path : List Seg). is_place c.args.schema.now path ≡ true) c.requires.parts c.requires.place)

pub kind-requires : goal.kind-requires
kind-requires c =
    place_within c.args.schema.now c.args.above.now c.args.last.now
    (subst (λ (path : List Seg). is_place c.args.schema.now path ≡ true) c.requires.parts c.requires.place)

pub read_node_rows-requires : goal.read_node_rows-requires
read_node_rows-requires c =
    place_within c.args.schema.now c.args.above.now c.args.last.now
    (subst (λ (path : List Seg). is_place c.args.schema.now path ≡ true) c.requires.parts c.requires.place)

pub returns-then-not-is_qualified : goal.returns-then-not-is_qualified
returns-then-not-is_qualified c =
    subst (λ fault. Fails fault (rows_read c.args.schema.now c.args.at.now (object (member c.args.name.now (view c.args.json.now) no_members)))) (sym c.unknown.ensures)
    (unknown c.args.schema.now c.args.at.now c.args.above.now c.args.last.now c.args.name.now (view c.args.json.now) c.requires.parts
    (sym c.is_qualified.ensures ∙ c.if-not-is_qualified.true))

pub returns-in-Leaf : goal.returns-in-Leaf
returns-in-Leaf c =
    subst (λ read. Gives c.read_leaf_row.result read)
    (named_leaf c.args.schema.now c.args.at.now c.args.above.now c.args.last.now c.args.name.now (view c.args.json.now) c.requires.parts
    (sym c.is_qualified.ensures ∙ c.if-not-is_qualified.false) c.requires.place (sym c.in-Leaf.ensures))
    c.read_leaf_row.ensures

pub returns-in_default : goal.returns-in_default
returns-in_default c =
    subst (λ read. Gives c.read_node_rows.result read)
    (named c.args.schema.now c.args.at.now c.args.above.now c.args.last.now c.args.name.now (view c.args.json.now) c.requires.parts
    (sym c.is_qualified.ensures ∙ c.if-not-is_qualified.false))
    c.read_node_rows.ensures
