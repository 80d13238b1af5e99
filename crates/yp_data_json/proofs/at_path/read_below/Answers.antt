use Rattle.std.proofs.Common.{◌≡◌, List, true, sym, ap, subst, ◌∙◌}
use Rattle.serde_json.specs.View.{view}
use Rattle.yp_base.specs.declared.path.Seg.{Seg}
use Rattle.yp_schema.specs.Datastore.{is_place}
use Rattle.yp_data_json.specs.Reading.{Gives}
use Rattle.yp_data_json.specs.AtPath.{object_read, rows_read}
use Rattle.yp_data_json.proofs.Places.{rows_last, place_within}
use Rattle.yp_data_json.proofs.at_path.read_below.Goals as goal

pub read_object-requires : goal.read_object-requires
read_object-requires c =
    place_within c.args.schema.now c.args.above.now c.args.last.now
    (subst (λ (path : List Seg). is_place c.args.schema.now path ≡ true) c.requires.parts c.requires.place)

pub returns-in_ok-above-in-None : goal.returns-in_ok-above-in-None
returns-in_ok-above-in-None c =
    let schema = c.args.schema.now in
    let last = c.args.last.now in
    let d = view c.args.json.now in
    subst (λ read. Gives c.read_object.result read)
    (ap (λ (path : List Seg). object_read schema last.node path last.keys d) c.in_ok-above-in-None.ensures
    ∙ sym (rows_last schema c.args.above.now last d)
    ∙ sym (ap (λ (path : List Seg). rows_read schema path d) c.requires.parts))
    c.read_object.ensures
