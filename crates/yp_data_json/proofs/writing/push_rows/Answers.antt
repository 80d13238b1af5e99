use Rattle.std.proofs.Common.{None, false, ◌++◌, sym, ap, subst, ◌∙◌, string_bytes}
use Rattle.serde_json.specs.Written.{compact_text}
use Rattle.yp_schema.specs.Nodes.{node_at, qualified_name}
use Rattle.yp_json_text.specs.Strings.{name_text}
use Rattle.yp_data_json.specs.Writing.{place_json}
use Rattle.yp_data_json.specs.Runs.{AreBelow}
use Rattle.yp_data_json.proofs.Parts.{none_left}
use Rattle.yp_schema.specs.SchemaLaws.{segment_within}
use Rattle.yp_data_json.proofs.AtPlace.{place_segment, json_at, top_below}
use Rattle.yp_data_json.proofs.Told.{named_told}
use Rattle.yp_data_json.proofs.writing.push_rows.Goals as goal

pub qualified-requires : goal.qualified-requires
qualified-requires c =
    segment_within c.args.schema.now c.in-Some.seg.now
    (place_segment c.args.schema.now c.args.at.now c.in-Some.field-0-1.now c.in-Some.seg.now (sym c.items.ensures ∙ c.in-Some.ensures.cases.0) c.requires.place)

pub push_members-requires-clause-below : goal.push_members-requires-clause-below
push_members-requires-clause-below c = (
  None,
  (
    subst (λ rows. AreBelow c.args.schema.now None 0 rows) (sym c.items-in-None.ensures)
        (top_below c.args.schema.now c.args.at.now c.args.rows.now (sym c.items.ensures ∙ none_left c.items.result.now c.in-None.ensures.cases) c.requires),
    tt,
  ),
)

pub returns-in_ok-push_str-in-Some : goal.returns-in_ok-push_str-in-Some
returns-in_ok-push_str-in-Some c =
    let nodes = c.args.schema.now in
    let at = c.args.at.now in
    let seg = c.in-Some.seg.now in
    let is = sym c.items.ensures ∙ c.in-Some.ensures.cases.0 in
    let old = string_bytes c.args.text.now in
    let s1 = string_bytes c.push_str.new.self in
    let s2 = string_bytes c.push_name.new.text in
    named_told (qualified_name (node_at seg.node nodes)) (place_json nodes seg at c.args.rows.now) old s1 s2 (string_bytes c.push_place.new.text) (string_bytes c.push_str-in-Some.new.self) c.in_ok-push_str.ensures.bytes
    (c.in_ok-push_name-in-Some.ensures ∙ ap (λ name. s1 ++ name_text false name) (c.as_str.ensures.value ∙ c.in_ok-name-in-Some.ensures))
    (c.in_ok-push_place-in-Some.ensures ∙ ap (λ rows. s2 ++ compact_text (place_json nodes seg at rows)) c.items-in-Some.ensures)
    c.in_ok-push_str-in-Some.ensures.bytes
    ∙ ap (λ d. old ++ compact_text d) (sym (json_at nodes at c.in-Some.field-0-1.now seg c.args.rows.now is))
