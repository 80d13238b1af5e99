use Rattle.std.proofs.Common.{Some, None, ◌++◌, sym, ap, subst, ◌∙◌, string_bytes}
use Rattle.serde_json.specs.Written.{compact_text}
use Rattle.yp_data_json.specs.Runs.{AreBelow}
use Rattle.yp_data_json.proofs.Parts.{none_left}
use Rattle.yp_schema.specs.SchemaLaws.{segment_within, node_after, node_after_append}
use Rattle.yp_data_json.proofs.AtPlace.{writable_below, place_segment, place_some, place_written}
use Rattle.yp_data_json.proofs.Told.{where_ok}
use Rattle.yp_data_json.proofs.writing.push_place.Goals as goal

pub kind-requires : goal.kind-requires
kind-requires c =
    segment_within c.args.schema.now c.args.seg.now (place_segment c.args.schema.now c.args.at.now c.requires.last.0 c.args.seg.now c.requires.last.1 c.requires.writable.place)

pub push_members-requires-clause-below : goal.push_members-requires-clause-below
push_members-requires-clause-below c =
    let parent = node_after None c.args.at.now in
    (parent, (subst (λ n. AreBelow c.args.schema.now parent n c.args.rows.now) (sym c.len.ensures) (writable_below c.args.schema.now c.args.at.now c.args.rows.now c.requires.writable), tt))

pub push_item-requires-clause-segment : goal.push_item-requires-clause-segment
push_item-requires-clause-segment c = place_segment c.args.schema.now c.args.at.now c.requires.last.0 c.args.seg.now c.requires.last.1 c.requires.writable.place

pub push_item-requires-clause-below : goal.push_item-requires-clause-below
push_item-requires-clause-below c =
    let parent = node_after None c.args.at.now in
    let is = ap (node_after None) c.requires.last.1 ∙ node_after_append None c.requires.last.0 c.args.seg.now in
    let below = subst (λ n. AreBelow c.args.schema.now parent n c.args.rows.now) (sym c.len-in-List.ensures) (writable_below c.args.schema.now c.args.at.now c.args.rows.now c.requires.writable) in
    subst (λ p. AreBelow c.args.schema.now p c.len-in-List.result c.args.rows.now) is below

pub returns-in-Some : goal.returns-in-Some
returns-in-Some c =
    let written = place_written c.args.schema.now c.requires.schema c.args.at.now c.requires.last.0 c.args.seg.now c.args.rows.now c.in-Some.row.now c.in-Some.field-0-1.now c.requires.last.1
    (sym c.kind.ensures ∙ c.in-Leaf.is) c.in-Some.ensures.cases.0 c.requires.writable in
    where_ok c.push_leaf.result c.push_leaf.ensures (λ told. told ∙ ap (λ d. string_bytes c.args.text.now ++ compact_text d) written)

pub returns-in-None : goal.returns-in-None
returns-in-None c =
    absurd
    (place_some c.args.schema.now c.args.at.now c.requires.last.0 c.args.seg.now c.args.rows.now c.requires.last.1 (sym c.kind.ensures ∙ c.in-Leaf.is) c.requires.writable
    (none_left c.args.rows.now c.in-None.ensures.cases))
