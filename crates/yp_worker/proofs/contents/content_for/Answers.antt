use Rattle.std.proofs.Common.{List, sym, subst}
use Rattle.yp_schema.specs.declared.schema.SchemaNode.{SchemaNode}
use Rattle.yp_filter.specs.Filters.{Asked}
use Rattle.yp_filter.specs.View.{filter_view}
use Rattle.yp_journal.specs.History.{JournalState}
use Rattle.yp_worker.specs.declared.contents.Content.{Content}
use Rattle.yp_worker.specs.declared.contents.Selected.{Selected}
use Rattle.yp_worker.specs.Contents.{IsContent, selected, IsSelected, AreSelected}
use Rattle.yp_worker.proofs.Kept.{all_added, some_has}
use Rattle.yp_worker.proofs.contents.content_for.Goals as goal

pub returns-in-Some-clause-content : goal.returns-in-Some-clause-content
returns-in-Some-clause-content g c =
    let present = c.args.present.now in
    let all = subst (λ (those : List Selected). AreSelected present.schema.now present.state.now those) (sym c.as_slice.ensures.value) c.requires.contents in
    some_has (λ (content : Content). (nodes : List SchemaNode) (state : JournalState) → AreSelected nodes state c.as_slice.result.now → IsContent nodes (selected nodes state (filter_view c.args.filter.now) c.args.first) content)
    c.in_ok-found.field-0 c.in-Some.found c.in_ok-found.ensures c.in-Some.is present.schema.now present.state.now all

pub returns-clause-contents : goal.returns-clause-contents
returns-clause-contents g c =
    let present = c.args.present.now in
    let nodes = present.schema.now in
    let state = present.state.now in
    let first = c.args.first in
    let kept : Selected = record { class = c.args.class; first = first; filter = c.in_ok-copy.field-0; content = c.in_ok-copy-2.field-0 } in
    let of_filter : IsContent nodes (selected nodes state (filter_view c.in_ok-copy.field-0) first) c.in_ok-content.content =
    subst (λ (asked : Asked). IsContent nodes (selected nodes state asked first) c.in_ok-content.content) (sym c.in_ok-copy.ensures) c.in_ok-content.ensures in
    let is : IsSelected nodes state kept = subst (λ (content : Content). IsContent nodes (selected nodes state (filter_view c.in_ok-copy.field-0) first) content) (sym c.in_ok-copy-2.ensures) of_filter in
    subst (λ (those : List Selected). AreSelected nodes state those) (sym c.in_ok-push.ensures.items) (all_added (IsSelected nodes state) c.args.contents.now.items kept c.requires.contents is)
