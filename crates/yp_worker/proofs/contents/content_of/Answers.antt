use Rattle.std.proofs.Common.{◌≡◌, ◌∙◌, ap, subst}
use Rattle.yp_filter.specs.View.{filter_view}
use Rattle.yp_nacm.specs.declared.compile.UserRules.{UserRules}
use Rattle.yp_nacm.specs.Decision.{is_readable}
use Rattle.yp_kept.specs.Selection.{selection}
use Rattle.yp_journal.specs.History.{rules_at}
use Rattle.yp_worker.specs.Contents.{IsContent}
use Rattle.yp_worker.proofs.contents.content_of.Goals as goal

pub returns-clause-content : goal.returns-clause-content
returns-clause-content g c =
    let present = c.args.present.now in
    let nodes = present.schema.now in
    let state = present.state.now in
    let slot = c.args.slot.now in
    let same : rules_at state c.first_of-first.result ≡ rules_at state slot.feed.receiver = c.first_of-first.ensures.same ∙ ap (rules_at state) c.receiver.ensures in
    subst (λ (rules : UserRules). IsContent nodes (selection nodes (filter_view slot.filter) (λ path. is_readable nodes rules path) state.rows) c.in_ok-content.content) same c.in_ok-content.ensures.content
