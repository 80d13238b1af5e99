use Rattle.std.proofs.Common.{◌≡◌, List, [], ◌∷◌, Bool, Option, Some, None, filter, get_or, ap, sym, ◌∙◌}
use Rattle.yp_nacm.specs.declared.policy.RuleList.{RuleList}
use Rattle.yp_nacm.specs.Decision.{said_of_call}
use Rattle.yp_nacm.specs.Policies.{groups_of, is_for, rules_in}
use Rattle.yp_nacm.proofs.Words.{lists_first, lists_next}
use Rattle.yp_nacm.proofs.execute.word_of_lists.Goals as goal

pub returns-in-Some : goal.returns-in-Some
returns-in-Some c =
    let said : List RuleList → Option Bool = λ lists. said_of_call c.args.op (rules_in (filter (is_for (groups_of c.args.groups.now c.args.user.now)) lists)) in
    let here : said (get_or c.args.lists.now c.loop-list.list-index c.list-item.result ∷ []) ≡ Some c.in-Some.permit =
    ap (λ list. said (list ∷ [])) (sym c.list-item.is) ∙ sym c.word_of_list.ensures ∙ c.in-Some.is in
    sym (lists_first _ c.args.op c.args.lists.now c.loop-list.list-index c.list-item.result c.in-Some.permit c.loop-list-test.true here) ∙ c.loop-list.invariant

pub loop-list-preserved : goal.loop-list-preserved
loop-list-preserved c =
    let said : List RuleList → Option Bool = λ lists. said_of_call c.args.op (rules_in (filter (is_for (groups_of c.args.groups.now c.args.user.now)) lists)) in
    let here : said (get_or c.args.lists.now c.loop-list.list-index c.list-item.result ∷ []) ≡ None =
    ap (λ list. said (list ∷ [])) (sym c.list-item.is) ∙ sym c.word_of_list.ensures ∙ c.in_default.is in
    sym (lists_next _ c.args.op c.args.lists.now c.loop-list.list-index c.list-item.result c.loop-list-test.true here) ∙ c.loop-list.invariant
