use Rattle.std.proofs.Common.{◌≡◌, Some, None, nat_eq, option_map, slice_set, ap, sym, ◌∙◌}
use Rattle.std.specs.List.{position}
use Rattle.yp_filter.specs.View.{filter_view}
use Rattle.yp_terms.specs.Terms.{Terms}
use Rattle.yp_terms.specs.Amends.{with_given}
use Rattle.yp_registry.proofs.Places.{changed_none, changed_some}
use Rattle.yp_registry.proofs.live.amend.Goals as goal

pub returns-in-Some : goal.returns-in-Some
returns-in-Some c =
    let change : Terms → Terms = with_given c.args.now (option_map filter_view c.args.filter) c.args.trigger in
    let found : position (λ (terms : Terms). nat_eq c.args.id terms.id) c.args.live.now.items ≡ Some c.in-Some.place = cc in
    ap (slice_set c.args.live.now.items c.in-Some.place) (c.amend.ensures ∙ ap change c.index_mut.ensures.value)
    ∙ changed_some c.args.id change c.args.live.now.items c.in-Some.place c.index_mut.result.now found

pub returns-in_default : goal.returns-in_default
returns-in_default c =
    let change : Terms → Terms = with_given c.args.now (option_map filter_view c.args.filter) c.args.trigger in
    let none : position (λ (terms : Terms). nat_eq c.args.id terms.id) c.args.live.now.items ≡ None = cc in
    sym (changed_none c.args.id change c.args.live.now.items none)
