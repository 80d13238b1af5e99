use Rattle.std.proofs.Common.{◌≡◌, ℕ, List, Option, Some, None, nat_lt, ap, sym, ◌∙◌}
use Rattle.std.specs.List.{position}
use Rattle.yp_terms.specs.Terms.{Terms}
use Rattle.yp_registry.proofs.Places.{inserted_none, inserted_some}
use Rattle.yp_registry.proofs.live.insert.Goals as goal

pub returns-in_ok-insert-in-Some-clause-state : goal.returns-in_ok-insert-in-Some-clause-state
returns-in_ok-insert-in-Some-clause-state c =
    let place : List Terms → ℕ → Option ℕ = λ (live : List Terms) (id : ℕ). position (λ (terms : Terms). nat_lt id terms.id) live in
    let found : place c.args.live.now.items c.args.terms.id ≡ Some c.in-Some.place = ap (place c.args.live.now.items) (sym c.id.ensures) ∙ ap (λ (live : List Terms). place live c.id.result) (sym c.as_slice.ensures.value) ∙ sym c.in-Some.ensures in
    c.in_ok-insert-in-Some.ensures.items ∙ inserted_some c.args.terms c.args.live.now.items c.in-Some.place found

pub returns-in_ok-push-in-None-clause-state : goal.returns-in_ok-push-in-None-clause-state
returns-in_ok-push-in-None-clause-state c =
    let place : List Terms → ℕ → Option ℕ = λ (live : List Terms) (id : ℕ). position (λ (terms : Terms). nat_lt id terms.id) live in
    let none : place c.args.live.now.items c.args.terms.id ≡ None = ap (place c.args.live.now.items) (sym c.id.ensures) ∙ ap (λ (live : List Terms). place live c.id.result) (sym c.as_slice.ensures.value) ∙ sym c.in-None.ensures in
    c.in_ok-push-in-None.ensures.items ∙ inserted_none c.args.terms c.args.live.now.items none
