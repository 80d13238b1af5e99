use Rattle.std.proofs.Common.{◌≡◌, ◌∙◌, ◌<◌, ◌%◌, ◌∷◌, ℕ, List, length, ap, subst, sym}
use Rattle.std.specs.Global.{Vec}
use Rattle.std.proofs.lemmas.Nat.{mod_below}
use Rattle.yp_listeners.specs.declared.listener.Listener.{Listener}
use Rattle.yp_slot.specs.ResultLaws.{when_is_ok}
use Rattle.yp_concurrent.proofs.Told.{log_taken, logs_left, ok_left}
use Rattle.yp_concurrent.proofs.text.take_next.Goals as goal

pub returns-clause-its : goal.returns-clause-its
returns-clause-its c =
    let listeners : List (Vec Listener) = c.args.listeners.now.items in
    let place : ℕ = c.args.number % c.len.result in
    let is : place ≡ c.args.number % length listeners = ap (λ (n : ℕ). c.args.number % n) (c.len.ensures ∙ c.args.listeners.now.ok.0) in
    let below : place < length listeners = subst (λ (n : ℕ). n < length listeners) (sym is) (mod_below c.args.number (length listeners) c.requires) in
    let d : Vec Listener = c.index_mut.result.now in
    when_is_ok c.take_first.result c.take_first.ensures.parts (λ listener cut nodes start runs have.
    log_taken nodes start runs listeners c.args.number place d c.take_first.new.listeners listener below is (ap (λ (those : Vec Listener). those.items) (sym c.index_mut.ensures.value) ∙ cut) have)

pub returns-clause-left : goal.returns-clause-left
returns-clause-left c =
    let listeners : List (Vec Listener) = c.args.listeners.now.items in
    let place : ℕ = c.args.number % c.len.result in
    let is : place ≡ c.args.number % length listeners = ap (λ (n : ℕ). c.args.number % n) (c.len.ensures ∙ c.args.listeners.now.ok.0) in
    let below : place < length listeners = subst (λ (n : ℕ). n < length listeners) (sym is) (mod_below c.args.number (length listeners) c.requires) in
    let d : Vec Listener = c.index_mut.result.now in
    ok_left c.take_first.result (λ (listener : Listener). c.index_mut.result.now.items ≡ listener ∷ c.take_first.new.listeners.items) c.take_first.ensures.parts (λ listener cut nodes start runs have.
    logs_left nodes start runs listeners c.args.number place d c.take_first.new.listeners listener below is (ap (λ (those : Vec Listener). those.items) (sym c.index_mut.ensures.value) ∙ cut) have)
