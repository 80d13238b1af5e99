use Rattle.std.proofs.Common.{◌≡◌, ◌∙◌, ◌==◌, Bool, List, count_by, ap, sym, subst}
use Rattle.std.specs.List.{position}
use Rattle.yp_listeners.specs.declared.listener.Listener.{Listener}
use Rattle.yp_listeners.specs.Listeners.{HasTaken}
use Rattle.yp_listeners.proofs.Places.{IsPlaceOf, found_place, one_given, same_numbers}
use Rattle.yp_listeners.proofs.Results.{when_both}
use Rattle.yp_listeners.proofs.serving.give.Goals as goal

pub returns-in-Some-clause-numbers : goal.returns-in-Some-clause-numbers
returns-in-Some-clause-numbers c =
    same_numbers c.args.listeners.now.items c.in-Some.place c.take.new.self c.index_mut.result.now (c.take.ensures.receiver ∙ ap (λ (listener : Listener). listener.receiver) c.index_mut.ensures.value)

pub returns-in-Some-clause-given : goal.returns-in-Some-clause-given
returns-in-Some-clause-given c =
    let listeners : List Listener = c.args.listeners.now.items in
    let has_it : Listener → Bool = (λ listener. c.args.number == listener.receiver) in
    let after : Listener = c.take.new.self in
    let place : IsPlaceOf has_it listeners c.in-Some.place = found_place has_it listeners c.in-Some.place (sym c.in-Some.is ∙ (c.place_of.ensures ∙ ap (position has_it) c.as_slice-2.ensures.value)) in
    let one : count_by has_it listeners ≡ 1 = ap (count_by has_it) (sym c.as_slice.ensures.value) ∙ (sym c.count_of.ensures ∙ c.if-count_of-ne1.false) in
    when_both c.take.result c.take.ensures.log c.take.ensures.heard (λ log heard.
    let taken : HasTaken c.args.schema.now c.args.packet c.index_mut.result.now after = record { receiver = c.take.ensures.receiver; log = log; heard = heard } in
    one_given c.args.schema.now c.args.number c.args.packet listeners c.in-Some.place after c.index_mut.result.now one place.first place.below
    (subst (λ (listener : Listener). HasTaken c.args.schema.now c.args.packet listener after) c.index_mut.ensures.value taken))
