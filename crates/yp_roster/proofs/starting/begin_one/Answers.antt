use Rattle.std.proofs.Common.{◌≡◌, ◌∷◌, ◌++◌, [], true, List, ap, sym, subst, ◌∙◌}
use Rattle.std.specs.Prelude.{◌==◌}
use Rattle.std.specs.List.{list_any}
use Rattle.yp_slot.specs.declared.slot.Slot.{Slot}
use Rattle.yp_roster.specs.Ordered.{AreClassesOf, AreSlotsOf}
use Rattle.yp_slot.specs.Classes.{HasClass, member_of}
use Rattle.yp_roster.specs.Passed.{new_tracks}
use Rattle.yp_slot.specs.Steps.{names_of}
use Rattle.yp_filter.specs.Fits.{filter_fits}
use Rattle.yp_roster.proofs.Begun.{begun_one, named_there}
use Rattle.yp_roster.proofs.Classed.{classed_more}
use Rattle.yp_roster.proofs.starting.begin_one.Goals as goal

pub number_of-requires-clause-receiver : goal.number_of-requires-clause-receiver
number_of-requires-clause-receiver c =
    let terms = c.args.terms.now in
    let named : names_of terms c.args.receiver ≡ true = ap (list_any (λ other. other == c.args.receiver)) (sym c.receivers.ensures) ∙ sym c.contains.ensures.value ∙ c.if-contains.true in
    named_there _ c.args.receiver terms.receivers c.requires.terms.receivers named

pub number_of-requires-clause-fits : goal.number_of-requires-clause-fits
number_of-requires-clause-fits c = ap (filter_fits c.args.present.now.schema.now) c.filter-filter.ensures ∙ c.requires.terms.filter

pub returns-in_ok-push-clause-slots : goal.returns-in_ok-push-clause-slots
returns-in_ok-push-clause-slots c = λ m tracks moment live are.
    let present = c.args.present.now in
    let nodes = present.schema.now in
    let state = present.state.now in
    let terms = c.args.terms.now in
    let named : names_of terms c.args.receiver ≡ true = ap (list_any (λ other. other == c.args.receiver)) (sym c.receivers.ensures) ∙ sym c.contains.ensures.value ∙ c.if-contains.true in
    let slot = c.in_ok-start.ensures.slot live (named_there _ c.args.receiver terms.receivers c.requires.terms.receivers named) m moment.stamp (moment.selection terms.id c.args.receiver) in
    subst (λ (slots : List Slot). AreSlotsOf nodes state slots (tracks ++ new_tracks m state.position terms (c.args.receiver ∷ []))) (sym {A = List Slot} c.in_ok-push.ensures.items)
    (begun_one nodes state m state.position terms c.args.slots.now.items tracks c.in_ok-start.field-0 c.args.receiver named are slot)

pub returns-in_ok-push-clause-classes : goal.returns-in_ok-push-clause-classes
returns-in_ok-push-clause-classes c = λ are.
    let present = c.args.present.now in
    let nodes = present.schema.now in
    let state = present.state.now in
    let terms = c.args.terms.now in
    let slot = c.in_ok-start.field-0 in
    let has : HasClass state c.number_of.new.classes.items (member_of slot) =
    subst (HasClass state c.number_of.new.classes.items) ((λ i. record { class = c.in_ok-class.class; asked = c.filter-filter.ensures i; receiver = c.args.receiver; trigger = c.trigger-trigger.ensures i }) ∙ sym c.in_ok-start.ensures.member) c.in_ok-class.ensures.number in
    subst (λ (slots : List Slot). AreClassesOf nodes state c.number_of.new.classes.items slots) (sym {A = List Slot} c.in_ok-push.ensures.items)
    (classed_more nodes state c.args.classes.now.items c.number_of.new.classes.items c.args.slots.now.items slot c.in_ok-class.ensures.kept c.in_ok-class.ensures.classes has are)
