use Rattle.std.proofs.Common.{ℕ, List, [], ap, sym, subst, ◌∙◌}
use Rattle.yp_slot.specs.declared.slot.Slot.{Slot}
use Rattle.yp_slot.specs.ResultLaws.{when_ok}
use Rattle.yp_roster.specs.Ordered.{AreClassesOf, AreSlotsOf}
use Rattle.yp_roster.specs.Passed.{new_tracks, with_new, with_tracks}
use Rattle.yp_roster.proofs.Putting.{put_classed, put_there}
use Rattle.yp_roster.proofs.starting.start.Goals as goal

pub returns-clause-slots : goal.returns-clause-slots
returns-clause-slots c = when_ok c.put.result c.put.ensures (λ put. λ m tracks moment live by_id are.
    let present = c.args.present.now in
    let nodes = present.schema.now in
    let state = present.state.now in
    let terms = c.args.terms.now in
    let started = new_tracks m state.position terms c.args.mine.now in
    let none : AreSlotsOf nodes state c.new-new.result.items [] = subst (λ (slots : List Slot). AreSlotsOf nodes state slots []) (sym c.new-new.ensures.items) tt in
    let begun : AreSlotsOf nodes state c.begin.new.slots.items started = c.in_ok-begin.ensures.slots m [] moment live none in
    subst (λ (slots : List Slot). AreSlotsOf nodes state slots (with_tracks terms.id started tracks)) (sym (put ∙ ap (λ (id : ℕ). with_new id c.begin.new.slots.items c.args.slots.now.items) c.id.ensures))
    (put_there nodes state terms.id c.begin.new.slots.items started begun c.args.slots.now.items tracks by_id are))

pub returns-clause-classes : goal.returns-clause-classes
returns-clause-classes c = when_ok c.put.result c.put.ensures (λ put. λ are.
    let present = c.args.present.now in
    let nodes = present.schema.now in
    let state = present.state.now in
    let before = c.args.classes.now.items in
    let none : AreClassesOf nodes state before c.new-new.result.items = subst (λ (slots : List Slot). AreClassesOf nodes state before slots) (sym c.new-new.ensures.items) (record { fit = are.fit; each = tt }) in
    subst (λ (slots : List Slot). AreClassesOf nodes state c.begin.new.classes.items slots) (sym put)
    (put_classed nodes state before c.begin.new.classes.items c.id.result c.begin.new.slots.items c.args.slots.now.items c.in_ok-begin.ensures.numbers are (c.in_ok-begin.ensures.classes none)))
