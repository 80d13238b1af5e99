use Rattle.std.proofs.Common.{◌≡◌, List, ap, length, refl, sym, subst, ◌∙◌, arith}
use Rattle.yp_slot.specs.declared.classes.Class.{Class}
use Rattle.yp_roster.specs.Ordered.{HaveClasses}
use Rattle.yp_roster.proofs.Classed.{same_members, still_classed}
use Rattle.std.specs.List.{AllByRecursion}
use Rattle.yp_slot.specs.declared.slot.Slot.{Slot}
use Rattle.yp_slot.specs.Slots.{IsQuiet}
use Rattle.yp_roster.proofs.Quiet.{looked_so_far, quiet_fewer}
use Rattle.yp_roster.proofs.Offering.{found_at, idle_at}
use Rattle.yp_roster.proofs.Placing.{turn_on}
use Rattle.yp_roster.proofs.roster.Roster.next_offer.Goals as goal

pub look_at-requires-clause-looked : goal.look_at-requires-clause-looked
look_at-requires-clause-looked g c = (c.requires.slots.0, c.loop-place.invariant.looked c.requires.slots.0 c.requires.slots.1)

pub look_at-requires-clause-classes : goal.look_at-requires-clause-classes
look_at-requires-clause-classes g c =
    let state = c.args.present.now.state.now in
    let inv = c.loop-place.invariant in
    let slots = c.loop-place.self.slots.items in
    subst (λ (classes : List Class). HaveClasses state classes slots) (sym (ap (λ those. those.items) inv.all))
    (same_members state c.args.self.now.classes.all.items c.args.self.now.slots.items slots inv.members c.requires.classed.classes.each)

pub returns-in-Some-clause-next : goal.returns-in-Some-clause-next
returns-in-Some-clause-next g c = λ mine past answers roster.
    let present = c.args.present.now in
    let laws = c.a_look_changes_nothing.ensures in
    found_at c.what_feeds_know_of_selections_is_lawful.ensures (record { looks = laws.looks; looked_twice = laws.looked_twice }) present.state.now present.schema.now mine past answers
    c.args.self.now.slots.items c.loop-place.place c.look_at.new.slots.items c.in_ok-found.found c.in-Some.item roster
    (c.in_ok-found.ensures.turn roster.tracks (c.loop-place.invariant.looked roster.tracks roster.kept)) c.in-Some.is

pub returns-in-Some-clause-classed : goal.returns-in-Some-clause-classed
returns-in-Some-clause-classed g c =
    let present = c.args.present.now in
    let inv = c.loop-place.invariant in
    still_classed present.schema.now present.state.now c.args.self.now _ (c.in_ok-found.ensures.members ∙ inv.members) (c.look_at.ensures.all ∙ inv.all) c.in_ok-found.ensures.told (omega (arith, c.look_at.ensures.count, c.loop-place.invariant.count, c.loop-place-test.true))
    (subst (λ (those : List Slot). AllByRecursion (IsQuiet present.state.now) those) (sym c.in_ok-found.ensures.before) inv.quiet) c.requires.classed

pub loop-place-preserved : goal.loop-place-preserved
loop-place-preserved g c =
    let present = c.args.present.now in
    let inv = c.loop-place.invariant in
    record {
      count = c.look_at.ensures.count ∙ inv.count;
      looked = λ tracks kept. turn_on present.schema.now present.state.now tracks c.loop-place.place c.look_at.new.slots.items c.in_ok-found.found
          (c.in_ok-found.ensures.turn tracks (inv.looked tracks kept)) c.in-None.is;
      members = c.in_ok-found.ensures.members ∙ inv.members;
      all = c.look_at.ensures.all ∙ inv.all;
      quiet = c.in_ok-found.ensures.quiet c.in-None.is inv.quiet;
      told = c.in_ok-found.ensures.told;
    }

pub returns-clause-next : goal.returns-clause-next
returns-clause-next g c = λ mine past answers roster.
    let present = c.args.present.now in
    let laws = c.a_look_changes_nothing.ensures in
    idle_at c.what_feeds_know_of_selections_is_lawful.ensures (record { looks = laws.looks; looked_twice = laws.looked_twice }) present.state.now present.schema.now mine past answers
    c.args.self.now.slots.items c.loop-place.place c.loop-place.self.slots.items roster (c.loop-place.invariant.looked roster.tracks roster.kept) (omega (arith, c.loop-place.invariant.count, c.loop-place-test.false))

pub returns-clause-classed : goal.returns-clause-classed
returns-clause-classed g c =
    let present = c.args.present.now in
    let inv = c.loop-place.invariant in
    let many : c.len-self.result ≡ length c.loop-place.self.slots.items = omega (arith, c.len-self.ensures, c.loop-place.self.slots.ok) in
    still_classed present.schema.now present.state.now c.args.self.now _ inv.members inv.all inv.told (omega (arith, many))
    (quiet_fewer present.state.now c.len-self.result c.loop-place.place c.loop-place.self.slots.items (omega (arith, many, inv.count, c.loop-place-test.false)) inv.quiet) c.requires.classed

pub loop-place-init : goal.loop-place-init
loop-place-init g c =
    let present = c.args.present.now in
    let laws = c.a_quiet_slot_was_looked_at.ensures in
    let classed = c.requires.classed in
    record {
      count = omega (arith, c.len-place-end.ensures, c.args.self.now.slots.ok);
      looked = λ tracks are. looked_so_far (λ nodes state slot track quiet stands. (laws.looked nodes state slot track quiet stands, laws.none nodes state slot track quiet stands)) present.schema.now present.state.now c.args.self.now.looked c.args.self.now.slots.items tracks classed.within classed.quiet are;
      members = refl;
      all = refl;
      quiet = classed.quiet;
      told = classed.told;
    }
