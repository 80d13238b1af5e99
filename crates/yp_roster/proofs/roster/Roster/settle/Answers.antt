use Rattle.std.proofs.Common.{◌≡◌, ℕ, suc, ◌+◌, ◌≤◌, List, arith, length, take, drop, length-append, length-take, length-drop, false, ◌∷◌, ◌++◌, map, ap, refl, sym, subst, ◌∙◌}
use Rattle.std.specs.Prelude.{slice_set}
use Rattle.yp_feed.specs.Machine.{FeedState}
use Rattle.yp_journal.specs.History.{JournalState}
use Rattle.yp_attempt.specs.Tracks.{Track}
use Rattle.yp_attempt.specs.Workers.{answered_alone}
use Rattle.yp_moment.specs.Windows.{recorded}
use Rattle.yp_roster.specs.Rosters.{ready_at, standing_at, AreQuietTo}
use Rattle.yp_slot.specs.Slots.{IsSlotOf, IsQuiet}
use Rattle.yp_slot.specs.Steps.{answer_of}
use Rattle.yp_slot.specs.declared.slot.Slot.{Slot}
use Rattle.yp_slot.specs.Classes.{HasClass}
use Rattle.yp_roster.specs.Ordered.{HaveClasses}
use Rattle.yp_roster.proofs.Classed.{members_gone, members_put, same_members, still_classed}
use Rattle.std.specs.List.{AllByRecursion}
use Rattle.yp_roster.proofs.Quiet.{gone_before, put_before, put_length, quiet_fewer}
use Rattle.yp_roster.proofs.Offering.{settled_gone, settled_on}
use Rattle.yp_roster.proofs.Placing.{slot_there}
use Rattle.yp_roster.proofs.roster.Roster.settle.Goals as goal

pub returns-then-ended-clause-stands : goal.returns-then-ended-clause-stands
returns-then-ended-clause-stands c = λ nodes mine past answers changes found.
    let state : JournalState = c.args.state.now in
    let answer = answer_of c.args.settled in
    let laws = c.a_look_changes_nothing.ensures in
    let lawful = c.what_feeds_know_of_selections_is_lawful.ensures in
    let put = c.a_worker_puts_in_the_next_answer.ensures recorded lawful mine past answers (standing_at state (found.before ++ found.track ∷ found.after)) (record { before = found.before; track = found.track; item = c.args.item; after = map (ready_at state) found.after }) answer found.stands found.first in
    let stands : IsSlotOf nodes state c.index_mut-slot.result.now found.track = slot_there nodes state found.before c.args.place c.args.self.now.slots.items found.track found.after c.index_mut-slot.result.now found.place found.kept c.index_mut-slot.ensures.value in
    let feed : c.settle.new.self.feed ≡ (answered_alone state.position state.stamp found.track c.args.item answer).feed =
    c.settle.ensures.feed found.track stands.feed ∙ (λ i. (answered_alone (c.position.ensures.count i) (c.stamp.ensures.value i) found.track c.args.item answer).feed) in
    settled_gone lawful (record { looks = laws.looks; looked_twice = laws.looked_twice }) state nodes mine past answers c.args.self.now.slots.items (record { place = c.args.place; item = c.args.item; changes = changes }) answer found put
    c.settle.new.self c.remove.new.self.items (ap (λ (f : FeedState). f.ended) (sym feed) ∙ sym c.ended.ensures ∙ c.if-ended.true) c.remove.ensures.by_index.2

pub returns-else-ended-clause-stands : goal.returns-else-ended-clause-stands
returns-else-ended-clause-stands c = λ nodes mine past answers changes found.
    let state : JournalState = c.args.state.now in
    let answer = answer_of c.args.settled in
    let laws = c.a_look_changes_nothing.ensures in
    let lawful = c.what_feeds_know_of_selections_is_lawful.ensures in
    let put = c.a_worker_puts_in_the_next_answer.ensures recorded lawful mine past answers (standing_at state (found.before ++ found.track ∷ found.after)) (record { before = found.before; track = found.track; item = c.args.item; after = map (ready_at state) found.after }) answer found.stands found.first in
    let stands : IsSlotOf nodes state c.index_mut-slot.result.now found.track = slot_there nodes state found.before c.args.place c.args.self.now.slots.items found.track found.after c.index_mut-slot.result.now found.place found.kept c.index_mut-slot.ensures.value in
    let here : Track = answered_alone c.position.result c.stamp.result found.track c.args.item answer in
    let there : Track = answered_alone state.position state.stamp found.track c.args.item answer in
    let same : here ≡ there = λ i. answered_alone (c.position.ensures.count i) (c.stamp.ensures.value i) found.track c.args.item answer in
    let lives : here.feed.ended ≡ false = ap (λ (f : FeedState). f.ended) (sym (c.settle.ensures.feed found.track stands.feed)) ∙ sym c.ended.ensures ∙ c.if-ended.false in
    settled_on lawful (record { looks = laws.looks; looked_twice = laws.looked_twice }) state nodes mine past answers c.args.self.now.slots.items (record { place = c.args.place; item = c.args.item; changes = changes }) answer found put
    c.settle.new.self (ap (λ (t : Track). t.feed.ended) (sym same) ∙ lives) (subst (λ (t : Track). IsSlotOf nodes state c.settle.new.self t) same (c.settle.ensures.slot nodes state found.track stands lives))

pub returns-then-ended-clause-classed : goal.returns-then-ended-clause-classed
returns-then-ended-clause-classed c = λ nodes classed.
    let state : JournalState = c.args.state.now in
    let slots = c.args.self.now.slots.items in
    let place = c.args.place in
    let put = members_put slots place c.index_mut-slot.result.now c.settle.new.self c.requires.place c.index_mut-slot.ensures.value c.settle.ensures.member in
    let all = c.args.self.now.classes.all.items in
    let n = c.least-self.result in
    let after : List Slot = slice_set slots place c.settle.new.self in
    let next : suc place ≡ place + 1 = omega arith in
    record {
      classes = record {
        fit = classed.classes.fit;
        each = subst (λ (those : List Slot). HaveClasses state all those) (sym c.remove.ensures.by_index.2)
            (members_gone (HasClass state all) place (place + 1) (slice_set slots place c.settle.new.self) (same_members state all slots (slice_set slots place c.settle.new.self) put classed.classes.each));
      };
      told = classed.told;
      within = subst (λ (those : List Slot). n ≤ length those) (sym c.remove.ensures.by_index.2) (omega (arith, c.least-self.ensures.second, c.requires.place, put_length slots place c.settle.new.self, length-append (take place after) (drop (place + 1) after), length-take place after, length-drop (place + 1) after));
      quiet = subst (λ (those : List Slot). AreQuietTo state n those) (sym c.remove.ensures.by_index.2)
          (subst (λ (m : ℕ). AreQuietTo state n (take place after ++ drop m after)) next
          (subst (λ (those : List Slot). AllByRecursion (IsQuiet state) those) (sym (gone_before n after place c.least-self.ensures.second ∙ put_before n slots place c.settle.new.self c.least-self.ensures.second))
          (quiet_fewer state n c.args.self.now.looked slots c.least-self.ensures.first classed.quiet)));
    }

pub returns-else-ended-clause-classed : goal.returns-else-ended-clause-classed
returns-else-ended-clause-classed c = λ nodes classed.
    let state : JournalState = c.args.state.now in
    let slots = c.args.self.now.slots.items in
    let place = c.args.place in
    let put = members_put slots place c.index_mut-slot.result.now c.settle.new.self c.requires.place c.index_mut-slot.ensures.value c.settle.ensures.member in
    still_classed nodes state c.args.self.now _ put refl classed.told
    (omega (arith, c.least-self.ensures.second, c.requires.place, put_length slots place c.settle.new.self))
    (subst (λ (those : List Slot). AllByRecursion (IsQuiet state) those) (sym (put_before c.least-self.result slots place c.settle.new.self c.least-self.ensures.second))
    (quiet_fewer state c.least-self.result c.args.self.now.looked slots c.least-self.ensures.first classed.quiet)) classed
