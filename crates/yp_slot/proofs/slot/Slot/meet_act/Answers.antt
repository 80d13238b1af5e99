use Rattle.std.proofs.Common.{◌≡◌, ℕ, Some, false, ◌∙◌, ap, length, sym, subst}
use Rattle.std.specs.Prelude.{◌==◌}
use Rattle.std.proofs.lemmas.Bool.{ne_eqb, not-true}
use Rattle.yp_feed.specs.declared.item.Control.TheVariants.{End, Modify, Resync}
use Rattle.yp_feed.specs.Machine.{FeedState}
use Rattle.yp_journal.specs.History.{JournalState}
use Rattle.yp_registry.specs.Registry.{live_at}
use Rattle.yp_attempt.specs.Moments.{Act, Controls, Drops, is_kept_by, with_control}
use Rattle.yp_attempt.specs.Tracks.{Track}
use Rattle.yp_slot.specs.declared.acts.Act.{Act as ActHere}
use Rattle.yp_slot.specs.Slots.{HasEnded, IsSlotOf}
use Rattle.yp_slot.specs.Steps.{HasLiveTerms, act_said, entered_moment, touches, with_next}
use Rattle.yp_slot.specs.ResultLaws.{when_ok}
use Rattle.yp_slot.proofs.Entering.{entered_acting}
use Rattle.yp_slot.proofs.slot.Slot.meet_act.Goals as goal

pub amend-requires-clause-terms : goal.amend-requires-clause-terms
amend-requires-clause-terms c =
    let e = c.args.entered.now in
    let after : JournalState = e.present.state.now in
    let live = subst (HasLiveTerms after.registry.live) c.in-Amends.is c.requires.act.live in
    (e.present.schema.now, length after.receivers, c.what_an_act_finds.ensures.terms e c.requires.entered.0 c.requires.entered.1.entered c.in-Amends.terms.now live)

pub returns-then-id-sub : goal.returns-then-id-sub
returns-then-id-sub c = record {
  slot = when_ok c.amend.result c.amend.ensures (λ made. λ before leaves track kept stands.
      let e = c.args.entered.now in
      let nodes = e.present.schema.now in
      let after : JournalState = e.present.state.now in
      let slot = c.args.self.now in
      let terms = c.in-Amends.terms.now in
      let laws = c.same_rules_are_one.ensures in
      let finds = c.what_an_act_finds.ensures in
      let live : live_at terms.id after.registry.live ≡ Some terms = subst (HasLiveTerms after.registry.live) c.in-Amends.is c.requires.act.live in
      let acts : (entered_moment e before).act ≡ Controls terms.id (Modify terms.trigger c.in-Amends.told) = c.requires.act.said ∙ ap act_said c.in-Amends.is in
      let id : terms.id ≡ slot.feed.sub = sym c.id.ensures ∙ c.if-id-sub.true ∙ c.sub-sub.ensures in
      let was = finds.modified e before leaves.entered terms.id terms.trigger c.in-Amends.told acts in
      let new = made nodes before after (finds.receivers e before leaves.entered) (finds.terms e before leaves.entered terms live).filter was.0 (ap (λ (k : ℕ). live_at k before.registry.live) (sym id) ∙ was.1) (ap (λ (k : ℕ). live_at k after.registry.live) (sym id) ∙ live) track stands in
      entered_acting (record { one = laws.one; itself = laws.itself }) e before c.amend.new.self track terms.id (Modify terms.trigger c.in-Amends.told) leaves acts (id ∙ ap (λ (f : FeedState). f.sub) stands.feed)
      (subst (λ (t : Track). IsSlotOf nodes after c.amend.new.self t) (λ i. with_control (c.position-n.ensures.count i) (c.stamp-stamp.ensures.value i) (Modify terms.trigger c.in-Amends.told) (with_next nodes after track)) new));
}

pub returns-then-id-sub-2 : goal.returns-then-id-sub-2
returns-then-id-sub-2 c = record {
  slot = λ before leaves track kept stands.
      let e = c.args.entered.now in
      let nodes = e.present.schema.now in
      let after : JournalState = e.present.state.now in
      let slot = c.args.self.now in
      let sub = c.in-Resyncs.id in
      let laws = c.same_rules_are_one.ensures in
      let acts : (entered_moment e before).act ≡ Controls sub Resync = c.requires.act.said ∙ ap act_said c.in-Resyncs.is in
      let id : sub ≡ slot.feed.sub = c.if-id-sub-2.true ∙ c.sub-sub.ensures in
      let found = c.what_an_act_finds.ensures.resynced e before leaves.entered sub acts in
      let new = c.resync.ensures nodes before after found.0 found.1.0 (ap (λ (k : ℕ). live_at k before.registry.live) (sym id) ∙ found.1.1) track stands in
      entered_acting (record { one = laws.one; itself = laws.itself }) e before c.resync.new.self track sub Resync leaves acts (id ∙ ap (λ (f : FeedState). f.sub) stands.feed)
      (subst (λ (t : Track). IsSlotOf nodes after c.resync.new.self t) (λ i. with_control (c.position-n.ensures.count i) (c.stamp-stamp.ensures.value i) Resync (with_next nodes after track)) new);
}

pub returns-then-id-sub-3 : goal.returns-then-id-sub-3
returns-then-id-sub-3 c = record {
  slot = λ before leaves track kept stands.
      let e = c.args.entered.now in
      let nodes = e.present.schema.now in
      let after : JournalState = e.present.state.now in
      let slot = c.args.self.now in
      let sub = c.in-Ends.id in
      let laws = c.same_rules_are_one.ensures in
      let finds = c.what_an_act_finds.ensures in
      let acts : (entered_moment e before).act ≡ Controls sub End = c.requires.act.said ∙ ap act_said c.in-Ends.is in
      let id : sub ≡ slot.feed.sub = c.if-id-sub-3.true ∙ c.sub-sub.ensures in
      let new = c.end.ensures nodes before after (finds.receivers e before leaves.entered) (subst (HasEnded after) id (finds.ended e before leaves.entered sub acts)) track stands in
      entered_acting (record { one = laws.one; itself = laws.itself }) e before c.end.new.self track sub End leaves acts (id ∙ ap (λ (f : FeedState). f.sub) stands.feed)
      (subst (λ (t : Track). IsSlotOf nodes after c.end.new.self t) (λ i. with_control (c.position-n.ensures.count i) (c.stamp-stamp.ensures.value i) End (with_next nodes after track)) new);
}

-- another subscription than its own
pub returns-else-id-sub : goal.returns-else-id-sub
returns-else-id-sub c = record {
  slot = λ before leaves track kept stands.
      let e = c.args.entered.now in
      let slot = c.args.self.now in
      let terms = c.in-Amends.terms.now in
      let acts : (entered_moment e before).act ≡ Controls terms.id (Modify terms.trigger c.in-Amends.told) = c.requires.act.said ∙ ap act_said c.in-Amends.is in
      let other : (slot.feed.sub == terms.id) ≡ false = ne_eqb slot.feed.sub terms.id (λ same. c.if-id-sub.false (c.id.ensures ∙ sym same ∙ sym c.sub-sub.ensures)) in
      c.an_entry_that_moves_no_selection_leaves_slots.ensures e before leaves slot track (ap (λ (act : Act). touches act slot.feed.sub) acts ∙ other) stands;
}

pub returns-else-id-sub-2 : goal.returns-else-id-sub-2
returns-else-id-sub-2 c = record {
  slot = λ before leaves track kept stands.
      let e = c.args.entered.now in
      let slot = c.args.self.now in
      let sub = c.in-Resyncs.id in
      let acts : (entered_moment e before).act ≡ Controls sub Resync = c.requires.act.said ∙ ap act_said c.in-Resyncs.is in
      let other : (slot.feed.sub == sub) ≡ false = ne_eqb slot.feed.sub sub (λ same. c.if-id-sub-2.false (sym same ∙ sym c.sub-sub.ensures)) in
      c.an_entry_that_moves_no_selection_leaves_slots.ensures e before leaves slot track (ap (λ (act : Act). touches act slot.feed.sub) acts ∙ other) stands;
}

pub returns-else-id-sub-3 : goal.returns-else-id-sub-3
returns-else-id-sub-3 c = record {
  slot = λ before leaves track kept stands.
      let e = c.args.entered.now in
      let slot = c.args.self.now in
      let sub = c.in-Ends.id in
      let acts : (entered_moment e before).act ≡ Controls sub End = c.requires.act.said ∙ ap act_said c.in-Ends.is in
      let other : (slot.feed.sub == sub) ≡ false = ne_eqb slot.feed.sub sub (λ same. c.if-id-sub-3.false (sym same ∙ sym c.sub-sub.ensures)) in
      c.an_entry_that_moves_no_selection_leaves_slots.ensures e before leaves slot track (ap (λ (act : Act). touches act slot.feed.sub) acts ∙ other) stands;
}

pub returns-in-Drops : goal.returns-in-Drops
returns-in-Drops c = record {
  slot = λ before leaves track kept stands.
      let e = c.args.entered.now in
      let slot = c.args.self.now in
      let sub = c.in-Drops.field-0 in
      let acts : (entered_moment e before).act ≡ Drops sub = c.requires.act.said ∙ ap act_said c.in-Drops.is in
      let other : (slot.feed.sub == sub) ≡ false = ap (λ (f : FeedState). f.sub == sub) stands.feed ∙ not-true (track.feed.sub == sub) (ap (λ (act : ActHere). is_kept_by (act_said act) track) (sym c.in-Drops.is) ∙ kept) in
      c.an_entry_that_moves_no_selection_leaves_slots.ensures e before leaves slot track (ap (λ (act : Act). touches act slot.feed.sub) acts ∙ other) stands;
}
