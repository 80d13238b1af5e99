use Rattle.std.proofs.Common.{◌≡◌, ◌<◌, length, true, false, ap, sym, subst, ◌∙◌}
use Rattle.yp_feed.specs.Machine.{FeedState}
use Rattle.yp_feed.specs.declared.item.Control.TheVariants.{Rules}
use Rattle.yp_nacm.specs.Same.{are_same_rules}
use Rattle.yp_journal.specs.declared.command.Command.TheVariants.{Rules as Policies}
use Rattle.yp_journal.specs.History.{JournalState, next_state, rules_at}
use Rattle.yp_attempt.specs.Moments.{with_control}
use Rattle.yp_attempt.specs.Tracks.{Track}
use Rattle.yp_slot.specs.Slots.{IsSlotOf}
use Rattle.yp_slot.specs.Steps.{with_next}
use Rattle.yp_slot.proofs.Entering.{comes_after, entered_so, quiet_by_rules, quietly_entered, ruled, same_selected, stays}
use Rattle.yp_slot.proofs.slot.Slot.meet_rules.Goals as goal

pub keeps_rules-requires : goal.keeps_rules-requires
keeps_rules-requires c = (c.requires.0, c.requires.1.entered, subst (λ n. n < length c.requires.0.receivers) (sym c.receiver.ensures) c.requires.2.receiver)

pub returns-then-keeps_rules : goal.returns-then-keeps_rules
returns-then-keeps_rules c = λ before by track stands.
    let entered = by.entered in
    let e = c.args.entered.now in
    let nodes = e.present.schema.now in
    let after : JournalState = e.present.state.now in
    let slot = c.args.self.now in
    let laws = c.same_rules_are_one.ensures in
    let number : c.receiver.result ≡ track.feed.receiver = c.receiver.ensures ∙ ap (λ (f : FeedState). f.receiver) stands.feed in
    let within : c.receiver.result < length before.receivers = subst (λ n. n < length before.receivers) (sym c.receiver.ensures) stands.kept.receiver in
    let same : are_same_rules (rules_at before track.feed.receiver) (rules_at after track.feed.receiver) ≡ true =
    (λ i. are_same_rules (rules_at before (sym number i)) (rules_at after (sym number i))) ∙ sym (c.keeps_rules.ensures before entered within) ∙ c.if-keeps_rules.true in
    let left : after ≡ next_state nodes before (Policies by.policy) = entered.after ∙ ap (next_state nodes before) by.command in
    let comes = comes_after before after (ap (λ (s : JournalState). s.receivers) left) (ap (λ (s : JournalState). s.registry) left) in
    let rules : rules_at after track.feed.receiver ≡ rules_at before track.feed.receiver = sym (laws.one (rules_at before track.feed.receiver) (rules_at after track.feed.receiver) same) in
    let lasts = comes.stays slot.feed.sub in
    entered_so (record { one = laws.one; itself = laws.itself }) e before slot track (quiet_by_rules e before by) rules
    (stays nodes before after slot track comes.receivers lasts stands c.absorbed_roots_are_those_of_the_window.ensures.roots
    (same_selected nodes before after slot track comes.receivers lasts stands (ap (λ (s : JournalState). s.rows) left) rules))

pub returns : goal.returns
returns c = λ before by track stands.
    let entered = by.entered in
    let e = c.args.entered.now in
    let nodes = e.present.schema.now in
    let after : JournalState = e.present.state.now in
    let slot = c.args.self.now in
    let laws = c.same_rules_are_one.ensures in
    let number : c.receiver.result ≡ track.feed.receiver = c.receiver.ensures ∙ ap (λ (f : FeedState). f.receiver) stands.feed in
    let within : c.receiver.result < length before.receivers = subst (λ n. n < length before.receivers) (sym c.receiver.ensures) stands.kept.receiver in
    let other : are_same_rules (rules_at before track.feed.receiver) (rules_at after track.feed.receiver) ≡ false =
    (λ i. are_same_rules (rules_at before (sym number i)) (rules_at after (sym number i))) ∙ sym (c.keeps_rules.ensures before entered within) ∙ c.if-keeps_rules.false in
    let left : after ≡ next_state nodes before (Policies by.policy) = entered.after ∙ ap (next_state nodes before) by.command in
    let comes = comes_after before after (ap (λ (s : JournalState). s.receivers) left) (ap (λ (s : JournalState). s.registry) left) in
    let renewed = c.renew.ensures nodes before after comes track stands in
    subst (λ (t : Track). IsSlotOf nodes after c.renew.new.self t) (quietly_entered e before track (quiet_by_rules e before by))
    (ruled (record { one = laws.one; itself = laws.itself }) nodes before after e.entry.now c.renew.new.self (with_next nodes after track) other
    (subst (λ (t : Track). IsSlotOf nodes after c.renew.new.self t) (λ i. with_control (c.position.ensures.count i) (c.stamp.ensures.value i) Rules (with_next nodes after track)) renewed))
