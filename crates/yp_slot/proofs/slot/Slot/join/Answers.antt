use Rattle.std.proofs.Common.{sym, ap, ◌∙◌}
use Rattle.yp_feed.specs.Machine.{is_on_change}
use Rattle.yp_slot.proofs.Entering.{joins, passes, waits}
use Rattle.yp_slot.specs.ResultLaws.{when_ok}
use Rattle.yp_slot.proofs.slot.Slot.join.Goals as goal

pub returns-then-not-is_on_change-clause-slot : goal.returns-then-not-is_on_change-clause-slot
returns-then-not-is_on_change-clause-slot c = λ nodes before after those class patch datastore shares is track stands.
    passes nodes before after c.args.self.now track patch.comes.receivers (patch.comes.stays c.args.self.now.feed.sub) stands (sym (c.is_on_change.ensures ∙ ap is_on_change c.trigger.ensures) ∙ c.if-not-is_on_change.true)

pub returns-then-awaits_full-clause-slot : goal.returns-then-awaits_full-clause-slot
returns-then-awaits_full-clause-slot c = λ nodes before after those class patch datastore shares is track stands.
    waits nodes before after c.args.self.now track patch.comes.receivers (patch.comes.stays c.args.self.now.feed.sub) stands (sym c.awaits_full.ensures ∙ c.if-awaits_full.true)

pub returns-clause-slot : goal.returns-clause-slot
returns-clause-slot c = when_ok c.join.result c.join.ensures.roots (λ joined. λ nodes before after those class patch datastore shares is track stands.
    joins nodes before after c.args.self.now track patch.comes.receivers (patch.comes.stays c.args.self.now.feed.sub) stands class c.args.step.now shares is c.absorbed_roots_are_those_of_the_window.ensures.last c.roots_end_as_rows.ensures.step patch.rules patch.datastore datastore
    c.filtered_selection_is_a_datastore.ensures.datastore (sym (c.is_on_change.ensures ∙ ap is_on_change c.trigger.ensures) ∙ c.if-not-is_on_change.false) c.join.new.self joined)
