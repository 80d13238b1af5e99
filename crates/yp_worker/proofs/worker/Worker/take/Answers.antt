use Rattle.std.proofs.Common.{◌≡◌, ◌∙◌, ap, sym, subst, List, ◌∷◌, ◌++◌, [], ℕ}
use Rattle.yp_changes.specs.Changes.{changed_rows}
use Rattle.yp_nacm.specs.declared.compile.UserRules.{UserRules}
use Rattle.yp_journal.specs.History.{JournalState, first_state, state_of}
use Rattle.yp_moment.specs.Entries.{moments_of}
use Rattle.yp_slot.specs.declared.following.Entered.{Entered}
use Rattle.yp_roster.specs.Rosters.{IsClassed, IsIdleAt}
use Rattle.yp_slot.specs.Slots.{AreRulesAt}
use Rattle.yp_roster.specs.Passed.{HasTree}
use Rattle.yp_worker.specs.Workers.{IsFormer}
use Rattle.yp_worker.proofs.States.{is_entered}
use Rattle.yp_worker.proofs.Taken.{Enters, IsFoundBy, for_those, went_on}
use Rattle.yp_worker.proofs.worker.Worker.take.Goals as goal

pub find_former-requires-clause-changed : goal.find_former-requires-clause-changed
find_former-requires-clause-changed c =
    let t = c.requires.taking in
    let before : JournalState = state_of c.args.schema.now (first_state c.requires.receivers) c.requires.entries in
    (before.rows, t.before.datastore.in_order, t.differ ∙ ap (changed_rows before.rows) (sym c.tree-tree.ensures.rows))

pub enter-requires-clause-entered : goal.enter-requires-clause-entered
enter-requires-clause-entered c =
    let t = c.requires.taking in
    let nodes = c.args.schema.now in
    let worker = c.args.self.now in
    let before : JournalState = state_of nodes (first_state c.requires.receivers) c.requires.entries in
    let after : JournalState = worker.state in
    let left = c.in_ok-renewed.ensures nodes before worker.readers t.state t.rules in
    let former : IsFormer before.rows c.find_former.new.kept = c.in_ok-find_former.ensures.former before.rows t.before.datastore.in_order (t.differ ∙ ap (changed_rows before.rows) (sym c.tree-tree.ensures.rows)) t.former in
    let entered = is_entered _ before t.before t.sound t.state t.follows.reply (c.tree_of-before.ensures.rows before.rows former) t.rules
    (subst (λ (rules : List UserRules). AreRulesAt after rules) (sym c.readers_left.ensures) left)
    (c.items.ensures ∙ t.differ) in
    subst (λ (e : Entered). IsFoundBy e worker.roster) (sym c.entered_with-entered.ensures) (before, entered, t.classed, (t.idle.tracks, t.idle.kept))

pub enter-requires-clause-tree : goal.enter-requires-clause-tree
enter-requires-clause-tree c =
    subst (λ (e : Entered). HasTree e c.args.self.now.roster.classes.all.items) (sym c.entered_with-entered.ensures)
    (λ patch is follows. c.tree_of-before.ensures.there ∙ c.in_ok-find_former.ensures.there patch is follows)

pub follow_with-requires-clause-changed : goal.follow_with-requires-clause-changed
follow_with-requires-clause-changed c =
    let t = c.requires.taking in
    let before : JournalState = state_of c.args.schema.now (first_state c.requires.receivers) c.requires.entries in
    let after : JournalState = c.args.self.now.state in
    let former : IsFormer before.rows c.find_former.new.kept = c.in_ok-find_former.ensures.former before.rows t.before.datastore.in_order (t.differ ∙ ap (changed_rows before.rows) (sym c.tree-tree.ensures.rows)) t.former in
    (before.rows, after.rows, t.sound.datastore.in_order, t.differ, former)

pub returns-clause-stands : goal.returns-clause-stands
returns-clause-stands c = λ start receivers mine entries answers t.
    let nodes = c.args.schema.now in
    let worker = c.args.self.now in
    let entry = c.args.entry.now in
    let past = moments_of nodes receivers entries in
    let before : JournalState = state_of nodes (first_state receivers) entries in
    let after : JournalState = worker.state in
    let served : c.as_slice-mine.result.now ≡ mine = c.as_slice-mine.ensures.value ∙ t.served in
    let legal = c.a_legal_journal_goes_on.ensures.legal_more nodes (first_state receivers) entries entry t.legal t.follows in
    let left = c.in_ok-renewed.ensures nodes before worker.readers t.state t.rules in
    let former : IsFormer before.rows c.find_former.new.kept = c.in_ok-find_former.ensures.former before.rows t.before.datastore.in_order (t.differ ∙ ap (changed_rows before.rows) (sym c.tree-tree.ensures.rows)) t.former in
    let entered = is_entered _ before t.before t.sound t.state t.follows.reply (c.tree_of-before.ensures.rows before.rows former) t.rules
    (subst (λ (rules : List UserRules). AreRulesAt after rules) (sym c.readers_left.ensures) left)
    (c.items.ensures ∙ t.differ) in
    let idle = subst (λ (numbers : List ℕ). IsIdleAt nodes before numbers past answers worker.roster.slots.items) (sym served) t.idle in
    let enters = subst (λ (e : Entered). Enters e c.as_slice-mine.result.now worker.roster c.enter.new.roster) c.entered_with-entered.ensures c.in_ok-enter.ensures.stands in
    let roster = enters before past answers entered t.classed idle (c.a_roster_follows_a_journal.ensures.follows _ receivers entries t.schema legal entered) in
    went_on nodes start receivers mine (entries ++ entry ∷ []) answers _ t.schema legal t.begun t.served
    (t.state ∙ sym (c.a_journal_goes_on_entry_by_entry.ensures.entries nodes (first_state receivers) entries entry)) t.sound
    (subst (λ (rules : List UserRules). AreRulesAt after rules) (sym c.renew.ensures) left)
    (c.in_ok-follow_with.ensures before.rows after.rows t.sound.datastore.in_order t.differ former)
    (subst (λ (e : Entered). IsClassed e.present.schema.now e.present.state.now c.enter.new.roster) c.entered_with-entered.ensures c.in_ok-enter.ensures.classed)
    (c.let_go.ensures nodes before after t.before.datastore.in_order t.sound.datastore.in_order t.state t.differ t.contents)
    (c.a_roster_follows_a_journal.ensures.roster _ receivers entries mine answers c.enter.new.roster.slots.items t.schema legal entered
    (for_those nodes after c.as_slice-mine.result.now mine answers c.enter.new.roster.slots.items served roster)).stands
