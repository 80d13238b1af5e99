use Rattle.std.proofs.Common.{List, map, ap, refl, subst, sym, ◌∙◌}
use Rattle.std.specs.Prelude.{filter}
use Rattle.yp_journal.specs.History.{JournalState}
use Rattle.yp_attempt.specs.Moments.{Act, is_kept_by}
use Rattle.yp_attempt.specs.Tracks.{Track}
use Rattle.yp_slot.specs.Steps.{act_said, entered_track, touches}
use Rattle.yp_roster.specs.Ordered.{AreSlotsOf}
use Rattle.yp_roster.proofs.Classed.{classes_alike}
use Rattle.yp_roster.proofs.Entered.{all_kept, kept_all, pass_quietly}
use Rattle.yp_roster.proofs.roster.Roster.meet.Goals as goal

pub returns-then-not-moves_feeds-clause-slots : goal.returns-then-not-moves_feeds-clause-slots
returns-then-not-moves_feeds-clause-slots c = λ before tracks leaves are.
    let e = c.args.entered.now in
    let nodes = e.present.schema.now in
    let after : JournalState = e.present.state.now in
    let act = act_said c.args.act.now in
    let untouched = c.if-not-moves_feeds.ensures refl in
    subst (λ (ts : List Track). AreSlotsOf nodes after c.args.self.now.slots.items (map (entered_track e before) ts)) (sym (kept_all act untouched.kept tracks))
    (pass_quietly c.an_entry_that_moves_no_selection_leaves_slots.ensures e before leaves (λ id. ap (λ (a : Act). touches a id) c.requires.act.said ∙ untouched.touched id) c.args.self.now.slots.items tracks are)

pub returns-then-not-moves_feeds-clause-classes : goal.returns-then-not-moves_feeds-clause-classes
returns-then-not-moves_feeds-clause-classes c =
    let e = c.args.entered.now in
    let before : JournalState = c.requires.entered.0 in
    let leaves = c.requires.entered.1 in
    classes_alike e.present.schema.now before e.present.state.now (λ number. sym (leaves.rules number)) c.args.self.now.classes.all.items c.args.self.now.slots.items (c.what_an_act_finds.ensures.receivers e before leaves.entered) c.requires.entered.2

pub meet-requires-clause-entered : goal.meet-requires-clause-entered
meet-requires-clause-entered c =
    let e = c.args.entered.now in
    let those = c.requires.entered in
    let act = act_said c.args.act.now in
    (those.0, those.1, (filter (is_kept_by act) those.3.0, all_kept act those.3.0, c.let_go.ensures e.present.schema.now those.0 those.3.0 those.3.1))

pub classify-requires-clause-slots : goal.classify-requires-clause-slots
classify-requires-clause-slots c =
    let e = c.args.entered.now in
    let those = c.requires.entered in
    let act = act_said c.args.act.now in
    (map (entered_track e those.0) (filter (is_kept_by act) those.3.0), c.in_ok-meet.ensures those.0 (filter (is_kept_by act) those.3.0) those.1 (all_kept act those.3.0) (c.let_go.ensures e.present.schema.now those.0 those.3.0 those.3.1))

pub returns-clause-slots : goal.returns-clause-slots
returns-clause-slots c = λ before tracks leaves are.
    let e = c.args.entered.now in
    let act = act_said c.args.act.now in
    c.in_ok-renumbered.ensures.slots (map (entered_track e before) (filter (is_kept_by act) tracks)) (c.in_ok-meet.ensures before (filter (is_kept_by act) tracks) leaves (all_kept act tracks) (c.let_go.ensures e.present.schema.now before tracks are))
