use Rattle.std.proofs.Common.{◌≡◌, List, Some, arith, map, refl, ap, sym, subst, ◌∙◌}
use Rattle.std.specs.Prelude.{filter}
use Rattle.yp_registry.specs.Registry.{Subscriptions, live_at}
use Rattle.yp_terms.specs.Terms.{Terms}
use Rattle.yp_journal.specs.History.{JournalState}
use Rattle.yp_attempt.specs.Moments.{Act, is_kept_by}
use Rattle.yp_attempt.specs.Runs.{AreById, first_offer}
use Rattle.yp_attempt.specs.Tracks.{Track}
use Rattle.yp_moment.specs.Windows.{recorded}
use Rattle.yp_slot.specs.declared.records.Told.{Told}
use Rattle.yp_slot.specs.Records.{AreTold}
use Rattle.yp_slot.specs.ResultLaws.{when_ok}
use Rattle.yp_slot.specs.Steps.{HasLiveTerms, act_said, entered_moment, entered_track}
use Rattle.yp_roster.specs.Rosters.{standing_at}
use Rattle.yp_roster.proofs.Entered.{kept_all}
use Rattle.yp_roster.proofs.Quiet.{quiet_none}
use Rattle.yp_roster.proofs.Taking.{entered_alone, entered_starting, entered_sub, idle_by_id, map_by_id}
use Rattle.yp_roster.proofs.roster.Roster.absorb.Goals as goal

pub enter-requires-clause-entered : goal.enter-requires-clause-entered
enter-requires-clause-entered g c = let those = c.requires.entered in (those.0, those.1, those.2.classes, those.3)

pub enter-requires-clause-act : goal.enter-requires-clause-act
enter-requires-clause-act g c =
    let after : JournalState = c.args.entered.now.present.state.now in
    let live : c.live-live.result.now ≡ after.registry.live = c.live-live.ensures ∙ ap (λ (r : Subscriptions). r.live) c.registry.ensures.registry in
    record { said = c.act_of-act.ensures.said after live; live = subst (λ (those : List Terms). HasLiveTerms those c.act_of-act.result) live c.act_of-act.ensures.live }

pub start-requires-clause-present : goal.start-requires-clause-present
start-requires-clause-present g c = c.requires.entered.1.present

pub start-requires-clause-terms : goal.start-requires-clause-terms
start-requires-clause-terms g c =
    let e = c.args.entered.now in
    let after : JournalState = e.present.state.now in
    let terms = c.in-Some.terms.now in
    let live : c.live-live.result.now ≡ after.registry.live = c.live-live.ensures ∙ ap (λ (r : Subscriptions). r.live) c.registry.ensures.registry in
    c.what_an_act_finds.ensures.terms e c.requires.entered.0 c.requires.entered.1 terms
    (subst (λ (those : List Terms). live_at terms.id those ≡ Some terms) live (c.in-Some.ensures.live c.live-live.result.now c.act_of-act.ensures.live))

pub returns-in-Some-clause-stands : goal.returns-in-Some-clause-stands
returns-in-Some-clause-stands g c = when_ok c.start.result c.start.ensures.slots (λ begun. λ before past answers entered classed idle follows.
    let e = c.args.entered.now in
    let nodes = e.present.schema.now in
    let after : JournalState = e.present.state.now in
    let mine = c.args.mine.now in
    let slots = c.args.self.now.slots.items in
    let terms = c.in-Some.terms.now in
    let act : Act = act_said c.act_of-act.result in
    let looks = c.a_look_changes_nothing.ensures in
    let live : c.live-live.result.now ≡ after.registry.live = c.live-live.ensures ∙ ap (λ (r : Subscriptions). r.live) c.registry.ensures.registry in
    let there : live_at terms.id after.registry.live ≡ Some terms = subst (λ (those : List Terms). live_at terms.id those ≡ Some terms) live (c.in-Some.ensures.live c.live-live.result.now c.act_of-act.ensures.live) in
    let taken = c.a_worker_takes_the_next_entry.ensures recorded c.what_feeds_know_of_selections_is_lawful.ensures mine past answers (standing_at before idle.tracks) (entered_moment e before) idle.stands (ap (first_offer recorded before.stamp) idle.looked ∙ idle.none) follows in
    let kept : List Track = filter (is_kept_by act) idle.tracks in
    let ordered : AreById kept = subst AreById (sym (kept_all act (λ (t : Track). ap (λ (a : Act). is_kept_by a t) c.in-Some.ensures.said) idle.tracks))
    (idle_by_id (λ others those given standing s. c.tracks_are_asked_in_the_order_of_ids.ensures recorded others those given s.run s.reaches) nodes before mine past answers slots idle) in
    entered_starting c.a_record_is_set_aside_once.ensures e before (record { looks = looks.looks; looked_twice = looks.looked_twice }) entered mine past answers slots idle taken act terms (c.act_of-act.ensures.said after live) c.in-Some.ensures.said c.start.new.slots.items
    (begun (entered_moment e before) (map (entered_track e before) kept) (record { stamp = refl; selection = λ id receiver. refl }) there (map_by_id (entered_track e before) (entered_sub e before) kept ordered)
    (c.in_ok-enter.ensures.slots before idle.tracks entered classed.classes idle.kept)))

pub returns-in-None-clause-stands : goal.returns-in-None-clause-stands
returns-in-None-clause-stands g c = λ before past answers entered classed idle follows.
    let e = c.args.entered.now in
    let after : JournalState = e.present.state.now in
    let looks = c.a_look_changes_nothing.ensures in
    let live : c.live-live.result.now ≡ after.registry.live = c.live-live.ensures ∙ ap (λ (r : Subscriptions). r.live) c.registry.ensures.registry in
    let taken = c.a_worker_takes_the_next_entry.ensures recorded c.what_feeds_know_of_selections_is_lawful.ensures c.args.mine.now past answers (standing_at before idle.tracks) (entered_moment e before) idle.stands (ap (first_offer recorded before.stamp) idle.looked ∙ idle.none) follows in
    entered_alone c.a_record_is_set_aside_once.ensures e before (record { looks = looks.looks; looked_twice = looks.looked_twice }) entered c.args.mine.now past answers c.args.self.now.slots.items idle taken
    (act_said c.act_of-act.result) (c.act_of-act.ensures.said after live) (c.in-None.ensures.none refl) c.enter.new.self.slots.items (c.in_ok-enter.ensures.slots before idle.tracks entered classed.classes idle.kept)

pub returns-in-Some-clause-classed : goal.returns-in-Some-clause-classed
returns-in-Some-clause-classed g c = when_ok c.start.result c.start.ensures.classes (λ begun.
    let present = c.args.entered.now.present in
    record {
      classes = begun c.in_ok-enter.ensures.classes;
      told = subst (λ (those : List Told). AreTold present.schema.now present.state.now c.start.new.classes.items those) (sym c.new.ensures.items) tt;
      within = omega arith;
      quiet = quiet_none present.state.now c.start.new.slots.items;
    })

pub returns-in-None-clause-classed : goal.returns-in-None-clause-classed
returns-in-None-clause-classed g c =
    let present = c.args.entered.now.present in
    record {
      classes = c.in_ok-enter.ensures.classes;
      told = subst (λ (those : List Told). AreTold present.schema.now present.state.now c.enter.new.self.classes.all.items those) (sym c.new.ensures.items) tt;
      within = omega arith;
      quiet = quiet_none present.state.now c.enter.new.self.slots.items;
    }
