use Rattle.std.proofs.Common.{◌≡◌, List, map, ap, refl, sym, subst, ◌∙◌}
use Rattle.std.specs.Prelude.{filter}
use Rattle.yp_journal.specs.declared.command.Command.{Command}
use Rattle.yp_journal.specs.declared.command.Command.TheVariants.{Edit, Rules}
use Rattle.yp_journal.specs.declared.reply.Reply.{Reply}
use Rattle.yp_journal.specs.History.{JournalState}
use Rattle.yp_attempt.specs.Moments.{Act, Quiet, is_kept_by}
use Rattle.yp_attempt.specs.Tracks.{Track}
use Rattle.yp_moment.specs.Entries.{act_of}
use Rattle.yp_slot.specs.declared.acts.Act.{Act as ActHere}
use Rattle.yp_slot.specs.declared.classes.Class.{Class}
use Rattle.yp_slot.specs.declared.following.Entered.{Entered}
use Rattle.yp_slot.specs.Steps.{IsActOf, act_said, entered_track}
use Rattle.yp_slot.specs.ResultLaws.{when_ok}
use Rattle.yp_roster.specs.Ordered.{AreClassesOf, AreSlotsOf, HaveClasses}
use Rattle.yp_roster.specs.Passed.{HasTree}
use Rattle.yp_roster.proofs.Entered.{kept_all, leaves_by}
use Rattle.yp_roster.proofs.Patched.{classed_after}
use Rattle.yp_roster.proofs.roster.Roster.enter.Goals as goal

-- a patch and a policy do nothing to subscriptions, so that each track stays
all_stay : (e : Entered) (before : JournalState) (act : ActHere) (command : Command) → IsActOf e act → e.entry.now.command ≡ command → ((reply : Reply) (after : JournalState) → act_of command reply after ≡ Quiet) → (tracks : List Track) → filter (is_kept_by (act_said act)) tracks ≡ tracks
all_stay e before act command is by quiet tracks =
    let none : act_said act ≡ Quiet = sym is.said ∙ ap (λ (c : Command). act_of c e.entry.now.reply e.present.state.now) by ∙ quiet e.entry.now.reply e.present.state.now in
    ap (λ (a : Act). filter (is_kept_by a) tracks) none ∙ kept_all Quiet (λ track. refl) tracks

pub enter_patch-requires-clause-entered : goal.enter_patch-requires-clause-entered
enter_patch-requires-clause-entered g c = (
  c.requires.entered.0,
  record { patch = c.in-Edit.field-0; command = c.in-Edit.is; entered = c.requires.entered.1 },
  subst (λ (classes : List Class). AreClassesOf c.args.entered.now.present.schema.now c.requires.entered.0 classes c.args.self.now.slots.items) (sym c.as_slice-classes.ensures.value) c.requires.entered.2,
)

pub enter_patch-requires-clause-tree : goal.enter_patch-requires-clause-tree
enter_patch-requires-clause-tree g c = subst (λ (classes : List Class). HasTree c.args.entered.now classes) (sym c.as_slice-classes.ensures.value) c.requires.tree

pub returns-in-Edit-clause-slots : goal.returns-in-Edit-clause-slots
returns-in-Edit-clause-slots g c = when_ok c.enter_patch.result c.enter_patch.ensures.slots (λ on. λ before tracks entered classed are.
    let e = c.args.entered.now in
    subst (λ (ts : List Track). AreSlotsOf e.present.schema.now e.present.state.now c.enter_patch.new.slots.items (map (entered_track e before) ts)) (sym (all_stay e before c.args.act.now (Edit c.in-Edit.field-0) c.requires.act c.in-Edit.is (λ reply after. refl) tracks))
    (on before tracks (record { patch = c.in-Edit.field-0; command = c.in-Edit.is; entered = entered })
    (subst (λ (classes : List Class). HaveClasses before classes c.args.self.now.slots.items) (sym c.as_slice-classes.ensures.value) classed.each) are))

pub returns-in-Edit-clause-classes : goal.returns-in-Edit-clause-classes
returns-in-Edit-clause-classes g c = when_ok c.enter_patch.result c.enter_patch.ensures.members (λ same.
    let laws = c.what_a_patch_makes_of_slots.ensures in
    classed_after (record { patch = laws.patch; next = laws.next; unmoved = laws.unmoved }) c.args.entered.now c.requires.entered.0 (record { patch = c.in-Edit.field-0; command = c.in-Edit.is; entered = c.requires.entered.1 }) c.args.self.now.classes.all.items c.args.self.now.slots.items c.enter_patch.new.slots.items same c.requires.entered.2)

pub enter_rules-requires : goal.enter_rules-requires
enter_rules-requires g c = (c.requires.entered.0, record { policy = c.in-Rules.field-0; command = c.in-Rules.is; entered = c.requires.entered.1 }, c.requires.entered.3)

pub returns-in_ok-anew-in-Rules-clause-slots : goal.returns-in_ok-anew-in-Rules-clause-slots
returns-in_ok-anew-in-Rules-clause-slots g c = λ before tracks entered classed are.
    let e = c.args.entered.now in
    subst (λ (ts : List Track). AreSlotsOf e.present.schema.now e.present.state.now c.enter_rules.new.slots.items (map (entered_track e before) ts)) (sym (all_stay e before c.args.act.now (Rules c.in-Rules.field-0) c.requires.act c.in-Rules.is (λ reply after. refl) tracks))
    (c.in_ok-anew-in-Rules.ensures.slots before tracks (record { policy = c.in-Rules.field-0; command = c.in-Rules.is; entered = entered }) are)

pub meet-requires : goal.meet-requires
meet-requires g c =
    let those = c.requires.entered in
    record { entered = (those.0, leaves_by c.args.entered.now those.0 those.1 c.in_default.not-Edit c.in_default.not-Rules, those.2, those.3); act = c.requires.act }

pub returns-in_default : goal.returns-in_default
returns-in_default g c = record {
  slots = when_ok c.meet.result c.meet.ensures.slots (λ met. λ before tracks entered classed are. met before tracks (leaves_by c.args.entered.now before entered c.in_default.not-Edit c.in_default.not-Rules) are);
  classes = c.meet.ensures.classes;
}
