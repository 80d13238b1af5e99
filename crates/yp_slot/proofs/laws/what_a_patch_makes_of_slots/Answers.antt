use Rattle.std.proofs.Common.{[], refl, sym}
use Rattle.yp_slot.proofs.Entering.{entered_so, leaves, patch_entered, quiet_by_patch}
use Rattle.yp_slot.proofs.laws.what_a_patch_makes_of_slots.Goals as goal

pub returns-clause-patch : goal.returns-clause-patch
returns-clause-patch c = patch_entered

pub returns-clause-next : goal.returns-clause-next
returns-clause-next c = λ e before by slot track is.
    let laws = c.same_rules_are_one.ensures in
    entered_so (record { one = laws.one; itself = laws.itself }) e before slot track (quiet_by_patch e before by) (sym ((patch_entered e before by).rules track.feed.receiver)) is

pub returns-clause-unmoved : goal.returns-clause-unmoved
returns-clause-unmoved c = λ e before by class step slot track shares stands.
    let laws = c.same_rules_are_one.ensures in
    let leave = c.a_step_without_roots_leaves_the_roots.ensures in
    let patch = patch_entered e before by in
    entered_so (record { one = laws.one; itself = laws.itself }) e before slot track (quiet_by_patch e before by) (sym (patch.rules track.feed.receiver))
    (leaves e.present.schema.now before e.present.state.now slot track patch.comes.receivers (patch.comes.stays slot.feed.sub) stands class [] shares step c.absorbed_roots_are_those_of_the_window.ensures.last leave.leaves leave.topmost patch.rules refl)
