use Rattle.std.proofs.Common.{arith}
use Rattle.yp_slot.specs.Classes.{HasClass}
use Rattle.yp_roster.proofs.Classed.{member_there, members_put}
use Rattle.yp_roster.proofs.Placing.{turn_slot, turns}
use Rattle.yp_slot.specs.ResultLaws.{when_is_ok, when_ok}
use Rattle.yp_roster.proofs.Quiet.{put_before, quiet_next}
use Rattle.yp_roster.proofs.roster.look_at.Goals as goal

pub look-requires-clause-slot : goal.look-requires-clause-slot
look-requires-clause-slot g c =
    let present = c.args.present.now in
    turn_slot present.schema.now present.state.now c.requires.looked.0 c.args.place c.args.slots.now.items c.index_mut.result.now c.requires.looked.1 c.requires.place c.index_mut.ensures.value

pub look-requires-clause-class : goal.look-requires-clause-class
look-requires-clause-class g c = member_there (HasClass c.args.present.now.state.now c.args.classes.now.all.items) c.args.slots.now.items c.args.place c.index_mut.result.now c.requires.classes c.requires.place c.index_mut.ensures.value

pub returns-clause-turn : goal.returns-clause-turn
returns-clause-turn g c = when_is_ok c.look.result c.look.ensures.look (λ found look. λ tracks looked.
    let present = c.args.present.now in
    turns present.schema.now present.state.now tracks c.args.place c.args.slots.now.items c.index_mut.result.now c.look.new.self found looked c.requires.place c.index_mut.ensures.value look)

pub returns-clause-members : goal.returns-clause-members
returns-clause-members g c = when_ok c.look.result c.look.ensures.member (λ same. members_put c.args.slots.now.items c.args.place c.index_mut.result.now c.look.new.self c.requires.place c.index_mut.ensures.value same)

pub returns-clause-before : goal.returns-clause-before
returns-clause-before g c = when_ok c.look.result c.look.ensures.member (λ same. put_before c.args.place c.args.slots.now.items c.args.place c.look.new.self (omega arith))

pub returns-clause-quiet : goal.returns-clause-quiet
returns-clause-quiet g c = when_is_ok c.look.result c.look.ensures.quiet (λ found quiet. λ none all.
    quiet_next c.args.present.now.state.now c.args.slots.now.items c.args.place c.look.new.self c.requires.place (quiet none) all)
