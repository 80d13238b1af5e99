use Rattle.yp_slot.proofs.Quiet.{quiet_track}
use Rattle.yp_slot.proofs.laws.a_quiet_slot_was_looked_at.Goals as goal

pub returns-clause-looked : goal.returns-clause-looked
returns-clause-looked c = λ nodes state slot track quiet stands.
    let laws = c.absorbed_roots_are_those_of_the_window.ensures in
    (quiet_track (record { roots = laws.roots; record_is = laws.recorded }) nodes state slot track quiet stands).0

pub returns-clause-none : goal.returns-clause-none
returns-clause-none c = λ nodes state slot track quiet stands.
    let laws = c.absorbed_roots_are_those_of_the_window.ensures in
    (quiet_track (record { roots = laws.roots; record_is = laws.recorded }) nodes state slot track quiet stands).1
