-- The calendar has a date exactly if jiff makes one of its parts.
use Rattle.std.proofs.Common.{◌≡◌, arith, pos, to_z, w8, w16}
use Rattle.jiff_core.proofs.SignedLemmas.{signed_casts}
use Rattle.yp_time.proofs.Dates.{date_tells}
use Rattle.yp_time.proofs.clock.date_of.Goals as goal

pub returns-clause-value : goal.returns-clause-value
returns-clause-value c =
    let year : to_z w16 c.args.year ≡ pos c.args.year = omega (arith, signed_casts) in
    let month : to_z w8 c.args.month ≡ pos c.args.month = omega (arith, signed_casts) in
    let day : to_z w8 c.args.day ≡ pos c.args.day = omega (arith, signed_casts) in
    rw c.ok.ensures.value
    (date_tells c.new.result c.args.year c.args.month c.args.day c.requires.0 c.requires.1
    (rw (year, month, day) at c.new.ensures.succeeds) (rw (year, month, day) at c.new.ensures.value))
