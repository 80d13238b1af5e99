-- The tick is the definition's, which is due; less than a period from the beginning on it is the first.
use Rattle.std.proofs.Common.{rules, arith, ◌+◌, unsigned_abs, to_z, of_z, w64}
use Rattle.yp_time.specs.Due.{next_due_of}
use Rattle.yp_time.specs.DueLaws.{due_at, first_is}
use Rattle.yp_time.proofs.due.next_due.Goals as goal

pub returns-clause-due : goal.returns-clause-due
unfolding next_due_of
returns-clause-due c = due_at c.args.anchor c.args.period c.args.from _ (search rules) (omega arith)

pub returns-clause-first : goal.returns-clause-first
unfolding next_due_of
returns-clause-first c tick late due =
    let ahead = unsigned_abs (to_z w64 (of_z w64 c.rem_euclid-ahead.result)) in
    first_is c.args.anchor c.args.period c.args.from (c.args.from + ahead) tick
    (due_at c.args.anchor c.args.period c.args.from (c.args.from + ahead) (search rules) (omega arith)) (search rules) late due
