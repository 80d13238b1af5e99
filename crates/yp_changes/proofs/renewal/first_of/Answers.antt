use Rattle.std.proofs.Common.{sym}
use Rattle.std.proofs.lemmas.List.{nil_from_length}
use Rattle.yp_changes.proofs.Renewals.{less_begins, equal_begins, greater_begins, rows_begin, changes_begin}
use Rattle.yp_changes.proofs.renewal.first_of.Goals.{in-Less, in-Equal, in-Greater}
use Rattle.yp_changes.proofs.renewal.first_of.Goals as goal

pub returns-after-cmp-clause-some : goal.returns-after-cmp-clause-some
returns-after-cmp-clause-some c =
    let rows = c.args.rows.now in
    let changes = c.args.changes.now in
    let both = c.in-Some-Some in
    elim c.match-cmp.branch [
      | in-Less w ↦ rw w.result-is (less_begins rows both.rows_left.now changes both.changes_left.now both.row.now both.change.now c.requires.rows c.requires.changes both.ensures.cases.0 both.ensures'.cases.0 (sym w.in-Less.ensures))
      | in-Equal w ↦ rw w.result-is (equal_begins rows both.rows_left.now changes both.changes_left.now both.row.now both.change.now c.requires.rows c.requires.changes both.ensures.cases.0 both.ensures'.cases.0 _ w.row_after.ensures (sym w.in-Equal.ensures))
      | in-Greater w ↦ rw w.result-is (greater_begins rows both.rows_left.now changes both.changes_left.now both.row.now both.change.now c.requires.rows c.requires.changes both.ensures.cases.0 both.ensures'.cases.0 _ w.row_after-in-Greater.ensures (sym w.in-Greater.ensures))
    ]

pub returns-in-Some-None-clause-some : goal.returns-in-Some-None-clause-some
returns-in-Some-None-clause-some c =
    rows_begin c.args.rows.now c.in-Some-None.rows_left.now c.args.changes.now c.in-Some-None.row.now c.requires.rows c.requires.changes c.in-Some-None.ensures.cases.0 (nil_from_length c.args.changes.now c.in-Some-None.ensures'.cases)

pub returns-in-None-Some-clause-some : goal.returns-in-None-Some-clause-some
returns-in-None-Some-clause-some c =
    changes_begin c.args.rows.now c.args.changes.now c.in-None-Some.changes_left.now c.in-None-Some.change.now _ c.requires.rows c.requires.changes (nil_from_length c.args.rows.now c.in-None-Some.ensures.cases) c.in-None-Some.ensures'.cases.0 c.row_after-in-None-Some.ensures
