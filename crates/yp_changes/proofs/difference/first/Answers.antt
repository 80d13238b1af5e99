use Rattle.std.proofs.Common.{sym}
use Rattle.std.proofs.lemmas.List.{nil_from_length}
use Rattle.yp_changes.proofs.Splitting.{less_splits, equal_splits, greater_splits, olds_split, news_split}
use Rattle.yp_changes.proofs.difference.first.Goals.{in-Less, in-Equal, in-Greater}
use Rattle.yp_changes.proofs.difference.first.Goals as goal

pub returns-after-cmp-clause-first : goal.returns-after-cmp-clause-first
returns-after-cmp-clause-first c =
    let olds = c.args.olds.now in
    let news = c.args.news.now in
    let both = c.in-Some-Some in
    elim c.match-cmp.branch [
      | in-Less w ↦ rw w.result-is (less_splits olds news both.olds_left.now both.news_left.now both.old.now both.new.now c.requires.olds c.requires.news both.ensures.cases.0 both.ensures'.cases.0 (sym w.in-Less.ensures))
      | in-Equal w ↦ rw w.result-is (equal_splits olds news both.olds_left.now both.news_left.now both.old.now both.new.now c.requires.olds c.requires.news both.ensures.cases.0 both.ensures'.cases.0 (sym w.in-Equal.ensures))
      | in-Greater w ↦ rw w.result-is (greater_splits olds news both.olds_left.now both.news_left.now both.old.now both.new.now c.requires.olds c.requires.news both.ensures.cases.0 both.ensures'.cases.0 (sym w.in-Greater.ensures))
    ]

pub returns-in-Some-None-clause-first : goal.returns-in-Some-None-clause-first
returns-in-Some-None-clause-first c =
    olds_split c.args.olds.now c.args.news.now c.in-Some-None.olds_left.now c.in-Some-None.old.now c.requires.olds c.requires.news c.in-Some-None.ensures.cases.0 (nil_from_length c.args.news.now c.in-Some-None.ensures'.cases)

pub returns-in-None-Some-clause-first : goal.returns-in-None-Some-clause-first
returns-in-None-Some-clause-first c =
    news_split c.args.olds.now c.args.news.now c.in-None-Some.news_left.now c.in-None-Some.new.now c.requires.olds c.requires.news (nil_from_length c.args.olds.now c.in-None-Some.ensures.cases) c.in-None-Some.ensures'.cases.0
