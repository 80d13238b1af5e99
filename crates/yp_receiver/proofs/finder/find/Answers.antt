use Rattle.std.proofs.Common.{◌≡◌, ◌∷◌, [], List, sym, ap, subst, ◌∙◌}
use Rattle.std.specs.Prelude.{is_some}
use Rattle.std.proofs.lemmas.List.{nil_from_length}
use Rattle.yp_base.specs.declared.path.Seg.{Seg}
use Rattle.yp_base.specs.declared.row.Row.{Row}
use Rattle.yp_base.specs.Rows.{value_at, AreInOrder}
use Rattle.yp_receiver.specs.Finding.{AreLeft}
use Rattle.yp_receiver.proofs.Finding.{fewer_left, found_first, none_first, found_left}
use Rattle.yp_receiver.proofs.finder.find.Goals as goal

-- what is found among the rows that are left is found among all
found_so : (path : List Seg) (rows left some : List Row) → AreLeft path rows left → left ≡ some → is_some (value_at path some) ≡ is_some (value_at path rows)
found_so path rows left some are is = ap (λ (each : List Row). is_some (value_at path each)) (sym is) ∙ ap is_some (found_left path rows left are)

pub loop-first-preserved : goal.loop-first-preserved
loop-first-preserved c =
    fewer_left c.args.path.now c.args.rows.now c.in-Some.first.now c.in-Some.later.now (sym c.in-Less.ensures)
    (subst (AreLeft c.args.path.now c.args.rows.now) c.in-Some.ensures.cases.0 c.loop-first.invariant)

pub returns-in-Equal-clause-found : goal.returns-in-Equal-clause-found
returns-in-Equal-clause-found c =
    sym (found_first c.in-Some.first.now c.in-Some.later.now c.args.path.now (sym c.in-Equal.ensures))
    ∙ found_so c.args.path.now c.args.rows.now c.loop-first.left.now (c.in-Some.first.now ∷ c.in-Some.later.now) c.loop-first.invariant c.in-Some.ensures.cases.0

pub returns-in-Greater-clause-found : goal.returns-in-Greater-clause-found
returns-in-Greater-clause-found c =
    sym (none_first c.in-Some.first.now c.in-Some.later.now c.args.path.now (subst AreInOrder c.in-Some.ensures.cases.0 c.loop-first.invariant.1) (sym c.in-Greater.ensures))
    ∙ found_so c.args.path.now c.args.rows.now c.loop-first.left.now (c.in-Some.first.now ∷ c.in-Some.later.now) c.loop-first.invariant c.in-Some.ensures.cases.0

pub returns-clause-found : goal.returns-clause-found
returns-clause-found c =
    found_so c.args.path.now c.args.rows.now c.loop-first.left.now [] c.loop-first.invariant (nil_from_length c.loop-first.left.now c.in_default.ensures.cases)
