use Rattle.std.proofs.Common.{sym, subst, ◌∙◌}
use Rattle.std.specs.Vec.Iter.{into_iter_items}
use Rattle.std.proofs.lemmas.List.{nil_from_length}
use Rattle.yp_base.specs.Rows.{AreInOrder}
use Rattle.yp_edit.specs.Bases.{Touched}
use Rattle.yp_edit.proofs.Touching.{Touching, none_touched, one_touched, all_touched}
use Rattle.yp_edit.proofs.base.Base.touch_rows.Goals as goal

pub loop-row-init : goal.loop-row-init
loop-row-init c =
    subst (Touching c.args.self.now c.args.self.now c.args.rows.items) (sym c.into_iter-row-iterator.ensures.into_iter_gives.0)
    (none_touched c.args.target.now c.args.self.now c.args.rows.items (subst (λ (b : Touched). AreInOrder b.rows) c.self.view_is c.self.invariant.0.in_order) c.requires)

pub loop-row-preserved : goal.loop-row-preserved
loop-row-preserved c =
    one_touched c.args.self.now c.loop-row.self c.touch_row.new.self c.args.rows.items c.in-Some.row (into_iter_items c.next.new.self)
    (subst (Touching c.args.self.now c.loop-row.self c.args.rows.items) c.in-Some.ensures.steps.0 c.loop-row.invariant) c.in_ok-touch_row.ensures.touched

pub returns-clause-touched : goal.returns-clause-touched
returns-clause-touched c =
    all_touched c.args.target.now c.args.self.now c.loop-row.self c.args.rows.items (subst (λ (b : Touched). AreInOrder b.rows) c.self.view_is c.self.invariant.0.in_order) c.requires
    (subst (Touching c.args.self.now c.loop-row.self c.args.rows.items) (nil_from_length _ (sym c.loop-row.row-iterator.rest.ok.0 ∙ c.in-None.ensures.steps.0)) c.loop-row.invariant)
