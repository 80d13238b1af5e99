use Rattle.std.proofs.Common.{ap, sym, subst, ◌∙◌, length, map, true≢false}
use Rattle.yp_base.specs.Rows.{path_of}
use Rattle.yp_edit.specs.Bases.{KeepsValues, left}
use Rattle.yp_changes.specs.Among.{is_listed}
use Rattle.yp_edit.proofs.Bases.{none_listed}
use Rattle.yp_edit.proofs.base.Base.new.Goals as goal

pub invariant_of-result : goal.invariant_of-result
invariant_of-result c = (
  record {
    in_order = c.len.ensures.order;
    counted = c.len.ensures.count ∙ ap length (sym (none_listed c.args.tree.now) ∙ ap (λ rows. left (map path_of rows) c.args.tree.now) (sym c.new.ensures));
    none_below = λ path h. absurd (true≢false (sym h ∙ ap (is_listed path) c.new-2.ensures.empty));
  },
  subst (KeepsValues c.args.tree.now) (sym c.new.ensures) (λ path h. absurd (true≢false (sym h))),
  tt,
  tt,
)
