use Rattle.std.proofs.Common.{ap, sym, ◌∙◌, not, map}
use Rattle.yp_base.specs.declared.row.Row.{Row}
use Rattle.yp_base.specs.Rows.{path_of, next_row}
use Rattle.yp_tree.specs.Listed.{row_of}
use Rattle.yp_edit.specs.Bases.{Touched, untouched}
use Rattle.yp_changes.specs.Among.{is_listed}
use Rattle.yp_edit.proofs.Walking.{next_first, next_picked, next_skipped, none_picked, fewer_left}
use Rattle.yp_edit.proofs.Touching.{listed_there}
use Rattle.yp_edit.proofs.base.Base.next.Goals as goal

pub returns-then-not-has : goal.returns-then-not-has
returns-then-not-has g c =
    let row : Row = row_of (c.in-Some.path.now, c.in-Some.value.now) in
    sym (next_picked (λ path. not (is_listed path (map path_of c.self.inside.touched))) c.loop-path.last.now c.args.under.now c.self.inside.tree.now row (sym c.in-Some.ensures.found) (ap not (listed_there c.in-Some.path.now c.self.inside.touched ∙ sym c.has.ensures ∙ c.if-not-has.true)))
    ∙ c.loop-path.invariant.so_far
    ∙ ap (λ (b : Touched). next_row c.args.after.now c.args.under.now (untouched b)) c.self.view_is

pub loop-path-smaller : goal.loop-path-smaller
loop-path-smaller g c =
    let row : Row = row_of (c.in-Some.path.now, c.in-Some.value.now) in
    fewer_left row _ _ (next_first c.loop-path.last.now c.args.under.now c.self.inside.tree.now row c.loop-path.invariant.order (sym c.in-Some.ensures.found))

pub loop-path-preserved : goal.loop-path-preserved
loop-path-preserved g c =
    let row : Row = row_of (c.in-Some.path.now, c.in-Some.value.now) in
    record {
      order = c.loop-path.invariant.order;
      so_far =
          next_skipped (λ path. not (is_listed path (map path_of c.self.inside.touched))) c.loop-path.last.now c.args.under.now c.self.inside.tree.now row c.loop-path.invariant.order (sym c.in-Some.ensures.found) (ap not (listed_there c.in-Some.path.now c.self.inside.touched ∙ sym c.has.ensures ∙ c.if-not-has.false))
          ∙ c.loop-path.invariant.so_far;
    }

pub returns : goal.returns
returns g c =
    sym (none_picked (λ path. not (is_listed path (map path_of c.self.inside.touched))) c.loop-path.last.now c.args.under.now c.self.inside.tree.now (sym c.in_default.ensures.found))
    ∙ c.loop-path.invariant.so_far
    ∙ ap (λ (b : Touched). next_row c.args.after.now c.args.under.now (untouched b)) c.self.view_is
