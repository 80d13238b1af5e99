use Rattle.std.proofs.Common.{◌≡◌, ◌∷◌, ◌++◌, [], ◌∙◌, List, length, length-append, sym, ap, subst, arith}
use Rattle.yp_filter.specs.View.{set_view}
use Rattle.yp_nacm.specs.Decision.{visible_rows}
use Rattle.yp_kept.specs.declared.standing.Standing.{Standing}
use Rattle.yp_kept.specs.Standing.{StandOnWay, visits_left}
use Rattle.yp_kept.proofs.OnWay.{left_few, left_last, all_stand}
use Rattle.yp_kept.proofs.standing.stand_to.Goals as goal

pub loop-alloc-init : goal.loop-alloc-init
loop-alloc-init g c =
    let nodes = c.args.visible.now.schema.now in
    record {
      stand = c.requires.stand;
      short = c.requires.short;
      visits = omega (arith, left_few nodes (visible_rows (g.R.Readable.may c.args.visible.now.readable.now nodes) c.args.visible.now.tree.now) (set_view c.args.set.now) c.args.path.now c.args.standings.now.items c.requires.stand);
    }

pub loop-alloc-preserved : goal.loop-alloc-preserved
loop-alloc-preserved g c =
    let nodes = c.args.visible.now.schema.now in
    let rows = visible_rows (g.R.Readable.may c.args.visible.now.readable.now nodes) c.args.visible.now.tree.now in
    let set = set_view c.args.set.now in
    let items = c.loop-alloc.standings.items in
    let next = c.in_ok-next.next in
    let before : c.as_slice.result.now ≡ items = c.as_slice.ensures.value in
    let is : c.push.new.self.items ≡ items ++ next ∷ [] = c.in_ok-push.ensures.items in
    record {
      stand = subst (λ (xs : List Standing). StandOnWay nodes rows set c.args.path.now xs) (ap (λ (xs : List Standing). xs ++ next ∷ []) before ∙ sym is) c.in_ok-next.ensures.stands;
      short = omega (arith, ap (λ (xs : List Standing). length xs) is, length-append items (next ∷ []), c.loop-alloc-test.true, c.len.ensures, c.len-in-loop-alloc.ensures);
      visits = omega (arith, ap (λ (xs : List Standing). visits_left set xs) is, left_last nodes rows set items next, ap (λ (xs : List Standing). visits_left set xs) before, c.in_ok-next.ensures.visits, c.loop-alloc.invariant.visits);
    }

pub returns-clause-stand : goal.returns-clause-stand
returns-clause-stand g c =
    let nodes = c.args.visible.now.schema.now in
    all_stand nodes (visible_rows (g.R.Readable.may c.args.visible.now.readable.now nodes) c.args.visible.now.tree.now) (set_view c.args.set.now) c.args.path.now c.loop-alloc.standings.items c.loop-alloc.invariant.stand
    (omega (arith, c.loop-alloc.invariant.short, c.loop-alloc-test.false, c.len.ensures, c.len-in-loop-alloc.ensures))
