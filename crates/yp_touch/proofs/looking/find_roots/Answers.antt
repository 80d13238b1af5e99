use Rattle.std.proofs.Common.{◌≡◌, true}
use Rattle.yp_schema.specs.Datastore.{is_path_of}
use Rattle.yp_filter.specs.View.{filter_view}
use Rattle.yp_kept.specs.Selection.{selection}
use Rattle.yp_touch.specs.Looked.{IsBetween, looks_visits}
use Rattle.yp_touch.proofs.Finding.{found_more, visits_more, rest_have}
use Rattle.yp_touch.proofs.looking.find_roots.Goals as goal

pub loop-row-preserved : goal.loop-row-preserved
loop-row-preserved g c =
    let sides = c.args.sides.now in
    let nodes = sides.schema.now in
    let asked = filter_view sides.filter.now in
    let may = g.R.Readable.may sides.readable.now nodes in
    record {
      between = (rest_have (IsBetween sides.before.now sides.after.now) c.args.changed.now c.loop-row.row-index c.row-item.result c.loop-row-test.true c.row-item.is c.loop-row.invariant.between).1;
      paths = (rest_have (λ row. is_path_of nodes row.path ≡ true) c.args.changed.now c.loop-row.row-index c.row-item.result c.loop-row-test.true c.row-item.is c.loop-row.invariant.paths).1;
      roots = found_more nodes asked sides.before.now sides.after.now sides.roots.now (selection nodes asked may sides.before.now) (selection nodes asked may sides.after.now)
          c.loop-row.found.items c.look_for.new.found.items _ c.args.changed.now c.loop-row.row-index c.row-item.result c.loop-row-test.true c.row-item.is c.loop-row.invariant.roots c.in_ok-look_for.ensures.roots;
      visits = visits_more (λ row. looks_visits nodes asked sides.before.now sides.after.now row.path) c.args.changed.now c.loop-row.row-index _ _ _ c.row-item.result c.loop-row-test.true c.row-item.is c.loop-row.invariant.visits c.in_ok-look_for.ensures.visits;
    }
