use Rattle.std.proofs.Common.{◌≡◌, List, map, true}
use Rattle.yp_base.specs.declared.path.Seg.{Seg}
use Rattle.yp_schema.specs.Datastore.{is_path_of}
use Rattle.yp_filter.specs.Filters.{all_rows}
use Rattle.yp_kept.specs.Selection.{selection}
use Rattle.yp_changes.specs.declared.changed.ChangedRow.{ChangedRow}
use Rattle.yp_touch.specs.Looked.{IsBetween, roots_found}
use Rattle.yp_touch.proofs.AllRows.{found_all, found_one, one_has}
use Rattle.yp_touch.proofs.Finding.{rest_have}
use Rattle.yp_touch.proofs.unfiltered.find_unfiltered_roots.Goals as goal

pub loop-row-preserved : goal.loop-row-preserved
loop-row-preserved g c =
    let nodes = c.args.schema.now in
    let changed = c.args.changed.now in
    let row = c.row-item.result in
    let selected = selection nodes all_rows (g.R.Readable.may c.args.readable.now nodes) in
    record {
      paths = (rest_have (λ row. is_path_of nodes row.path ≡ true) changed c.loop-row.row-index row c.loop-row-test.true c.row-item.is c.loop-row.invariant.paths).1;
      roots = λ before after between.
          found_one c.args.roots.now (selected before) (selected after) c.loop-row.found.items c.look_at.new.found.items (roots_found c.args.roots.now (selected before) (selected after) (map (λ (row : ChangedRow). row.path) changed)) changed c.loop-row.row-index row c.loop-row-test.true c.row-item.is
          (c.loop-row.invariant.roots before after between)
          (c.in_ok-look_at.ensures before after (one_has (IsBetween before after) changed c.loop-row.row-index row c.loop-row-test.true c.row-item.is between));
    }

pub returns : goal.returns
returns g c =
    let nodes = c.args.schema.now in
    let selected = selection nodes all_rows (g.R.Readable.may c.args.readable.now nodes) in
    let paths : List (List Seg) = map (λ (row : ChangedRow). row.path) c.args.changed.now in
    λ before after between. found_all c.args.roots.now (selected before) (selected after) c.loop-row.found.items (roots_found c.args.roots.now (selected before) (selected after) paths) c.args.changed.now c.loop-row.row-index c.loop-row-test.false (c.loop-row.invariant.roots before after between)
