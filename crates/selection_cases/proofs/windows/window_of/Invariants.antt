use Rattle.std.proofs.Common.{◌≡◌, true}
use Rattle.std.specs.List.{AllByRecursion}
use Rattle.yp_schema.specs.Datastore.{IsDatastore}
use Rattle.yp_filter.specs.Fits.{filter_fits}
use Rattle.yp_filter.specs.View.{filter_view}
use Rattle.yp_touch.specs.Absorbed.{EndsAsRow, paths_of}
use Rattle.selection_cases.proofs.windows.window_of.Given as goal

abbrev pub invariant-loop-json : goal.invariant-loop-json
invariant-loop-json l = record {
  fits : filter_fits l.setting.schema (filter_view l.window.asked.filter) ≡ true;
  datastore : IsDatastore l.setting.schema l.window.asked.tree;
  same : l.window.before ≡ l.window.asked.tree;
  ends : AllByRecursion (EndsAsRow l.setting.schema) (paths_of l.window.touched);
}

abbrev pub ghosts-go_on : goal.ghosts-go_on
ghosts-go_on a = record { name = a.blank.name; parts = a.blank.parts }
