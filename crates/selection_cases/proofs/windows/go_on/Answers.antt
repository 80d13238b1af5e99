use Rattle.std.proofs.Common.{sym, subst}
use Rattle.yp_schema.specs.Datastore.{IsDatastore}
use Rattle.yp_filter.specs.View.{filter_view}
use Rattle.selection_cases.proofs.Roots.{roots_end}
use Rattle.selection_cases.proofs.windows.go_on.Goals as goal

pub returns-clause-ends : goal.returns-clause-ends
returns-clause-ends g c =
    let nodes = c.args.schema.now in
    let window = c.args.window.now in
    roots_end nodes (filter_view window.asked.filter) window.asked.rules window.touched c.absorb.new.touched window.before c.apply.new.tree c.roots_end_as_rows.ensures.step
    (subst (IsDatastore nodes) (sym c.requires.same) c.requires.datastore) (c.in_ok-changed.ensures.datastore c.requires.datastore) c.requires.ends c.in_ok-absorb.ensures.roots
