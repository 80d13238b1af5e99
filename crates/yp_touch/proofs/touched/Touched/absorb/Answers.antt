use Rattle.std.proofs.Common.{◌∙◌, sym, ap, subst, map, arith, List}
use Rattle.std.specs.List.{AllByRecursion}
use Rattle.yp_base.specs.declared.path.Seg.{Seg}
use Rattle.yp_changes.specs.declared.changed.ChangedRow.{ChangedRow}
use Rattle.yp_filter.specs.View.{filter_view}
use Rattle.yp_kept.specs.Selection.{selection}
use Rattle.yp_touch.specs.declared.root.Root.{Root}
use Rattle.yp_touch.specs.Absorbed.{absorbed, paths_of}
use Rattle.yp_touch.specs.Looked.{IsBetween, looks_of, roots_found, with_paths}
use Rattle.yp_touch.proofs.Bounds.{step_bound}
use Rattle.yp_touch.proofs.Enough.{changed_have_paths, found_stand, found_absorb}
use Rattle.yp_touch.proofs.Selected.{all_between}
use Rattle.yp_touch.proofs.touched.Touched.absorb.Goals as goal

pub find_roots-requires-clause-between : goal.find_roots-requires-clause-between
find_roots-requires-clause-between g c = subst (AllByRecursion (IsBetween c.args.before.now c.args.after.now)) (sym c.requires.changed) (all_between c.args.before.now c.args.after.now)

pub find_roots-requires-clause-paths : goal.find_roots-requires-clause-paths
find_roots-requires-clause-paths g c = changed_have_paths c.args.schema.now c.args.before.now c.args.after.now c.args.changed.now c.requires.old c.requires.new c.requires.changed

pub invariant_of-self-2 : goal.invariant_of-self-2
invariant_of-self-2 g c =
    let nodes = c.args.schema.now in
    let asked = filter_view c.args.filter.now in
    let may = g.R.Readable.may c.args.readable.now nodes in
    let one = selection nodes asked may c.args.before.now in
    let two = selection nodes asked may c.args.after.now in
    let found = c.in_ok-found.found.items in
    let told = c.in_ok-found.ensures.roots ∙ ap (λ (paths : List (List Seg)). roots_found paths one two (looks_of nodes asked c.args.before.now c.args.after.now (map (λ (row : ChangedRow). row.path) c.args.changed.now))) c.as_slice.ensures.value in
    let put = c.put_roots.ensures.paths ∙ ap (λ (paths : List (List Seg)). with_paths paths (paths_of found)) c.reserve.ensures.items in (
      c.put_roots.ensures.same,
      found_stand nodes c.stands.ensures asked may (g.met.R.Readable.closed c.args.readable.now nodes) c.args.before.now c.args.after.now c.requires.old c.requires.new c.args.changed.now c.requires.changed
          c.self.inside.paths.items c.self.inside.flags.items c.self.invariant.0 c.self.invariant.1 found told c.put_roots.new.paths.items put,
    )

pub returns-clause-roots : goal.returns-clause-roots
returns-clause-roots g c =
    let nodes = c.args.schema.now in
    let asked = filter_view c.args.filter.now in
    let may = g.R.Readable.may c.args.readable.now nodes in
    let one = selection nodes asked may c.args.before.now in
    let two = selection nodes asked may c.args.after.now in
    let found = c.in_ok-found.found.items in
    let told = c.in_ok-found.ensures.roots ∙ ap (λ (paths : List (List Seg)). roots_found paths one two (looks_of nodes asked c.args.before.now c.args.after.now (map (λ (row : ChangedRow). row.path) c.args.changed.now))) c.as_slice.ensures.value in
    let put = c.put_roots.ensures.paths ∙ ap (λ (paths : List (List Seg)). with_paths paths (paths_of found)) c.reserve.ensures.items in
    found_absorb nodes c.stands.ensures asked may (g.met.R.Readable.closed c.args.readable.now nodes) c.args.before.now c.args.after.now c.requires.old c.requires.new c.args.changed.now c.requires.changed
    c.self.inside.paths.items c.self.inside.flags.items c.self.invariant.0 c.self.invariant.1 found told c.put_roots.new.paths.items c.put_roots.new.flags.items put
    (λ was marks each. c.put_roots.ensures.flags was (c.reserve-2.ensures.items ∙ marks ∙ ap (map was) (sym c.reserve.ensures.items)) each)
    ∙ ap (λ (roots : List Root). absorbed roots one two) c.self.view_is

pub returns-clause-visits : goal.returns-clause-visits
returns-clause-visits g c =
    let most = step_bound c.args.schema.now (filter_view c.args.filter.now) c.args.before.now c.args.after.now c.args.changed.now in
    omega (arith, most, c.in_ok-found.ensures.visits)
