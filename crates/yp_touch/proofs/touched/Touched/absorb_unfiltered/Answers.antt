use Rattle.std.proofs.Common.{◌∙◌, sym, ap, subst, List, map}
use Rattle.std.specs.List.{AllByRecursion}
use Rattle.yp_base.specs.declared.path.Seg.{Seg}
use Rattle.yp_changes.specs.declared.changed.ChangedRow.{ChangedRow}
use Rattle.yp_filter.specs.Filters.{all_rows}
use Rattle.yp_kept.specs.Selection.{selection}
use Rattle.yp_touch.specs.declared.root.Root.{Root}
use Rattle.yp_touch.specs.Absorbed.{absorbed, paths_of}
use Rattle.yp_touch.specs.Looked.{IsBetween, roots_found, with_paths}
use Rattle.yp_touch.proofs.AllRows.{looks_unfiltered}
use Rattle.yp_touch.proofs.Enough.{changed_have_paths, found_stand, found_absorb}
use Rattle.yp_touch.proofs.Selected.{all_between}
use Rattle.yp_touch.proofs.touched.Touched.absorb_unfiltered.Goals as goal

pub find_unfiltered_roots-requires-clause-paths : goal.find_unfiltered_roots-requires-clause-paths
find_unfiltered_roots-requires-clause-paths g c = changed_have_paths c.args.schema.now c.requires.0 c.requires.1 c.args.changed.now c.requires.2 c.requires.3 c.requires.4

pub invariant_of-self-2 : goal.invariant_of-self-2
invariant_of-self-2 g c =
    let nodes = c.args.schema.now in
    let may = g.R.Readable.may c.args.readable.now nodes in
    let changed = c.args.changed.now in
    let before = c.requires.0 in
    let after = c.requires.1 in
    let is = c.requires.4 in
    let one = selection nodes all_rows may before in
    let two = selection nodes all_rows may after in
    let looks : List (List Seg) = map (λ (row : ChangedRow). row.path) changed in
    let found = c.in_ok-found.found.items in
    let told = c.in_ok-found.ensures before after (subst (AllByRecursion (IsBetween before after)) (sym is) (all_between before after))
    ∙ ap (λ (paths : List (List Seg)). roots_found paths one two looks) c.as_slice.ensures.value
    ∙ ap (roots_found c.self.inside.paths.items one two) (sym (looks_unfiltered nodes before after looks)) in
    let put = c.put_roots.ensures.paths ∙ ap (λ (paths : List (List Seg)). with_paths paths (paths_of found)) c.reserve.ensures.items in (
      c.put_roots.ensures.same,
      found_stand nodes c.stands.ensures all_rows may (g.met.R.Readable.closed c.args.readable.now nodes) before after c.requires.2 c.requires.3 changed is
          c.self.inside.paths.items c.self.inside.flags.items c.self.invariant.0 c.self.invariant.1 found told c.put_roots.new.paths.items put,
    )

pub returns-clause-roots : goal.returns-clause-roots
returns-clause-roots g c = λ before after old new is.
    let nodes = c.args.schema.now in
    let may = g.R.Readable.may c.args.readable.now nodes in
    let changed = c.args.changed.now in
    let one = selection nodes all_rows may before in
    let two = selection nodes all_rows may after in
    let looks : List (List Seg) = map (λ (row : ChangedRow). row.path) changed in
    let found = c.in_ok-found.found.items in
    let told = c.in_ok-found.ensures before after (subst (AllByRecursion (IsBetween before after)) (sym is) (all_between before after))
    ∙ ap (λ (paths : List (List Seg)). roots_found paths one two looks) c.as_slice.ensures.value
    ∙ ap (roots_found c.self.inside.paths.items one two) (sym (looks_unfiltered nodes before after looks)) in
    let put = c.put_roots.ensures.paths ∙ ap (λ (paths : List (List Seg)). with_paths paths (paths_of found)) c.reserve.ensures.items in
    found_absorb nodes c.stands.ensures all_rows may (g.met.R.Readable.closed c.args.readable.now nodes) before after old new changed is
    c.self.inside.paths.items c.self.inside.flags.items c.self.invariant.0 c.self.invariant.1 found told c.put_roots.new.paths.items c.put_roots.new.flags.items put
    (λ was marks each. c.put_roots.ensures.flags was (c.reserve-2.ensures.items ∙ marks ∙ ap (map was) (sym c.reserve.ensures.items)) each)
    ∙ ap (λ (roots : List Root). absorbed roots one two) c.self.view_is
