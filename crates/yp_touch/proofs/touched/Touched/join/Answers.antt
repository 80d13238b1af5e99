use Rattle.std.proofs.Common.{List, map, sym, ap, ◌∙◌}
use Rattle.yp_base.specs.declared.path.Seg.{Seg}
use Rattle.yp_touch.specs.declared.root.Root.{Root}
use Rattle.yp_touch.specs.Absorbed.{absorbed, flagged, paths_of}
use Rattle.yp_touch.specs.Looked.{uncovered, with_paths}
use Rattle.yp_touch.proofs.Joining.{joined_stand, joined_absorb}
use Rattle.yp_touch.proofs.touched.Touched.join.Goals as goal

pub invariant_of-self-2 : goal.invariant_of-self-2
invariant_of-self-2 c =
    let found = c.in_ok-found.found.items in
    let told = c.in_ok-found.ensures ∙ (λ i. uncovered (c.as_slice.ensures.value i) (flagged (c.as_slice-2.ensures.value i) (c.as_slice-3.ensures.value i))) ∙ ap (uncovered c.self.inside.paths.items) c.step.view_is in
    let put = c.put_roots.ensures.paths ∙ ap (λ (paths : List (List Seg)). with_paths paths (paths_of found)) c.reserve.ensures.items in (
      c.put_roots.ensures.same,
      joined_stand c.self.inside.paths.items c.self.inside.flags.items c.self.invariant.0 c.self.invariant.1 c.args.step.now found told c.put_roots.new.paths.items put,
    )

pub returns-clause-roots : goal.returns-clause-roots
returns-clause-roots c before after is =
    let found = c.in_ok-found.found.items in
    let told = c.in_ok-found.ensures ∙ (λ i. uncovered (c.as_slice.ensures.value i) (flagged (c.as_slice-2.ensures.value i) (c.as_slice-3.ensures.value i))) ∙ ap (uncovered c.self.inside.paths.items) c.step.view_is in
    let put = c.put_roots.ensures.paths ∙ ap (λ (paths : List (List Seg)). with_paths paths (paths_of found)) c.reserve.ensures.items in
    joined_absorb c.self.inside.paths.items c.self.inside.flags.items c.self.invariant.0 c.self.invariant.1 c.args.step.now found told c.put_roots.new.paths.items put before after c.put_roots.new.flags.items is
    (λ was marks each. c.put_roots.ensures.flags was (c.reserve-2.ensures.items ∙ marks ∙ ap (map was) (sym c.reserve.ensures.items)) each)
    ∙ ap (λ (roots : List Root). absorbed roots before after) c.self.view_is
