use Rattle.std.proofs.Common.{◌≡◌, List, sym, ap, subst, ◌∙◌}
use Rattle.std.specs.List.{AllByRecursion}
use Rattle.yp_base.specs.declared.notice.Change.{Change}
use Rattle.yp_encode.specs.Sendable.{IsSendableChange}
use Rattle.yp_filter.specs.View.{filter_view}
use Rattle.yp_kept.specs.Selection.{selection}
use Rattle.yp_kept.specs.KeptLaws.{kept_in_order, kept_of_schema}
use Rattle.yp_touch.specs.declared.root.Root.{Root}
use Rattle.yp_touch.specs.Absorbed.{EndsAsRow, flagged, paths_of, recorded}
use Rattle.yp_touch.proofs.Absorbing.{flagged_paths}
use Rattle.yp_touch.proofs.Telling.{ok_on}
use Rattle.yp_touch.proofs.Windowed.{recorded_sendable}
use Rattle.yp_touch.proofs.touched.Touched.record.Goals as goal

pub record_roots-requires-clause-ends : goal.record_roots-requires-clause-ends
record_roots-requires-clause-ends g c =
    subst (AllByRecursion (EndsAsRow c.args.schema.now)) (sym (c.as_slice.ensures.value ∙ sym (flagged_paths c.self.inside.paths.items c.self.inside.flags.items c.self.invariant.0) ∙ ap paths_of c.self.view_is)) c.requires.paths

pub returns-clause-sendable : goal.returns-clause-sendable
returns-clause-sendable g c =
    let nodes = c.args.schema.now in
    let asked = filter_view c.args.filter.now in
    let may = g.R.Readable.may c.args.readable.now nodes in
    let new = selection nodes asked may c.args.after.now in
    let roots = flagged c.as_slice.result.now c.as_slice-2.result.now in
    let same : roots ≡ c.args.self.now = (λ i. flagged (c.as_slice.ensures.value i) (c.as_slice-2.ensures.value i)) ∙ c.self.view_is in
    ok_on c.record_roots.result (λ (changes : List Change). changes ≡ recorded c.args.excluded.now roots new) (λ (changes : List Change). AllByRecursion (IsSendableChange nodes) changes)
    (λ changes is. subst (AllByRecursion (IsSendableChange nodes)) (sym is)
    (recorded_sendable nodes new (kept_in_order nodes asked may c.args.after.now c.requires.after.in_order) (kept_of_schema nodes asked may c.args.after.now c.requires.after.of_schema) c.args.excluded.now roots
    (subst (λ (roots : List Root). AllByRecursion (EndsAsRow nodes) (paths_of roots)) (sym same) c.requires.paths)))
    c.record_roots.ensures.changes
