use Rattle.std.proofs.Common.{◌≡◌, List, ◌∷◌, Bool, length, sym, ap, subst, ◌∙◌, arith}
use Rattle.std.proofs.lemmas.Slice.Zip.{Zip-more}
use Rattle.std.specs.Iterator.Adapters.{zip_first, zip_second}
use Rattle.std.specs.List.{AllByRecursion}
use Rattle.std.specs.Slice.Iter.{iter_rest}
use Rattle.yp_base.specs.declared.path.Seg.{Seg}
use Rattle.yp_filter.specs.View.{filter_view}
use Rattle.yp_kept.specs.Selection.{selection}
use Rattle.yp_touch.specs.Absorbed.{EndsAsRow, flagged}
use Rattle.yp_touch.specs.Looked.{window_visits}
use Rattle.yp_touch.proofs.Bounds.{window_more}
use Rattle.yp_touch.proofs.Telling.{edit_told, edit_left}
use Rattle.yp_touch.proofs.recording.record_roots.Goals as goal

pub loop-root-preserved-in-Continue-branch-2 : goal.loop-root-preserved-in-Continue-branch-2
loop-root-preserved-in-Continue-branch-2 g c =
    let source = c.args.source.now in
    let asked = filter_view source.filter.now in
    let new = selection source.schema.now asked (g.R.Readable.may source.readable.now source.schema.now) source.tree.now in
    let inv = c.loop-root.invariant in
    let left = c.loop-root.root-iterator in
    let more = c.next.new.self in
    let cut = Zip-more left more c.next.result c.in-Some.root c.in-Some.is c.next.ensures.steps in
    let paths = iter_rest (zip_first more) in
    let flags = iter_rest (zip_second more) in
    let path = c.in-Some.root.0.now in
    let flag = c.in-Some.root.1.now in
    let count = window_more asked source.tree.now (record { path = path; was = flag }) (flagged paths flags) in
    let whole : window_visits asked source.tree.now (flagged (iter_rest (zip_first left)) (iter_rest (zip_second left))) ≡ window_visits asked source.tree.now (record { path = path; was = flag } ∷ flagged paths flags) =
    (λ i. window_visits asked source.tree.now (flagged (cut.0 i) (cut.1 i))) in
    record {
      same = let one = ap (λ (xs : List (List Seg)). length xs) cut.0 in let two = ap (λ (xs : List Bool). length xs) cut.1 in omega (arith, one, two, inv.same);
      ends = (subst (AllByRecursion (EndsAsRow source.schema.now)) cut.0 inv.ends).1;
      edits = edit_told c.args.excluded.now new (iter_rest (zip_first left)) paths (iter_rest (zip_second left)) flags path flag cut.0 cut.1 c.in_ok-change.change c.in_ok-change.ensures.change c.loop-root.changes.items _ inv.edits
          (sym c.is_excluded.ensures ∙ c.if-not-is_excluded.true) c.push.new.self.items c.in_ok-push.ensures.items;
      visits = omega (arith, count, whole, inv.visits, c.in_ok-change.ensures.visits);
    }

pub loop-root-preserved : goal.loop-root-preserved
loop-root-preserved g c =
    let source = c.args.source.now in
    let asked = filter_view source.filter.now in
    let new = selection source.schema.now asked (g.R.Readable.may source.readable.now source.schema.now) source.tree.now in
    let inv = c.loop-root.invariant in
    let left = c.loop-root.root-iterator in
    let more = c.next.new.self in
    let cut = Zip-more left more c.next.result c.in-Some.root c.in-Some.is c.next.ensures.steps in
    let paths = iter_rest (zip_first more) in
    let flags = iter_rest (zip_second more) in
    let path = c.in-Some.root.0.now in
    let flag = c.in-Some.root.1.now in
    let count = window_more asked source.tree.now (record { path = path; was = flag }) (flagged paths flags) in
    let whole : window_visits asked source.tree.now (flagged (iter_rest (zip_first left)) (iter_rest (zip_second left))) ≡ window_visits asked source.tree.now (record { path = path; was = flag } ∷ flagged paths flags) =
    (λ i. window_visits asked source.tree.now (flagged (cut.0 i) (cut.1 i))) in
    record {
      same = let one = ap (λ (xs : List (List Seg)). length xs) cut.0 in let two = ap (λ (xs : List Bool). length xs) cut.1 in omega (arith, one, two, inv.same);
      ends = (subst (AllByRecursion (EndsAsRow source.schema.now)) cut.0 inv.ends).1;
      edits = edit_left c.args.excluded.now new (iter_rest (zip_first left)) paths (iter_rest (zip_second left)) flags path flag cut.0 cut.1 c.in_ok-change.change c.in_ok-change.ensures.change c.loop-root.changes.items _ inv.edits
          (sym c.is_excluded.ensures ∙ c.if-not-is_excluded.false);
      visits = omega (arith, count, whole, inv.visits, c.in_ok-change.ensures.visits);
    }
