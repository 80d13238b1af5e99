use Rattle.std.proofs.Common.{◌≡◌, List, length, sym, ap, subst, ◌∙◌, arith}
use Rattle.std.specs.List.{AllByRecursion}
use Rattle.std.specs.Vec.Iter.{into_iter_items}
use Rattle.yp_base.specs.declared.path.Seg.{Seg}
use Rattle.yp_touch.specs.declared.root.Root.{Root}
use Rattle.yp_touch.specs.Absorbed.{AreTopmost, paths_of}
use Rattle.yp_touch.specs.Looked.{with_paths}
use Rattle.yp_touch.proofs.Topped.{with_path_stands}
use Rattle.yp_touch.proofs.placing.put_roots.Goals as goal

pub loop-root-preserved : goal.loop-root-preserved
loop-root-preserved c =
    let rest = into_iter_items c.next.new.self in
    let inv = c.loop-root.invariant in
    let cut = c.in-Some.ensures.steps.0 in
    let count = ap (λ (roots : List Root). length roots) cut in
    record {
      topmost = subst AreTopmost (sym c.put_root.ensures.paths) (with_path_stands c.loop-root.paths.items c.in-Some.root.path inv.topmost);
      same = c.put_root.ensures.same;
      room = omega (arith, count, inv.room, c.put_root.ensures.len, c.put_root.ensures.capacity);
      room_too = omega (arith, count, inv.room_too, c.put_root.ensures.len_too, c.put_root.ensures.capacity_too);
      paths = ap (λ (paths : List (List Seg)). with_paths paths (paths_of rest)) c.put_root.ensures.paths
          ∙ ap (λ (roots : List Root). with_paths c.loop-root.paths.items (paths_of roots)) (sym cut)
          ∙ inv.paths;
      flags = λ was told all.
          let before = inv.flags was told all in
          let each = subst (AllByRecursion (λ (root : Root). root.was ≡ was root.path)) cut before.1 in
          (c.put_root.ensures.flags was before.0 each.0, each.1);
    }
