use Rattle.std.proofs.Common.{◌≡◌, ◌≤◌, ◌+◌, List, Bool, length, map, vec_len}
use Rattle.std.specs.List.{AllByRecursion}
use Rattle.std.specs.Vec.{vec_capacity}
use Rattle.std.specs.Vec.Iter.{into_iter_items}
use Rattle.yp_base.specs.declared.path.Seg.{Seg}
use Rattle.yp_touch.specs.Absorbed.{AreTopmost, paths_of}
use Rattle.yp_touch.specs.Looked.{with_paths}
use Rattle.yp_touch.proofs.placing.put_roots.Given as goal

-- what is left makes of the paths so far what all make of the first, and there is room for it
abbrev pub invariant-loop-root : goal.invariant-loop-root
invariant-loop-root l = record {
  topmost : AreTopmost l.paths.items;
  same : length l.paths.items ≡ length l.flags.items;
  room : vec_len l.paths + length (into_iter_items l.root-iterator) ≤ vec_capacity l.paths;
  room_too : vec_len l.flags + length (into_iter_items l.root-iterator) ≤ vec_capacity l.flags;
  paths : with_paths l.paths.items (paths_of (into_iter_items l.root-iterator)) ≡ with_paths l.fn.paths.items (paths_of l.fn.roots.items);
  flags : (was : List Seg → Bool) → l.fn.flags.items ≡ map was l.fn.paths.items → AllByRecursion (λ root. root.was ≡ was root.path) l.fn.roots.items
      → (l.flags.items ≡ map was l.paths.items) × AllByRecursion (λ root. root.was ≡ was root.path) (into_iter_items l.root-iterator);
}
