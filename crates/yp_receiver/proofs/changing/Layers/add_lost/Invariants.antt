use Rattle.std.proofs.Common.{◌≡◌, ◌++◌, map}
use Rattle.std.specs.Vec.Iter.{into_iter_items}
use Rattle.yp_base.specs.Rows.{row_of, rows_within}
use Rattle.yp_receiver.specs.Gone.{lost_paths}
use Rattle.yp_receiver.proofs.changing.Layers.add_lost.Given as goal

-- the paths so far, and those to come
abbrev pub invariant-loop-path : goal.invariant-loop-path
invariant-loop-path g l = record {
  paths : l.gone.items ++ lost_paths l.fn.self.news (map (λ each. row_of (each.0.now, each.1.now)) (into_iter_items l.path-iterator)) ≡ l.fn.gone.items ++ lost_paths l.fn.self.news (rows_within l.target l.fn.self.rows.now);
  same : l.self ≡ l.fn.self;
}
