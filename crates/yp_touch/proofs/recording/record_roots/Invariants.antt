use Rattle.std.proofs.Common.{◌≡◌, ◌++◌, ◌+◌, ◌≤◌, length}
use Rattle.std.specs.Iterator.Adapters.{zip_first, zip_second}
use Rattle.std.specs.List.{AllByRecursion}
use Rattle.std.specs.Slice.Iter.{iter_rest}
use Rattle.yp_filter.specs.View.{filter_view}
use Rattle.yp_kept.specs.Selection.{selection}
use Rattle.yp_touch.specs.Absorbed.{EndsAsRow, flagged, recorded}
use Rattle.yp_touch.specs.Looked.{window_visits}
use Rattle.yp_touch.proofs.recording.record_roots.Given as goal

-- the edits so far, and those of what is left, are all; and the visits likewise
abbrev pub invariant-loop-root : goal.invariant-loop-root
invariant-loop-root g l = record {
  same : length (iter_rest (zip_first l.root-iterator)) ≡ length (iter_rest (zip_second l.root-iterator));
  ends : AllByRecursion (EndsAsRow l.source.schema.now) (iter_rest (zip_first l.root-iterator));
  edits : l.changes.items ++ recorded l.excluded (flagged (iter_rest (zip_first l.root-iterator)) (iter_rest (zip_second l.root-iterator))) (selection l.source.schema.now (filter_view l.source.filter.now) (g.R.Readable.may l.source.readable.now l.source.schema.now) l.source.tree.now)
      ≡ recorded l.excluded (flagged l.fn.paths l.fn.flags) (selection l.source.schema.now (filter_view l.source.filter.now) (g.R.Readable.may l.source.readable.now l.source.schema.now) l.source.tree.now);
  visits : l.steps + window_visits (filter_view l.source.filter.now) l.source.tree.now (flagged (iter_rest (zip_first l.root-iterator)) (iter_rest (zip_second l.root-iterator))) ≤ l.fn.steps + window_visits (filter_view l.source.filter.now) l.source.tree.now (flagged l.fn.paths l.fn.flags);
}
