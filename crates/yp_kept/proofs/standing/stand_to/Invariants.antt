use Rattle.std.proofs.Common.{◌≤◌, ◌+◌, ◌-◌, length}
use Rattle.yp_filter.specs.Filters.{set_size}
use Rattle.yp_filter.specs.View.{set_view}
use Rattle.yp_nacm.specs.Decision.{visible_rows}
use Rattle.yp_kept.specs.Standing.{StandOnWay, visits_left}
use Rattle.yp_kept.proofs.standing.stand_to.Given as goal

-- what stands so far stands on the way, and leaves visits for what is left of it
abbrev pub invariant-loop-alloc : goal.invariant-loop-alloc
invariant-loop-alloc g l = record {
  stand : StandOnWay l.visible.schema.now (visible_rows (g.R.Readable.may l.visible.readable.now l.visible.schema.now) l.visible.tree.now) (set_view l.set) l.path l.standings.items;
  short : length l.standings.items ≤ length l.path + 1;
  visits : l.steps + visits_left (set_view l.set) l.standings.items ≤ l.fn.steps + set_size (set_view l.set);
}

abbrev pub decreases-loop-alloc : goal.decreases-loop-alloc
decreases-loop-alloc g l = length l.path + 1 - length l.standings.items
