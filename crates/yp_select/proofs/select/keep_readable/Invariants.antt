use Rattle.std.proofs.Common.{◌≡◌, ◌++◌, true}
use Rattle.std.specs.Prelude.{IfSome}
use Rattle.std.specs.List.{AllByRecursion}
use Rattle.std.specs.Vec.Iter.{into_iter_items}
use Rattle.yp_schema.specs.Datastore.{IsRowOf}
use Rattle.yp_nacm.specs.Decision.{visible_rows}
use Rattle.yp_select.proofs.select.keep_readable.Given as goal

-- the last entry may be read; the rows seen so far and those of the rows that are left are all
abbrev pub invariant-loop-row : goal.invariant-loop-row
invariant-loop-row g l = record {
  entry : IfSome l.entry (λ above. g.R.Readable.may l.readable l.schema above ≡ true);
  of_schema : AllByRecursion (IsRowOf l.schema) (into_iter_items l.row-iterator);
  seen : l.seen.items ++ visible_rows (g.R.Readable.may l.readable l.schema) (into_iter_items l.row-iterator) ≡ visible_rows (g.R.Readable.may l.readable l.schema) l.fn.rows;
}
