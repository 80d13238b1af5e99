-- Rows that are gathered entry by entry.
use Rattle.std.specs.Prelude.{List}
use Rattle.yp_base.specs.declared.row.Row.{Row}
use Rattle.yp_tree.specs.declared.gathering.Gathered.{Gathered}
use Rattle.yp_tree.specs.declared.gathering.Gathered.TheVariants.{Rising, Scattered}

-- the rows that are kept
abbrev pub gathered_rows : Gathered → List Row
gathered_rows (Rising rows) = rows
gathered_rows (Scattered rows) = rows
