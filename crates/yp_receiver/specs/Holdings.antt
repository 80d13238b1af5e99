-- What receivers hold, as it is kept.
use Rattle.std.specs.Prelude.{List, []}
use Rattle.yp_base.specs.declared.row.Row.{Row}
use Rattle.yp_base.specs.Rows.{put_rows}
use Rattle.yp_receiver.specs.declared.holding.Kept.{Kept}
use Rattle.yp_receiver.specs.declared.holding.Kept.TheVariants.{Told, Compact, Changed}

-- the rows that are held: those that an update told or made, put one after another, or those of a tree
abbrev pub held_rows : Kept → List Row
held_rows (Told rows) = put_rows rows []
held_rows (Compact rows) = put_rows rows []
held_rows (Changed tree) = tree
