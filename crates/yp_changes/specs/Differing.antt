-- The first of the paths of two lists in order, and what is past it.
use Rattle.std.specs.Prelude.{◌≡◌, ◌+◌, ◌<◌, List, length, Option}
use Rattle.std.specs.List.{cons_option}
use Rattle.yp_base.specs.declared.path.Seg.{Seg}
use Rattle.yp_base.specs.declared.row.Value.{Value}
use Rattle.yp_base.specs.declared.row.Row.{Row}
use Rattle.yp_base.specs.Rows.{AreInOrder}
use Rattle.yp_changes.specs.Changes.{change_of, changed_rows}

-- two lists differ at a path as these values do, and past it as these fewer rows do, which are in order
pub record SplitsOff (olds news : List Row) (path : List Seg) (old new : Option Value) (olds_left news_left : List Row) : Type 0 where
  pub olds_order : AreInOrder olds_left
  pub news_order : AreInOrder news_left
  pub fewer : length olds_left + length news_left < length olds + length news
  pub changed : changed_rows olds news ≡ cons_option (change_of path old new) (changed_rows olds_left news_left)
