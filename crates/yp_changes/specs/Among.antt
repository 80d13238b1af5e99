-- Paths among others.
use Rattle.std.specs.Prelude.{List, Bool}
use Rattle.std.specs.List.{list_any}
use Rattle.std.specs.BTreeMap.{is_at}
use Rattle.yp_base.specs.declared.path.Seg.{Seg}
use Rattle.yp_base.specs.Order.{path_cmp}

-- whether a path is among others
abbrev pub is_listed : List Seg → List (List Seg) → Bool
is_listed path paths = list_any (is_at (path_cmp path)) paths
