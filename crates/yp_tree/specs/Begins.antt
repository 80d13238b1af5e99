-- Where the rows past a path and within another begin.
use Rattle.std.specs.Prelude.{◌≡◌, true, false, List}
use Rattle.std.specs.Ordering.{is_lt, is_gt}
use Rattle.std.specs.BTreeMap.Range.{range_contains}
use Rattle.std.specs.declared.ops.Bound.{Bound}
use Rattle.std.specs.declared.ops.Bound.TheVariants.{Unbounded}
use Rattle.yp_base.specs.declared.path.Seg.{Seg}
use Rattle.yp_base.specs.Order.{path_cmp, is_within}

-- from this start on, the rows within `under` are those past `after`, and nothing comes before `under`
pub record Begins (after under : List Seg) (start : Bound (List Seg)) : Type 0 where
  pub from_under : (x : List Seg) → range_contains path_cmp start Unbounded x ≡ true → is_gt (path_cmp under x) ≡ false
  pub past_after : (x : List Seg) → is_within under x ≡ true → range_contains path_cmp start Unbounded x ≡ is_lt (path_cmp after x)
