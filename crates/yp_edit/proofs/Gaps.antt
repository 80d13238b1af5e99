-- Where the tree has no rows.
use Rattle.std.proofs.Common.{◌≡◌, List, true, false, true≢false, Option, Some, None, sym, ap, subst, ◌∙◌, refl, slice_get}
use Rattle.std.specs.Prelude.{option_map}
use Rattle.std.specs.Ordering.{is_eq, is_le, is_lt}
use Rattle.std.proofs.lemmas.Bool.{and_parts}
use Rattle.std.proofs.lemmas.Cmp.{tied_itself}
use Rattle.yp_base.specs.declared.path.Seg.{Seg}
use Rattle.yp_base.specs.declared.row.Row.{Row}
use Rattle.yp_base.specs.Order.{path_cmp}
use Rattle.yp_base.specs.OrderLaws.{paths_total}
use Rattle.yp_base.specs.Rows.{path_of, value_at, AreInOrder}
use Rattle.yp_tree.specs.Gaps.{rows_from, IsGap}
use Rattle.yp_tree.specs.GapLaws.{none_between, first_past}
use Rattle.yp_edit.specs.declared.base.Gap.{Gap}
use Rattle.yp_edit.specs.Bases.{is_in_gap, LeaveGap}

-- a path is at itself
at_itself : (path : List Seg) → is_le (path_cmp path path) ≡ true
at_itself path = ap is_le (tied_itself paths_total path)

-- up to the first row from a path on there is none
pub gap_to : (path : List Seg) (rows : List Row) (first : Row) → AreInOrder rows → slice_get (rows_from path rows) 0 ≡ Some first → IsGap path (Some first.path) rows
gap_to path rows first order found = subst (λ (end : Option (List Seg)). IsGap path end rows) (ap (option_map path_of) found) (none_between path rows order)

-- where there is no such row, there is none from the path on
pub gap_on : (path : List Seg) (rows : List Row) → AreInOrder rows → slice_get (rows_from path rows) 0 ≡ None → IsGap path None rows
gap_on path rows order found = subst (λ (end : Option (List Seg)). IsGap path end rows) (ap (option_map path_of) found) (none_between path rows order)

-- where the first row from a path on has another path, the path has none
pub not_here : (path : List Seg) (rows : List Row) (first : Row) → AreInOrder rows → slice_get (rows_from path rows) 0 ≡ Some first → is_eq (path_cmp path first.path) ≡ false → value_at path rows ≡ None
not_here path rows first order found other = gap_to path rows first order found path (at_itself path) (ap is_lt (first_past path rows first found other))

pub none_on : (path : List Seg) (rows : List Row) → AreInOrder rows → slice_get (rows_from path rows) 0 ≡ None → value_at path rows ≡ None
none_on path rows order found = gap_on path rows order found path (at_itself path) refl

-- a path in a gap has no row
pub none_in_gap : (gap : Option Gap) (path : List Seg) (rows : List Row) → LeaveGap gap rows → is_in_gap gap path ≡ true → value_at path rows ≡ None
none_in_gap None path rows leaves within = absurd (true≢false (sym within))
none_in_gap (Some gap) path rows leaves within = let parts = and_parts _ _ within in leaves path parts.0 parts.1
