-- What the first row from a path on tells.
use Rattle.std.proofs.Common.{◌≡◌, List, [], ◌∷◌, Bool, true, false, refl, sym, ap, ◌∙◌, cond, Some, None, slice_get}
use Rattle.std.specs.Prelude.{option_map}
use Rattle.std.specs.Ordering.{is_eq, is_le}
use Rattle.std.specs.declared.cmp.Ordering.{Ordering}
use Rattle.std.specs.declared.cmp.Ordering.TheVariants.{Less, Equal, Greater}
use Rattle.yp_base.specs.declared.path.Seg.{Seg}
use Rattle.yp_base.specs.declared.row.Row.{Row}
use Rattle.yp_base.specs.Order.{path_cmp}
use Rattle.yp_base.specs.Rows.{path_of, value_at, AreInOrder}
use Rattle.yp_base.specs.PathLaws.{are_one, less_told}
use Rattle.yp_base.specs.RowLaws.{all_past, first_order, rest_order, none_past}
use Rattle.yp_tree.specs.Gaps.{rows_from, is_before, IsGap}

not_le_not_eq : (o : Ordering) → is_le o ≡ false → is_eq o ≡ false
not_le_not_eq Less h = cc
not_le_not_eq Equal h = cc
not_le_not_eq Greater h = refl

-- no row has a path between one and the first row that isn't before it
pub none_between : (from : List Seg) (rows : List Row) → AreInOrder rows → IsGap from (option_map path_of (slice_get (rows_from from rows) 0)) rows
none_between from [] order path here before = refl
none_between from (row ∷ rows) order path here before =
    elim (is_le (path_cmp from row.path)) as (λ b. is_le (path_cmp from row.path) ≡ b → is_before path (option_map path_of (slice_get (cond b (row ∷ rows_from from rows) (rows_from from rows)) 0)) ≡ true → value_at path (row ∷ rows) ≡ None) [
      | true ↦ λ h k.
          let less = less_told _ k in
          none_past path (row ∷ rows) (less, all_past path row.path rows less (first_order row rows order))
      | false ↦ λ h k.
          let other : is_eq (path_cmp path row.path) ≡ false = elim (is_eq (path_cmp path row.path)) as (λ b. is_eq (path_cmp path row.path) ≡ b → b ≡ false) [
            | true ↦ λ e. sym (ap (λ p. is_le (path_cmp from p)) (sym (are_one path row.path e)) ∙ here) ∙ h
            | false ↦ λ e. refl
          ] refl in
          ap (λ b. cond b (Some row.value) (value_at path rows)) other ∙ none_between from rows (rest_order row rows order) path here k
    ] refl before

-- where the first row that isn't before a path has this path, its value is the one there
pub first_at_it : (path : List Seg) (rows : List Row) (first : Row) → slice_get (rows_from path rows) 0 ≡ Some first → is_eq (path_cmp path first.path) ≡ true → value_at path rows ≡ Some first.value
first_at_it path [] first found same = cc
first_at_it path (row ∷ rows) first found same =
    elim (is_le (path_cmp path row.path)) as (λ b. is_le (path_cmp path row.path) ≡ b → slice_get (cond b (row ∷ rows_from path rows) (rows_from path rows)) 0 ≡ Some first → value_at path (row ∷ rows) ≡ Some first.value) [
      | true ↦ λ h k.
          let one : row ≡ first = cc in
          ap (λ b. cond b (Some row.value) (value_at path rows)) (ap (λ (r : Row). is_eq (path_cmp path r.path)) one ∙ same) ∙ ap (λ (r : Row). Some r.value) one
      | false ↦ λ h k. ap (λ b. cond b (Some row.value) (value_at path rows)) (not_le_not_eq _ h) ∙ first_at_it path rows first k same
    ] refl found

past_not_eq : (o : Ordering) → is_le o ≡ true → is_eq o ≡ false → o ≡ Less
past_not_eq Less h k = refl
past_not_eq Equal h k = cc
past_not_eq Greater h k = cc

-- the first row that isn't before a path is at it or past it
first_from : (path : List Seg) (rows : List Row) (first : Row) → slice_get (rows_from path rows) 0 ≡ Some first → is_le (path_cmp path first.path) ≡ true
first_from path [] first found = cc
first_from path (row ∷ rows) first found =
    elim (is_le (path_cmp path row.path)) as (λ b. is_le (path_cmp path row.path) ≡ b → slice_get (cond b (row ∷ rows_from path rows) (rows_from path rows)) 0 ≡ Some first → is_le (path_cmp path first.path) ≡ true) [
      | true ↦ λ h k. let one : row ≡ first = cc in ap (λ (r : Row). is_le (path_cmp path r.path)) (sym one) ∙ h
      | false ↦ λ h k. first_from path rows first k
    ] refl found

-- where it has another path, it is past it
pub first_past : (path : List Seg) (rows : List Row) (first : Row) → slice_get (rows_from path rows) 0 ≡ Some first → is_eq (path_cmp path first.path) ≡ false → path_cmp path first.path ≡ Less
first_past path rows first found other = past_not_eq _ (first_from path rows first found) other
