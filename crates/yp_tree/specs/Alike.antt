-- Rows in the order of their paths are one where each path has the same value.
use Rattle.std.proofs.Common.{◌≡◌, List, [], ◌∷◌, refl, sym, ap, subst, ◌∙◌, cond, Bool, true, false, Some, None, Less, Equal, Greater}
use Rattle.std.specs.Ordering.{is_eq}
use Rattle.std.proofs.lemmas.Cmp.{tied_itself}
use Rattle.std.proofs.lemmas.Map.Views.{tells_apart}
use Rattle.yp_base.specs.declared.path.Seg.{Seg}
use Rattle.yp_base.specs.declared.row.Row.{Row}
use Rattle.yp_base.specs.Order.{path_cmp}
use Rattle.yp_base.specs.OrderLaws.{paths_total}
use Rattle.yp_base.specs.Exact.{paths_exact}
use Rattle.yp_base.specs.PathLaws.{greater_turned}
use Rattle.yp_base.specs.Rows.{value_at, AreInOrder}
use Rattle.yp_base.specs.RowLaws.{AllPast, all_past, none_past, first_order, rest_order}

at_first : (row : Row) (rows : List Row) → value_at row.path (row ∷ rows) ≡ Some row.value
at_first row rows = rw (tied_itself paths_total row.path) refl

-- behind the first row
at_rest : (path : List Seg) (row : Row) (rows : List Row) (here : Bool) → is_eq (path_cmp path row.path) ≡ here → AllPast row.path rows → value_at path rows ≡ cond here None (value_at path (row ∷ rows))
at_rest path row rows true is past = none_past path rows (subst (λ (p : List Seg). AllPast p rows) (sym (tells_apart paths_exact path row.path is)) past)
at_rest path row rows false is past = rw is refl

missed : (x y : Row) (xs ys : List Row) → path_cmp x.path y.path ≡ Less → AllPast y.path ys → value_at x.path (x ∷ xs) ≡ value_at x.path (y ∷ ys) → ⊥
missed x y xs ys less past same =
    let both : Some x.value ≡ None = sym (at_first x xs) ∙ same ∙ none_past x.path (y ∷ ys) (less, all_past x.path y.path ys less past) in
    cc

pub same_rows : (xs ys : List Row) → AreInOrder xs → AreInOrder ys → ((path : List Seg) → value_at path xs ≡ value_at path ys) → xs ≡ ys
same_rows [] [] one two same = refl
same_rows [] (y ∷ ys) one two same = let both : None ≡ Some y.value = same y.path ∙ at_first y ys in cc
same_rows (x ∷ xs) [] one two same = let both : Some x.value ≡ None = sym (at_first x xs) ∙ same x.path in cc
same_rows (x ∷ xs) (y ∷ ys) one two same =
    let past_x = first_order x xs one in
    let past_y = first_order y ys two in
    elim (path_cmp x.path y.path) as (λ o. path_cmp x.path y.path ≡ o → x ∷ xs ≡ y ∷ ys) [
      | Less ↦ λ is. absurd (missed x y xs ys is past_y (same x.path))
      | Greater ↦ λ is. absurd (missed y x ys xs (greater_turned x.path y.path is) past_x (sym (same y.path)))
      | Equal ↦ λ is.
          let path : x.path ≡ y.path = paths_exact x.path y.path is in
          let found : Some x.value ≡ Some y.value = sym (at_first x xs) ∙ same x.path ∙ (rw is refl) in
          let value : x.value ≡ y.value = cc in
          let rest : xs ≡ ys = same_rows xs ys (rest_order x xs one) (rest_order y ys two) (λ q.
          at_rest q x xs (is_eq (path_cmp q x.path)) refl past_x
          ∙ ap (cond (is_eq (path_cmp q x.path)) None) (same q)
          ∙ sym (at_rest q y ys (is_eq (path_cmp q x.path)) (ap (λ k. is_eq (path_cmp q k)) (sym path)) past_y)) in
          λ i. record { path = path i; value = value i } ∷ rest i
    ] refl
