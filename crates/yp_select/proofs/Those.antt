-- Rows of a datastore at whose paths a test holds.
use Rattle.std.proofs.Common.{◌≡◌, List, [], ◌∷◌, refl, sym, ap, ◌∙◌, cond, Bool, true, false, ◌||◌, Option, Some, None}
use Rattle.std.specs.Ordering.{is_eq}
use Rattle.std.proofs.lemmas.Map.Views.{tells_apart}
use Rattle.yp_base.specs.declared.path.Seg.{Seg}
use Rattle.yp_base.specs.declared.row.Value.{Value}
use Rattle.yp_base.specs.declared.row.Row.{Row}
use Rattle.yp_base.specs.Exact.{paths_exact}
use Rattle.yp_base.specs.Order.{path_cmp, is_within}
use Rattle.yp_base.specs.Rows.{value_at, put_row, put_rows, rows_within, AreInOrder}
use Rattle.yp_base.specs.RowLaws.{picked, none_past, first_order, rest_order, value_at_put, some_keep_order}
use Rattle.yp_tree.specs.Alike.{same_rows}
use Rattle.yp_kept.specs.Matches.{either_of}
use Rattle.yp_select.specs.Reaches.{is_one_of, AreThose}
use Rattle.yp_kept.specs.SelectionLaws.{value_selected}

-- none are those of no path
pub none_are : (all : List Row) → AreThose (is_one_of []) all []
none_are all path = refl

pub those_same : (one two : List Seg → Bool) (all rows : List Row) → ((path : List Seg) → one path ≡ two path) → AreThose one all rows → AreThose two all rows
those_same one two all rows same those path = those path ∙ ap (λ b. cond b (value_at path all) None) (same path)

-- the value at a path once rows in order are put
value_at_puts : (path : List Seg) (news rows : List Row) → AreInOrder news → value_at path (put_rows news rows) ≡ either_of (value_at path news) (value_at path rows)
value_at_puts path [] rows order = refl
value_at_puts path (new ∷ news) rows order =
    value_at_puts path news (put_row new rows) (rest_order new news order)
    ∙ ap (either_of (value_at path news)) (value_at_put path new rows)
    ∙ (elim (is_eq (path_cmp path new.path)) as (λ b. is_eq (path_cmp path new.path) ≡ b → either_of (value_at path news) (cond b (Some new.value) (value_at path rows)) ≡ either_of (cond b (Some new.value) (value_at path news)) (value_at path rows)) [
      | true ↦ λ is. ap (λ v. either_of v (Some new.value)) (gone is)
      | false ↦ λ is. refl
    ] refl)
  where
    gone : is_eq (path_cmp path new.path) ≡ true → value_at path news ≡ None
    gone is = ap (λ p. value_at p news) (tells_apart paths_exact path new.path is) ∙ none_past new.path news (first_order new news order)

-- rows that are put join those that were there
joined : (test here : Bool) (value old : Option Value) → old ≡ cond test value None → either_of (cond here value None) old ≡ cond (test || here) value None
joined true true (Some v) old is = refl
joined true true None old is = is
joined true false value old is = is
joined false true (Some v) old is = refl
joined false true None old is = is
joined false false value old is = is

-- the rows at or below a path are added
pub below_added : (test : List Seg → Bool) (path : List Seg) (all before : List Row) → AreInOrder all → AreThose test all before → AreThose (λ other. test other || is_within path other) all (put_rows (rows_within path all) before)
below_added test path all before order those other =
    value_at_puts other (rows_within path all) before (some_keep_order (is_within path) all order)
    ∙ ap (λ v. either_of v (value_at other before)) (value_selected (is_within path) other all)
    ∙ joined (test other) (is_within path other) (value_at other all) (value_at other before) (those other)

found : (test : Bool) (value : Option Value) (new : Value) → Some new ≡ value → Some new ≡ cond (test || true) value None
found true value new is = is
found false value new is = is

as_before : (test : Bool) (value old : Option Value) → old ≡ cond test value None → old ≡ cond (test || false) value None
as_before true value old is = is
as_before false value old is = is

-- the row of a path is added
pub own_added : (test : List Seg → Bool) (new : Row) (all before : List Row) → Some new.value ≡ value_at new.path all → AreThose test all before → AreThose (λ other. test other || is_eq (path_cmp other new.path)) all (put_row new before)
own_added test new all before is those other =
    value_at_put other new before
    ∙ (elim (is_eq (path_cmp other new.path)) as (λ b. is_eq (path_cmp other new.path) ≡ b → cond b (Some new.value) (value_at other before) ≡ cond (test other || b) (value_at other all) None) [
      | true ↦ λ same. found (test other) (value_at other all) new.value (is ∙ ap (λ p. value_at p all) (sym (tells_apart paths_exact other new.path same)))
      | false ↦ λ same. as_before (test other) (value_at other all) (value_at other before) (those other)
    ] refl)

-- a path that has no row adds none
pub none_added : (test : List Seg → Bool) (path : List Seg) (all before : List Row) → value_at path all ≡ None → AreThose test all before → AreThose (λ other. test other || is_eq (path_cmp other path)) all before
none_added test path all before none those other =
    those other ∙ (elim (is_eq (path_cmp other path)) as (λ b. is_eq (path_cmp other path) ≡ b → cond (test other) (value_at other all) None ≡ cond (test other || b) (value_at other all) None) [
      | true ↦ λ same. none_either (test other) (value_at other all) (ap (λ p. value_at p all) (tells_apart paths_exact other path same) ∙ none)
      | false ↦ λ same. plain (test other) (value_at other all)
    ] refl)
  where
    none_either : (test : Bool) (value : Option Value) → value ≡ None → cond test value None ≡ cond (test || true) value None
    none_either true value is = refl
    none_either false value is = sym is

    plain : (test : Bool) (value : Option Value) → cond test value None ≡ cond (test || false) value None
    plain true value = refl
    plain false value = refl

-- rows in order are the rows of a datastore that pass the test
pub those_are : (test : List Seg → Bool) (all rows : List Row) → AreInOrder all → AreInOrder rows → AreThose test all rows → rows ≡ picked test all
those_are test all rows order rising those = same_rows rows (picked test all) rising (some_keep_order test all order) (λ path. those path ∙ sym (value_selected test path all))

pub own_put : (test : List Seg → Bool) (path : List Seg) (new : Row) (value : Value) (all before after : List Row) → after ≡ put_row new before → new.path ≡ path → new.value ≡ value → Some value ≡ value_at path all → AreThose test all before
    → AreThose (λ other. test other || is_eq (path_cmp other path)) all after
own_put test path new value all before after put own same is those =
    let added : AreThose (λ other. test other || is_eq (path_cmp other new.path)) all (put_row new before) =
    own_added test new all before (ap (λ v. Some v) same ∙ is ∙ ap (λ p. value_at p all) (sym own)) those in
    λ other.
    ap (value_at other) put ∙ added other ∙ ap (λ p. cond (test other || is_eq (path_cmp other p)) (value_at other all) None) own
