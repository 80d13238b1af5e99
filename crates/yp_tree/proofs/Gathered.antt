-- A map that is made of a list of entries has the rows that are put one after another.
use Rattle.std.proofs.Common.{◌≡◌, List, [], ◌∷◌, ◌++◌, refl, sym, ap, subst, ◌∙◌, cond, Some, Option}
use Rattle.std.specs.BTreeMap.{BTreeMap, IsFromIterResult}
use Rattle.std.specs.List.Sorted.{IsStrictlySortedBy}
use Rattle.std.specs.Map.{update, update_all}
use Rattle.std.specs.Ordering.{eq_by_cmp}
use Rattle.std.proofs.lemmas.Cmp.{eq_by_cmp_equiv}
use Rattle.yp_base.specs.declared.path.Seg.{Seg}
use Rattle.yp_base.specs.declared.row.Value.{Value}
use Rattle.yp_base.specs.declared.row.Row.{Row}
use Rattle.yp_base.specs.Order.{path_cmp}
use Rattle.yp_base.specs.OrderLaws.{paths_total}
use Rattle.yp_base.specs.Rows.{value_at, put_row, put_rows, row_of, rows_of, rows_without, AreInOrder}
use Rattle.yp_base.specs.RowLaws.{none_order, puts_order, put_to_none, value_at_put, without_keeps_order}
use Rattle.yp_tree.specs.Alike.{same_rows}
use Rattle.yp_tree.proofs.Rows.{paths-rows, value_at-lookup}

one_more : (new : Row) (rows : List Row) (path : List Seg) → value_at path (put_row new rows) ≡ update (eq_by_cmp path_cmp) (λ q. value_at q rows) new.path (Some new.value) path
one_more new rows path = value_at_put path new rows ∙ ap (λ b. cond b (Some new.value) (value_at path rows)) ((eq_by_cmp_equiv paths_total).symm path new.path)

puts_update : (entries : List (List Seg × Value)) (rows : List Row) (path : List Seg) → value_at path (put_rows (rows_of entries) rows) ≡ update_all (eq_by_cmp path_cmp) (λ q. value_at q rows) entries path
puts_update [] rows path = refl
puts_update (e ∷ es) rows path =
    puts_update es (put_row (row_of e) rows) path
    ∙ ap (λ (f : List Seg → Option Value). update_all (eq_by_cmp path_cmp) f es path) (λ i q. one_more (row_of e) rows q i)

pub made_order : (made : BTreeMap (List Seg) Value) (entries : List (List Seg × Value)) → IsFromIterResult path_cmp entries made → AreInOrder (rows_of made.entries)
made_order made entries is = subst (λ (ps : List (List Seg)). IsStrictlySortedBy path_cmp ps) (sym (paths-rows made.entries)) is.1

pub made_rows : (made : BTreeMap (List Seg) Value) (entries : List (List Seg × Value)) → IsFromIterResult path_cmp entries made → rows_of made.entries ≡ put_rows (rows_of entries) []
made_rows made entries is =
    same_rows (rows_of made.entries) (put_rows (rows_of entries) []) (made_order made entries is) (puts_order (rows_of entries) [] none_order)
    (λ path. sym (value_at-lookup path made.entries) ∙ is.0 path ∙ sym (puts_update entries [] path))

pub puts_joined : (olds news rows : List Row) → put_rows (olds ++ news) rows ≡ put_rows news (put_rows olds rows)
puts_joined [] news rows = refl
puts_joined (old ∷ olds) news rows = puts_joined olds news (put_row old rows)

-- rows that come past others in order go behind them
pub puts_past : (rows news : List Row) → AreInOrder rows → AreInOrder (rows ++ news) → put_rows news rows ≡ rows ++ news
puts_past rows news order all =
    ap (put_rows news) (sym (put_to_none rows order)) ∙ sym (puts_joined rows news []) ∙ put_to_none (rows ++ news) all

-- rows behind those that aren't at or below a path
pub puts_behind : (under : List Seg) (rows news : List Row) → AreInOrder rows → put_rows (rows_without under rows ++ news) [] ≡ put_rows news (rows_without under rows)
puts_behind under rows news order =
    puts_joined (rows_without under rows) news [] ∙ ap (put_rows news) (put_to_none (rows_without under rows) (without_keeps_order under rows order))
