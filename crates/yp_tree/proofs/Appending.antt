-- A row that comes past rows in order goes last.
use Rattle.std.proofs.Common.{◌≡◌, List, [], ◌∷◌, ◌++◌, true, refl, Less}
use Rattle.std.specs.Ordering.{is_lt}
use Rattle.yp_base.specs.declared.path.Seg.{Seg}
use Rattle.yp_base.specs.declared.row.Row.{Row}
use Rattle.yp_base.specs.Order.{path_cmp}
use Rattle.yp_base.specs.OrderLaws.{paths_total}
use Rattle.yp_base.specs.Rows.{AreInOrder}
use Rattle.yp_base.specs.RowLaws.{AllPast, all_past, none_order, first_order, rest_order, join_order}
use Rattle.yp_tree.specs.Risen.{is_past, starts_past}
use Rattle.yp_base.specs.PathLaws.{less_told}

pub past_last : (path : List Seg) (rows : List Row) (last : Row) → is_past path (rows ++ last ∷ []) ≡ is_lt (path_cmp last.path path)
past_last path [] last = refl
past_last path (row ∷ []) last = refl
past_last path (row ∷ next ∷ rows) last = past_last path (next ∷ rows) last

past_all : (x : Row) (rows : List Row) (row : Row) → AllPast x.path rows → path_cmp x.path row.path ≡ Less → AllPast x.path (rows ++ row ∷ [])
past_all x [] row past less = (less, tt)
past_all x (y ∷ rows) row past less = (past.0, past_all x rows row past.1 less)

-- a path that the last of rows in order is before is past all of them
pub before_last : (x : Row) (rows : List Row) (row : Row) → AreInOrder (x ∷ rows) → is_past row.path (x ∷ rows) ≡ true → path_cmp x.path row.path ≡ Less
before_last x [] row order past = less_told (path_cmp x.path row.path) past
before_last x (y ∷ rows) row order past = paths_total.trans x.path y.path row.path (first_order x (y ∷ rows) order).0 (before_last y rows row (rest_order x (y ∷ rows) order) past)

pub past_rest : (x : Row) (rows : List Row) (path : List Seg) → is_past path (x ∷ rows) ≡ true → is_past path rows ≡ true
past_rest x [] path past = refl
past_rest x (y ∷ rows) path past = past

pub last_order : (rows : List Row) (row : Row) → AreInOrder rows → is_past row.path rows ≡ true → AreInOrder (rows ++ row ∷ [])
last_order [] row order past = join_order row [] tt none_order
last_order (x ∷ rows) row order past =
    join_order x (rows ++ row ∷ []) (past_all x rows row (first_order x rows order) (before_last x rows row order past)) (last_order rows row (rest_order x rows order) (past_rest x rows row.path past))

past_both : (path : List Seg) (rows news : List Row) → AllPast path rows → AllPast path news → AllPast path (rows ++ news)
past_both path [] news past next = next
past_both path (row ∷ rows) news past next = (past.0, past_both path rows news past.1 next)

past_news : (x : Row) (rows news : List Row) → AreInOrder (x ∷ rows) → AreInOrder news → starts_past news (x ∷ rows) ≡ true → AllPast x.path news
past_news x rows [] order risen past = tt
past_news x rows (new ∷ news) order risen past =
    let less = before_last x rows new order past in
    (less, all_past x.path new.path news less (first_order new news risen))

-- rows in order that come past others in order are in order with them
pub both_order : (rows news : List Row) → AreInOrder rows → AreInOrder news → starts_past news rows ≡ true → AreInOrder (rows ++ news)
both_order [] news order risen past = risen
both_order (x ∷ rows) news order risen past =
    join_order x (rows ++ news) (past_both x.path rows news (first_order x rows order) (past_news x rows news order risen past))
    (both_order rows news (rest_order x rows order) risen (starts_past_rest x rows news past))
  where
    starts_past_rest : (x : Row) (rows news : List Row) → starts_past news (x ∷ rows) ≡ true → starts_past news rows ≡ true
    starts_past_rest x rows [] past = refl
    starts_past_rest x rows (new ∷ news) past = past_rest x rows new.path past
