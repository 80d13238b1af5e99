-- Rows that are put in the place of those at or below a path, and rows that are given back.
use Rattle.std.proofs.Common.{◌≡◌, ℕ, ◌+◌, ◌<◌, ◌≤◌, Bor, List, [], ◌∷◌, ◌++◌, length, take, drop, get_or, map, refl, sym, ap, ◌∙◌, cond, Bool, true, false, ◌||◌, Option, Some, None, slice_get}
use Rattle.std.specs.Prelude.{is_some, option_copied, IfSome}
use Rattle.std.specs.Option.{MatchOption}
use Rattle.std.specs.List.{HoldsAt}
use Rattle.std.specs.Ordering.{is_eq, match_ordering}
use Rattle.std.specs.declared.cmp.Ordering.TheVariants.{Less, Equal, Greater}
use Rattle.std.proofs.lemmas.Cmp.{tied_itself}
use Rattle.std.proofs.lemmas.List.{drop_more, length_push, nil_from_length}
use Rattle.std.proofs.lemmas.Map.Views.{tells_apart}
use Rattle.std.proofs.lemmas.Option.{slice_get-get_or, slice_get_past}
use Rattle.yp_base.specs.declared.path.Seg.{Seg}
use Rattle.yp_base.specs.declared.row.Value.{Value}
use Rattle.yp_base.specs.declared.row.Row.{Row}
use Rattle.yp_base.specs.Order.{path_cmp}
use Rattle.yp_base.specs.OrderLaws.{paths_total}
use Rattle.yp_base.specs.Exact.{paths_exact}
use Rattle.yp_base.specs.Rows.{path_of, value_at, put_row, put_rows, rows_within, rows_without, AreInOrder, row_of}
use Rattle.yp_base.specs.RowLaws.{all_past, first_order, rest_order, none_past, value_at_put}
use Rattle.yp_tree.specs.Listed.{set_row, without_row, given_back, without_others, undone}
use Rattle.yp_tree.proofs.Without.{put_over, puts_over, puts_apart, still_order}
use Rattle.yp_tree.proofs.Cuts.{taken, others_are_all}

-- ---- a value is given back

set_is : (new : Row) (rows : List Row) → is_some (value_at new.path rows) ≡ true → set_row new rows ≡ put_row new rows
set_is new rows there = ap (λ b. cond b (put_row new rows) rows) there

there_now : (row : Row) (value : Value) (rows : List Row) → is_some (value_at row.path (put_row row rows)) ≡ true
there_now row value rows = ap is_some (value_at_put row.path row rows) ∙ ap (λ o. is_some (cond (is_eq o) (Some row.value) (value_at row.path rows))) (tied_itself paths_total row.path)

-- a row that was put is taken out again
out_again : (row : Row) (rows : List Row) → AreInOrder rows → value_at row.path rows ≡ None → without_row row.path (put_row row rows) ≡ rows
out_again row [] order none = ap (λ o. cond (is_eq o) [] (row ∷ [])) (tied_itself paths_total row.path)
out_again row (first ∷ rows) order none =
    elim (path_cmp row.path first.path) as (λ o. path_cmp row.path first.path ≡ o → cond (is_eq o) (Some first.value) (value_at row.path rows) ≡ None → without_row row.path (match_ordering o (row ∷ first ∷ rows) (record first { value = row.value } ∷ rows) (first ∷ put_row row rows)) ≡ first ∷ rows) [
      | Less ↦ λ e h. ap (λ o. cond (is_eq o) (first ∷ rows) (row ∷ without_row row.path (first ∷ rows))) (tied_itself paths_total row.path)
      | Equal ↦ λ e h. cc
      | Greater ↦ λ e h. ap (λ o. cond (is_eq o) (put_row row rows) (first ∷ without_row row.path (put_row row rows))) e ∙ ap (λ (rest : List Row). first ∷ rest) (out_again row rows (rest_order first rows order) h)
    ] refl none

-- and a row that got a value gets its old one
old_again : (row : Row) (value : Value) (rows : List Row) → AreInOrder rows → value_at row.path rows ≡ Some value → put_row (row_of (row.path, value)) (put_row row rows) ≡ rows
old_again row value [] order found = cc
old_again row value (first ∷ rows) order found =
    let back : Row = row_of (row.path, value) in
    elim (path_cmp row.path first.path) as (λ o. path_cmp row.path first.path ≡ o → cond (is_eq o) (Some first.value) (value_at row.path rows) ≡ Some value → put_row back (match_ordering o (row ∷ first ∷ rows) (record first { value = row.value } ∷ rows) (first ∷ put_row row rows)) ≡ first ∷ rows) [
      | Less ↦ λ e h. let wrong : None ≡ Some value = sym (none_past row.path rows (all_past row.path first.path rows e (first_order first rows order))) ∙ h in cc
      | Equal ↦ λ e h.
          let same : first.value ≡ value = some_same h in
          ap (λ o. match_ordering o (back ∷ record first { value = row.value } ∷ rows) (record first { value = value } ∷ rows) (record first { value = row.value } ∷ put_row back rows)) e
          ∙ ap (λ v. record first { value = v } ∷ rows) (sym same)
      | Greater ↦ λ e h.
          ap (λ o. match_ordering o (back ∷ first ∷ put_row row rows) (record first { value = value } ∷ put_row row rows) (first ∷ put_row back (put_row row rows))) e
          ∙ ap (λ (rest : List Row). first ∷ rest) (old_again row value rows (rest_order first rows order) h)
    ] refl found
  where
    some_same : {x y : Value} → Some x ≡ Some y → x ≡ y
    some_same h = cc

-- a row that was put and is given back
pub put_and_back : (row : Row) (rows : List Row) → AreInOrder rows → given_back (Some row) (value_at row.path rows) (put_row row rows) ≡ rows
put_and_back row rows order =
    elim (value_at row.path rows) as (λ old. value_at row.path rows ≡ old → given_back (Some row) old (put_row row rows) ≡ rows) [
      | Some value ↦ λ found. set_is (row_of (row.path, value)) (put_row row rows) (there_now row value rows) ∙ old_again row value rows order found
      | None ↦ λ none. out_again row rows order none
    ] refl

-- ---- several are given back, the last one first

pub undone_last : (news : List Row) (olds : List (Option Value)) (old : Option Value) (rows : List Row)
    → undone (take (length (olds ++ old ∷ [])) news) (olds ++ old ∷ []) rows ≡ undone (take (length olds) news) olds (given_back (slice_get news (length olds)) old rows)
undone_last [] [] old rows = refl
undone_last [] (first ∷ olds) old rows = refl
undone_last (row ∷ news) [] old rows = refl
undone_last (row ∷ news) (first ∷ olds) old rows = ap (given_back (Some row) first) (undone_last news olds old rows)

-- what is found at a place of a list
pub found_at : (found : Option (Bor Row)) (items : List Row) (n : ℕ) → IfSome found (λ x. x.now ≡ get_or items n x.now) → MatchOption found (length items ≤ n) (λ x. (n < length items) × HoldsAt (λ y. x.now ≡ y) items n)
    → option_copied found ≡ slice_get items n
found_at None items n is past = sym (slice_get_past items n past)
found_at (Some x) items n is low = sym (slice_get-get_or items n x.now low.0 ∙ ap (λ (r : Row). Some r) (sym is))

-- one is given back
pub given_last : (news : List Row) (olds rest : List (Option Value)) (old : Option Value) (row : Option Row) (n : ℕ) (rows now was : List Row)
    → olds ≡ rest ++ old ∷ [] → n ≡ length rest → row ≡ slice_get news n → now ≡ given_back row old rows
    → undone (take (length olds) news) olds rows ≡ was → undone (take (length rest) news) rest now ≡ was
given_last news olds rest old row n rows now was last place at given so_far =
    ap (undone (take (length rest) news) rest) (given ∙ ap (λ (r : Option Row). given_back r old rows) (at ∙ ap (slice_get news) place))
    ∙ sym (undone_last news rest old rows)
    ∙ ap (λ (xs : List (Option Value)). undone (take (length xs) news) xs rows) (sym last)
    ∙ so_far

pub one_longer : {X : Type 0} (olds more : List X) (old : X) (n : ℕ) → more ≡ olds ++ old ∷ [] → length olds ≡ n → length more ≡ n + 1
one_longer olds more old n is count = ap length is ∙ length_push olds old ∙ ap (λ k. k + 1) count

-- one more is put
pub one_more_put : (news items : List Row) (olds more : List (Option Value)) (i : ℕ) (row : Row) (rows now was : List Row)
    → items ≡ news → i < length items → row ≡ get_or items i row → length olds ≡ i
    → now ≡ put_row row rows → more ≡ olds ++ value_at row.path rows ∷ [] → given_back (Some row) (value_at row.path rows) now ≡ rows
    → put_rows (drop i items) rows ≡ put_rows news was → undone (take (length olds) news) olds rows ≡ was
    → (put_rows (drop (i + 1) items) now ≡ put_rows news was) × (undone (take (length more) news) more now ≡ was)
one_more_put news items olds more i row rows now was all low here count put longer back so_far undo =
    let value = value_at row.path rows in
    let at : slice_get news (length olds) ≡ Some row =
    ap (slice_get news) count ∙ ap (λ (xs : List Row). slice_get xs i) (sym all) ∙ slice_get-get_or items i row low ∙ ap (λ (r : Row). Some r) (sym here) in
    let left : drop i items ≡ row ∷ drop (i + 1) items = drop_more items i row low ∙ ap (λ (r : Row). r ∷ drop (i + 1) items) (sym here) in (
      ap (put_rows (drop (i + 1) items)) put ∙ sym (ap (λ (xs : List Row). put_rows xs rows) left) ∙ so_far,
      ap (λ (xs : List (Option Value)). undone (take (length xs) news) xs now) longer
          ∙ undone_last news olds value now
          ∙ ap (λ (r : Option Row). undone (take (length olds) news) olds (given_back r value now)) at
          ∙ ap (undone (take (length olds) news) olds) back
          ∙ undo,
    )

-- ---- the rows at or below a path without a new one go

or_false : (b : Bool) → (b || false) ≡ b
or_false true = refl
or_false false = refl

or_true : (b : Bool) → (b || true) ≡ true
or_true true = refl
or_true false = refl

told_among : (news rows : List Row) (path : List Seg) → is_some (value_at path (put_rows news rows)) ≡ (is_some (value_at path news) || is_some (value_at path rows))
told_among [] rows path = refl
told_among (new ∷ news) rows path =
    told_among news (put_row new rows) path
    ∙ ap (λ (old : Option Value). is_some (value_at path news) || is_some old) (value_at_put path new rows)
    ∙ elim (is_eq (path_cmp path new.path)) as (λ b. (is_some (value_at path news) || is_some (cond b (Some new.value) (value_at path rows))) ≡ (is_some (cond b (Some new.value) (value_at path news)) || is_some (value_at path rows))) [
      | true ↦ or_true (is_some (value_at path news))
      | false ↦ refl
    ]

told : (news : List Row) (path : List Seg) → is_some (value_at path (put_rows news [])) ≡ is_some (value_at path news)
told news path = told_among news [] path ∙ or_false (is_some (value_at path news))

one_out : (news rows : List Row) (path : List Seg) → AreInOrder rows → cond (is_some (value_at path (put_rows news []))) (put_rows news rows) (without_row path (put_rows news rows)) ≡ put_rows news (without_row path rows)
one_out news rows path order =
    ap (λ b. cond b (put_rows news rows) (without_row path (put_rows news rows))) (told news path)
    ∙ elim (is_some (value_at path news)) as (λ b. is_some (value_at path news) ≡ b → cond b (put_rows news rows) (without_row path (put_rows news rows)) ≡ put_rows news (without_row path rows)) [
      | true ↦ λ there. sym (puts_over news path rows order there)
      | false ↦ λ missing. sym (puts_apart news path rows order missing)
    ] refl

pub renewed : (news : List Row) (under : List Seg) (paths : List (List Seg)) (rows : List Row) → AreInOrder rows → map path_of (rows_within under rows) ≡ paths
    → without_others paths (put_rows news []) (put_rows news rows) ≡ put_rows news (rows_without under rows)
renewed news under [] rows order is = ap (put_rows news) (sym (others_are_all under rows is))
renewed news under (path ∷ paths) rows order is =
    let t = taken under rows path paths is in
    let less : List Row = without_row path rows in
    let whole : path ∷ map path_of (rows_within under less) ≡ path ∷ paths = sym (ap (map path_of) t.2) ∙ is in
    let rest : map path_of (rows_within under less) ≡ paths = cc in
    ap (without_others paths (put_rows news [])) (one_out news rows path order) ∙ renewed news under paths less (still_order path rows order) rest ∙ ap (put_rows news) t.3

-- a row that is put takes the place of all at or below its path, where nothing lies below
pub succeeded : (new : Row) (under : List Seg) (news more rows : List Row) → AreInOrder rows → news ≡ new ∷ more → length more ≡ 0 → is_eq (path_cmp new.path under) ≡ true → rows_without under rows ≡ without_row under rows
    → put_row new rows ≡ put_rows news (rows_without under rows)
succeeded new under news more rows order is alone here ends =
    sym (put_over new rows order)
    ∙ ap (λ path. put_row new (without_row path rows)) (tells_apart paths_exact new.path under here)
    ∙ ap (put_row new) (sym ends)
    ∙ ap (λ (some : List Row). put_rows (new ∷ some) (rows_without under rows)) (sym (nil_from_length more alone))
    ∙ ap (λ (some : List Row). put_rows some (rows_without under rows)) (sym is)
