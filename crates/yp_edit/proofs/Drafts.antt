-- Rows that are put over those that are left.
use Rattle.std.proofs.Common.{◌≡◌, ◌+◌, suc, List, [], ◌∷◌, length, map, refl, sym, ap, ◌∙◌, cond, Bool, true, false, true≢false, not, ◌||◌, Option, Some, None, arith}
use Rattle.std.specs.Option.{option_or}
use Rattle.std.specs.Prelude.{is_some, Result, Ok, Err, IfOk}
use Rattle.std.specs.Ordering.{is_eq, match_ordering}
use Rattle.std.specs.List.{AllByRecursion}
use Rattle.std.specs.List.Sorted.{IsStrictlySortedBy}
use Rattle.std.specs.declared.cmp.Ordering.TheVariants.{Less, Equal, Greater}
use Rattle.std.proofs.Math.Bool.{or_self_left}
use Rattle.yp_base.specs.declared.path.Seg.{Seg}
use Rattle.yp_base.specs.declared.row.Value.{Value}
use Rattle.yp_base.specs.declared.row.Row.{Row}
use Rattle.yp_base.specs.Order.{path_cmp, is_within}
use Rattle.yp_base.specs.Rows.{path_of, value_at, put_row, put_rows, has_within, rows_without, AreInOrder}
use Rattle.yp_base.specs.Exact.{paths_exact}
use Rattle.yp_base.specs.PathLaws.{or_turned, tie_turned, IsBefore}
use Rattle.yp_base.specs.RowLaws.{value_at_put, value_at_puts, value_at_without, put_keeps_order, puts_order, picked-puts}
use Rattle.yp_tree.specs.Listed.{without_row}
use Rattle.yp_edit.specs.Bases.{Touched, left, untouched, Loses, StaysGone, TouchesWithin}
use Rattle.yp_edit.specs.Drafts.{drafted, IsDraft}
use Rattle.yp_tree.specs.Alike.{same_rows}
use Rattle.yp_changes.specs.TakingLaws.{each_there, value_at_without_row, without_row_order}
use Rattle.yp_edit.proofs.Bases.{left_order, none_either}

some_either : (there other : Option Value) → is_some (option_or there other) ≡ (is_some there || is_some other)
some_either None other = refl
some_either (Some value) other = refl

pub there_of_puts : (q : List Seg) (put rows : List Row) → AreInOrder put → is_some (value_at q (put_rows put rows)) ≡ (is_some (value_at q put) || is_some (value_at q rows))
there_of_puts q put rows order = ap is_some (value_at_puts q put rows order) ∙ some_either (value_at q put) (value_at q rows)

-- there is a row where one is put, or else where one is left
pub there_first : (q : List Seg) (put rows : List Row) (here : Bool) → AreInOrder put → here ≡ is_some (value_at q put) → here ≡ true → here ≡ is_some (value_at q (put_rows put rows))
there_first q put rows here order is there = there ∙ sym (there_of_puts q put rows order ∙ ap (λ b. b || is_some (value_at q rows)) (sym is ∙ there))

pub there_else : (q : List Seg) (put rows : List Row) (here left : Bool) → AreInOrder put → here ≡ is_some (value_at q put) → here ≡ false → left ≡ is_some (value_at q rows) → left ≡ is_some (value_at q (put_rows put rows))
there_else q put rows here left order is missing is_left = is_left ∙ sym (there_of_puts q put rows order ∙ ap (λ b. b || is_some (value_at q rows)) (sym is ∙ missing))

-- ---- a row that is put

put_over : (here : Bool) (value : Value) (there other : Option Value) → option_or (cond here (Some value) there) (cond here None other) ≡ cond here (Some value) (option_or there other)
put_over true value there other = refl
put_over false value there other = refl

pub put_more : (row : Row) (put rows : List Row) → AreInOrder put → AreInOrder rows → put_rows (put_row row put) (without_row row.path rows) ≡ put_row row (put_rows put rows)
put_more row put rows put_order order =
    same_rows (put_rows (put_row row put) (without_row row.path rows)) (put_row row (put_rows put rows))
    (puts_order (put_row row put) (without_row row.path rows) (without_row_order row.path rows order))
    (put_keeps_order row (put_rows put rows) (puts_order put rows order)) (λ q.
    value_at_puts q (put_row row put) (without_row row.path rows) (put_keeps_order row put put_order)
    ∙ (λ i. option_or (value_at_put q row put i) (value_at_without_row q row.path rows order i))
    ∙ put_over (is_eq (path_cmp q row.path)) row.value (value_at q put) (value_at q rows)
    ∙ ap (cond (is_eq (path_cmp q row.path)) (Some row.value)) (sym (value_at_puts q put rows put_order))
    ∙ sym (value_at_put q row (put_rows put rows)))

-- ---- rows that are cut

pub cut_both : (target : List Seg) (put rows : List Row) → AreInOrder rows → put_rows (rows_without target put) (rows_without target rows) ≡ rows_without target (put_rows put rows)
cut_both target put rows order = sym (picked-puts (λ path. not (is_within target path)) put rows order)

-- ---- whether there are any

grouped : (a b c : Bool) → (a || (b || c)) ≡ ((b || a) || c)
grouped true true c = refl
grouped true false c = refl
grouped false true c = refl
grouped false false c = refl

within_put : (target : List Seg) (new : Row) (rows : List Row) → has_within target (put_row new rows) ≡ (is_within target new.path || has_within target rows)
within_put target new [] = refl
within_put target new (row ∷ rows) =
    elim (path_cmp new.path row.path) as (λ o. path_cmp new.path row.path ≡ o → has_within target (match_ordering o (new ∷ row ∷ rows) (record row { value = new.value } ∷ rows) (row ∷ put_row new rows)) ≡ (is_within target new.path || (is_within target row.path || has_within target rows))) [
      | Less ↦ λ e. refl
      | Equal ↦ λ e. sym (or_self_left (is_within target row.path) (has_within target rows)) ∙ ap (λ p. is_within target p || (is_within target row.path || has_within target rows)) (sym (paths_exact new.path row.path e))
      | Greater ↦ λ e. ap (λ b. is_within target row.path || b) (within_put target new rows) ∙ or_turned (is_within target row.path) (is_within target new.path) (has_within target rows)
    ] refl

pub within_puts : (target : List Seg) (put rows : List Row) → has_within target (put_rows put rows) ≡ (has_within target put || has_within target rows)
within_puts target [] rows = refl
within_puts target (row ∷ put) rows =
    within_puts target put (put_row row rows)
    ∙ ap (λ b. has_within target put || b) (within_put target row rows)
    ∙ grouped (has_within target put) (is_within target row.path) (has_within target rows)

pub within_first : (target : List Seg) (put rows : List Row) → has_within target put ≡ true → true ≡ has_within target (put_rows put rows)
within_first target put rows here = sym (within_puts target put rows ∙ ap (λ b. b || has_within target rows) here)

pub within_else : {E : Type 0} (target : List Seg) (put rows after : List Row) (found : Result Bool E) → has_within target put ≡ false → put_rows put rows ≡ after → IfOk found (λ b. b ≡ has_within target rows) → IfOk found (λ b. b ≡ has_within target after)
within_else target put rows after (Ok b) missing is found = found ∙ sym (ap (has_within target) (sym is) ∙ within_puts target put rows ∙ ap (λ c. c || has_within target rows) missing)
within_else target put rows after (Err e) missing is found = tt

-- ---- how many

-- no row that is put has a path that is left
abbrev AreApart : List Row → List Row → Type 0
AreApart put rows = AllByRecursion (λ (row : Row). value_at row.path rows ≡ None) put

length_new : (new : Row) (rows : List Row) → value_at new.path rows ≡ None → length (put_row new rows) ≡ suc (length rows)
length_new new [] none = refl
length_new new (row ∷ rows) none =
    elim (path_cmp new.path row.path) as (λ o. cond (is_eq o) (Some row.value) (value_at new.path rows) ≡ None → length (match_ordering o (new ∷ row ∷ rows) (record row { value = new.value } ∷ rows) (row ∷ put_row new rows)) ≡ suc (suc (length rows))) [
      | Less ↦ λ h. refl
      | Equal ↦ λ h. cc
      | Greater ↦ λ h. ap suc (length_new new rows h)
    ] none

still_apart : (new : Row) (put rows : List Row) → IsBefore new.path (map path_of put) → AreApart put rows → AreApart put (put_row new rows)
still_apart new [] rows before apart = tt
still_apart new (row ∷ put) rows before apart =
    (value_at_put row.path new rows ∙ ap (λ b. cond b (Some new.value) (value_at row.path rows)) (tie_turned row.path new.path ∙ ap is_eq before.0) ∙ apart.0, still_apart new put rows before.1 apart.1)

pub length_puts : (put rows : List Row) → AreInOrder put → AreApart put rows → length (put_rows put rows) ≡ length put + length rows
unfolding IsStrictlySortedBy
length_puts [] rows order apart = omega arith
length_puts (row ∷ put) rows order apart =
    let more = length_puts put (put_row row rows) order.1 (still_apart row put rows order.0 apart.1) in
    let one = length_new row rows apart.0 in
    omega (arith, more, one)

-- ---- drafts

apart_from : (base : Touched) (put some : List Row) → IsDraft base put → AllByRecursion (λ (row : Row). is_some (value_at row.path put) ≡ true) some → AreApart some (untouched base)
apart_from base put [] draft each = tt
apart_from base put (row ∷ some) draft each = (draft.apart row.path each.0, apart_from base put some draft each.1)

pub length_drafted : (base : Touched) (put : List Row) → AreInOrder put → IsDraft base put → length put + length (untouched base) ≡ length (drafted base put).after
length_drafted base put order draft = sym (length_puts put (untouched base) order (apart_from base put put draft (each_there put order)))

-- a draft of which one row fewer is left
pub lost_draft : (path : List Seg) (old new : Touched) (put : List Row) → AreInOrder old.rows → IsDraft old put → Loses path old new → IsDraft new put
lost_draft path old new put order draft loses = record {
  apart = λ q h.
      ap (value_at q) loses.others
      ∙ value_at_without_row q path (untouched old) (left_order old.paths old.rows order)
      ∙ ap (cond (is_eq (path_cmp q path)) None) (draft.apart q h)
      ∙ none_either (is_eq (path_cmp q path));
}

pub put_draft : (row : Row) (old new : Touched) (put : List Row) → AreInOrder old.rows → IsDraft old put → Loses row.path old new → IsDraft new (put_row row put)
put_draft row old new put order draft loses = record {
  apart = λ q h.
      ap (value_at q) loses.others
      ∙ value_at_without_row q row.path (untouched old) (left_order old.paths old.rows order)
      ∙ elim (is_eq (path_cmp q row.path)) as (λ b. is_some (cond b (Some row.value) (value_at q put)) ≡ true → cond b None (value_at q (untouched old)) ≡ None) [
        | true ↦ λ k. refl
        | false ↦ λ k. draft.apart q k
      ] (ap is_some (sym (value_at_put q row put)) ∙ h);
}

pub put_drafted : (row : Row) (old new : Touched) (put : List Row) → AreInOrder put → AreInOrder old.rows → Loses row.path old new → drafted new (put_row row put) ≡ record (drafted old put) { after = put_row row (drafted old put).after }
put_drafted row old new put put_order order loses =
    let after = ap (put_rows (put_row row put)) loses.others ∙ put_more row put (untouched old) put_order (left_order old.paths old.rows order) in
    λ i. record { before = loses.rows i; after = after i }

-- a draft of which more is touched
pub more_touched : (old new : Touched) (put : List Row) → IsDraft old put → StaysGone old new → IsDraft new put
more_touched old new put draft stay = record { apart = λ q h. stay q (draft.apart q h) }

pub cut_draft : (target : List Seg) (base : Touched) (put : List Row) → IsDraft base put → IsDraft base (rows_without target put)
cut_draft target base put draft = record {
  apart = λ q h. draft.apart q (kept (is_within target q) (value_at q put) (ap is_some (sym (value_at_without q target put)) ∙ h));
}
  where
    kept : (b : Bool) (value : Option Value) → is_some (cond b None value) ≡ true → is_some value ≡ true
    kept true value h = absurd (true≢false (sym h))
    kept false value h = h

pub cut_drafted : (target : List Seg) (old new : Touched) (put : List Row) → AreInOrder old.rows → TouchesWithin target old new → drafted new (rows_without target put) ≡ record (drafted old put) { after = rows_without target (drafted old put).after }
cut_drafted target old new put order touches =
    let after = ap (put_rows (rows_without target put)) touches.others ∙ cut_both target put (untouched old) (left_order old.paths old.rows order) in
    λ i. record { before = touches.rows i; after = after i }
