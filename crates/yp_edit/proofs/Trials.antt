-- Rows without those at or below a path that is gone.
use Rattle.std.proofs.Common.{◌≡◌, ℕ, ◌≤◌, suc, List, [], ◌∷◌, length, refl, sym, ap, ◌∙◌, cond, Bool, true, false, true≢false, not, ◌||◌, Option, Some, None, arith, nat_lt}
use Rattle.std.specs.Prelude.{is_some}
use Rattle.yp_base.specs.declared.path.Seg.{Seg}
use Rattle.yp_base.specs.declared.row.Row.{Row}
use Rattle.yp_base.specs.Order.{is_within}
use Rattle.yp_base.specs.Rows.{value_at, put_row, put_rows, has_within, rows_without, AreInOrder}
use Rattle.yp_base.specs.PathLaws.{within_through, within_one}
use Rattle.yp_base.specs.RowLaws.{value_at_without, picked-puts}
use Rattle.yp_base.specs.Paths.{is_covered}
use Rattle.yp_edit.specs.Drafts.{covers, remaining}
use Rattle.yp_edit.proofs.Taking.{all_left}

-- ---- paths

-- what isn't at or below a path isn't at or below one below it
not_below : (above target path : List Seg) → is_within above target ≡ true → is_within above path ≡ false → is_within target path ≡ false
not_below above target path upper isnt =
    elim (is_within target path) as (λ b. is_within target path ≡ b → b ≡ false) [
      | true ↦ λ lower. absurd (true≢false (sym (within_through above target path upper lower) ∙ isnt))
      | false ↦ λ lower. refl
    ] refl

-- ---- rows

none_covered : (above target : List Seg) (rows : List Row) → is_within above target ≡ true → has_within target (rows_without above rows) ≡ false
none_covered above target [] upper = refl
none_covered above target (row ∷ rows) upper =
    elim (is_within above row.path) as (λ b. is_within above row.path ≡ b → has_within target (cond (not b) (row ∷ rows_without above rows) (rows_without above rows)) ≡ false) [
      | true ↦ λ h. none_covered above target rows upper
      | false ↦ λ h. ap (λ b. b || has_within target (rows_without above rows)) (not_below above target row.path upper h) ∙ none_covered above target rows upper
    ] refl

cut_below : (target below : List Seg) (rows : List Row) → is_within target below ≡ true → rows_without target (rows_without below rows) ≡ rows_without target rows
cut_below target below [] upper = refl
cut_below target below (row ∷ rows) upper =
    elim (is_within below row.path) as (λ b. is_within below row.path ≡ b → rows_without target (cond (not b) (row ∷ rows_without below rows) (rows_without below rows)) ≡ rows_without target (row ∷ rows)) [
      | true ↦ λ h. cut_below target below rows upper ∙ ap (λ b. cond (not b) (row ∷ rows_without target rows) (rows_without target rows)) (sym (within_through target below row.path upper h))
      | false ↦ λ h. ap (λ (more : List Row). cond (not (is_within target row.path)) (row ∷ more) more) (cut_below target below rows upper)
    ] refl

none_between : (gone target : List Seg) (rows : List Row) → is_within gone target ≡ false → is_within target gone ≡ false → has_within target (rows_without gone rows) ≡ has_within target rows
none_between gone target [] one other = refl
none_between gone target (row ∷ rows) one other =
    elim (is_within gone row.path) as (λ b. is_within gone row.path ≡ b → has_within target (cond (not b) (row ∷ rows_without gone rows) (rows_without gone rows)) ≡ (is_within target row.path || has_within target rows)) [
      | true ↦ λ h. none_between gone target rows one other ∙ ap (λ b. b || has_within target rows) (sym (outside h))
      | false ↦ λ h. ap (λ b. is_within target row.path || b) (none_between gone target rows one other)
    ] refl
  where
    outside : is_within gone row.path ≡ true → is_within target row.path ≡ false
    outside h =
        elim (is_within target row.path) as (λ b. is_within target row.path ≡ b → b ≡ false) [
          | true ↦ λ k. absurd (true≢false (sym (within_one gone target row.path h k one) ∙ other))
          | false ↦ λ k. refl
        ] refl

-- ---- what is gone

-- at or below what is gone there is nothing
pub none_gone : (gone : Option (List Seg)) (target : List Seg) (rows : List Row) → is_covered gone target ≡ true → has_within target (remaining gone rows) ≡ false
none_gone None target rows h = absurd (true≢false (sym h))
none_gone (Some above) target rows h = none_covered above target rows h

pub cut_gone : (gone : Option (List Seg)) (target : List Seg) (rows : List Row) → is_covered gone target ≡ true → rows_without target (remaining gone rows) ≡ remaining gone rows
cut_gone gone target rows h = all_left target (remaining gone rows) (none_gone gone target rows h)

-- what is gone goes with what is at or below a path above it
pub cut_over : (gone : Option (List Seg)) (target : List Seg) (rows : List Row) → covers target gone ≡ true → rows_without target rows ≡ rows_without target (remaining gone rows)
cut_over None target rows h = refl
cut_over (Some below) target rows h = sym (cut_below target below rows h)

-- elsewhere there is what there was
pub others_stay : (gone : Option (List Seg)) (target : List Seg) (rows : List Row) → is_covered gone target ≡ false → covers target gone ≡ false → has_within target rows ≡ has_within target (remaining gone rows)
others_stay None target rows one other = refl
others_stay (Some path) target rows one other = sym (none_between path target rows one other)

-- the value at a path
pub value_remains : (gone : Option (List Seg)) (path : List Seg) (rows : List Row) → value_at path (remaining gone rows) ≡ cond (is_covered gone path) None (value_at path rows)
value_remains None path rows = refl
value_remains (Some above) path rows = value_at_without path above rows

pub none_has : (gone : Option (List Seg)) (path : List Seg) (rows : List Row) → is_covered gone path ≡ true → false ≡ is_some (value_at path (remaining gone rows))
none_has gone path rows h = sym (ap is_some (value_remains gone path rows ∙ ap (λ b. cond b None (value_at path rows)) h))

pub other_has : (gone : Option (List Seg)) (path : List Seg) (rows : List Row) → is_covered gone path ≡ false → is_some (value_at path rows) ≡ is_some (value_at path (remaining gone rows))
other_has gone path rows h = sym (ap is_some (value_remains gone path rows ∙ ap (λ b. cond b None (value_at path rows)) h))

-- a row that is put elsewhere
pub put_remains : (gone : Option (List Seg)) (row : Row) (rows : List Row) → AreInOrder rows → is_covered gone row.path ≡ false → remaining gone (put_row row rows) ≡ put_row row (remaining gone rows)
put_remains None row rows order h = refl
put_remains (Some above) row rows order h =
    picked-puts (λ path. not (is_within above path)) (row ∷ []) rows order
    ∙ put_if (is_within above row.path) h
  where
    put_if : (b : Bool) → b ≡ false → put_rows (cond (not b) (row ∷ []) []) (rows_without above rows) ≡ put_row row (rows_without above rows)
    put_if true is = absurd (true≢false is)
    put_if false is = refl

fewer : (above : List Seg) (rows : List Row) → length (rows_without above rows) ≤ length rows
fewer above [] = omega arith
fewer above (row ∷ rows) =
    let less = fewer above rows in
    elim (not (is_within above row.path)) as (λ b. length (cond b (row ∷ rows_without above rows) (rows_without above rows)) ≤ suc (length rows)) [
      | true ↦ omega (arith, less)
      | false ↦ omega (arith, less)
    ]

-- there are no more than there were
pub no_more : (gone : Option (List Seg)) (rows : List Row) (most : ℕ) → length rows ≤ most → false ≡ nat_lt most (length (remaining gone rows))
no_more None rows most h = grind (arith, h)
no_more (Some above) rows most h = let less = fewer above rows in let few : length (rows_without above rows) ≤ most = omega (arith, less, h) in grind (arith, few)
