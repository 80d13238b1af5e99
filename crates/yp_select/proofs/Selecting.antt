-- Rows that are selected, and the visits that it takes.
use Rattle.std.proofs.Common.{◌≡◌, ◌≤◌, ◌+◌, ◌*◌, ℕ, List, [], ◌∷◌, length, Bool, true, false, true≢false, cond, arith, refl, ap, ◌∙◌, sym, None}
use Rattle.std.specs.Prelude.{Result, Ok, Err, OnOk}
use Rattle.std.specs.List.{AllByRecursion}
use Rattle.yp_base.specs.declared.path.Seg.{Seg}
use Rattle.yp_base.specs.declared.row.Row.{Row}
use Rattle.yp_base.specs.RowLaws.{picked}
use Rattle.yp_schema.specs.declared.schema.SchemaNode.{SchemaNode}
use Rattle.yp_schema.specs.Datastore.{goes_down, IsRowOf}
use Rattle.yp_nacm.specs.Decision.{visible_rows}
use Rattle.yp_schema.specs.SchemaLaws.{row_down}

-- some of the rows are no more than all
pub picked_few : (p : List Seg → Bool) (rows : List Row) → length (picked p rows) ≤ length rows
picked_few p [] = omega arith
picked_few p (row ∷ rows) = at (p row.path) (picked_few p rows)
  where
    at : (b : Bool) → length (picked p rows) ≤ length rows → length (cond b (row ∷ picked p rows) (picked p rows)) ≤ length (row ∷ rows)
    at true few = omega (arith, few)
    at false few = omega (arith, few)

times_more : (few many size : ℕ) → few ≤ many → few * size ≤ many * size
times_more few many size less = grind (arith, less)

-- the visits of fewer rows are no more
pub fewer_visits : {X E : Type 0} (r : Result X E) (new old few many size : ℕ) → few ≤ many → OnOk r (new ≤ old + few * size) → OnOk r (new ≤ old + many * size)
fewer_visits (Ok x) new old few many size less visits = omega (arith, visits, times_more few many size less)
fewer_visits (Err e) new old few many size less visits = tt

-- what passes two tests of some rows, is what passes them of all, where each that passes is among the some
pub reached_enough : (nodes : List SchemaNode) (is reached readable : List Seg → Bool) (rows : List Row) → AllByRecursion (IsRowOf nodes) rows → ((path : List Seg) → goes_down nodes None path ≡ true → is path ≡ true → reached path ≡ true)
    → picked is (visible_rows readable (picked reached rows)) ≡ picked is (visible_rows readable rows)
reached_enough nodes is reached readable [] all covers = refl
reached_enough nodes is reached readable (row ∷ rows) all covers =
    let later = reached_enough nodes is reached readable rows all.1 covers in
    elim (reached row.path) as (λ b. reached row.path ≡ b → picked is (visible_rows readable (cond b (row ∷ picked reached rows) (picked reached rows))) ≡ picked is (visible_rows readable (row ∷ rows))) [
      | true ↦ λ there. with_row (readable row.path) later
      | false ↦ λ there. later ∙ sym (without (readable row.path) (no (is row.path) (covers row.path (row_down nodes row all.0)) there))
    ] refl
  where
    no : (b : Bool) → (b ≡ true → reached row.path ≡ true) → reached row.path ≡ false → b ≡ false
    no true then there = absurd (true≢false (sym (then refl) ∙ there))
    no false then there = refl

    with_row : (b : Bool) → picked is (visible_rows readable (picked reached rows)) ≡ picked is (visible_rows readable rows) → picked is (cond b (row ∷ visible_rows readable (picked reached rows)) (visible_rows readable (picked reached rows))) ≡ picked is (cond b (row ∷ visible_rows readable rows) (visible_rows readable rows))
    with_row true later = ap (λ xs. cond (is row.path) (row ∷ xs) xs) later
    with_row false later = later

    without : (b : Bool) → is row.path ≡ false → picked is (cond b (row ∷ visible_rows readable rows) (visible_rows readable rows)) ≡ picked is (visible_rows readable rows)
    without true out = ap (λ c. cond c (row ∷ picked is (visible_rows readable rows)) (picked is (visible_rows readable rows))) out
    without false out = refl

-- the visits of a selection
pub all_visits : (new middle old few rows size : ℕ) → few ≤ rows → middle ≤ old + rows + size + 1 → new ≤ middle + few * size → new ≤ old + (rows + 1) * (size + 1)
all_visits new middle old few rows size less first visits =
    let product : (rows + 1) * (size + 1) ≡ rows * size + rows + size + 1 = grind arith in
    omega (arith, first, visits, times_more few rows size less, product)
