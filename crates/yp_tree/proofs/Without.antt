-- Rows that are put where a row is gone.
use Rattle.std.proofs.Common.{◌≡◌, List, [], ◌∷◌, refl, sym, ap, subst, ◌∙◌, cond, true, false, Some}
use Rattle.std.specs.Prelude.{is_some}
use Rattle.std.specs.Ordering.{is_eq, match_ordering}
use Rattle.std.specs.declared.cmp.Ordering.TheVariants.{Less, Equal, Greater}
use Rattle.std.proofs.lemmas.Map.Views.{tells_apart}
use Rattle.yp_base.specs.declared.path.Seg.{Seg}
use Rattle.yp_base.specs.declared.row.Row.{Row}
use Rattle.yp_base.specs.Order.{path_cmp}
use Rattle.yp_base.specs.Rows.{value_at, put_row, put_rows, AreInOrder}
use Rattle.yp_base.specs.Exact.{paths_exact}
use Rattle.yp_base.specs.RowLaws.{AllPast, all_past, first_order, rest_order, join_order, put_first, put_keeps_order}
use Rattle.yp_tree.specs.Listed.{without_row}

-- ---- a row less

not_there : (path : List Seg) (rows : List Row) → AllPast path rows → without_row path rows ≡ rows
not_there path [] past = refl
not_there path (row ∷ rows) past = ap (λ o. cond (is_eq o) rows (row ∷ without_row path rows)) past.0 ∙ ap (λ (rest : List Row). row ∷ rest) (not_there path rows past.1)

still_past : (above path : List Seg) (rows : List Row) → AllPast above rows → AllPast above (without_row path rows)
still_past above path [] past = tt
still_past above path (row ∷ rows) past =
    elim (is_eq (path_cmp path row.path)) as (λ b. AllPast above (cond b rows (row ∷ without_row path rows))) [
      | true ↦ past.1
      | false ↦ (past.0, still_past above path rows past.1)
    ]

pub still_order : (path : List Seg) (rows : List Row) → AreInOrder rows → AreInOrder (without_row path rows)
still_order path [] order = order
still_order path (row ∷ rows) order =
    elim (is_eq (path_cmp path row.path)) as (λ b. AreInOrder (cond b rows (row ∷ without_row path rows))) [
      | true ↦ rest_order row rows order
      | false ↦ join_order row (without_row path rows) (still_past row.path path rows (first_order row rows order)) (still_order path rows (rest_order row rows order))
    ]

-- a row that is put takes the place of the one that has its path
pub put_over : (new : Row) (rows : List Row) → AreInOrder rows → put_row new (without_row new.path rows) ≡ put_row new rows
put_over new [] order = refl
put_over new (row ∷ rows) order =
    let past = first_order row rows order in
    let less : List Row = without_row new.path rows in
    elim (path_cmp new.path row.path) as (λ o. path_cmp new.path row.path ≡ o → put_row new (cond (is_eq o) rows (row ∷ less)) ≡ match_ordering o (new ∷ row ∷ rows) (record row { value = new.value } ∷ rows) (row ∷ put_row new rows)) [
      | Less ↦ λ e.
          ap (λ (rest : List Row). put_row new (row ∷ rest)) (not_there new.path rows (all_past new.path row.path rows e past))
          ∙ ap (λ o. match_ordering o (new ∷ row ∷ rows) (record row { value = new.value } ∷ rows) (row ∷ put_row new rows)) e
      | Equal ↦ λ e.
          let same : new.path ≡ row.path = paths_exact new.path row.path e in
          put_first new rows (subst (λ (p : List Seg). AllPast p rows) (sym same) past) ∙ (λ i. record { path = same i; value = new.value } ∷ rows)
      | Greater ↦ λ e.
          ap (λ o. match_ordering o (new ∷ row ∷ less) (record row { value = new.value } ∷ less) (row ∷ put_row new less)) e
          ∙ ap (λ (rest : List Row). row ∷ rest) (put_over new rows (rest_order row rows order))
    ] refl

-- a row of another path goes before or after
put_apart : (new : Row) (path : List Seg) (rows : List Row) → AreInOrder rows → is_eq (path_cmp path new.path) ≡ false → put_row new (without_row path rows) ≡ without_row path (put_row new rows)
put_apart new path [] order apart = ap (λ b. cond b [] (new ∷ [])) (sym apart)
put_apart new path (row ∷ rows) order apart =
    let past = first_order row rows order in
    let less : List Row = without_row path rows in
    elim (path_cmp new.path row.path) as (λ o. path_cmp new.path row.path ≡ o → put_row new (without_row path (row ∷ rows)) ≡ without_row path (match_ordering o (new ∷ row ∷ rows) (record row { value = new.value } ∷ rows) (row ∷ put_row new rows))) [
      | Less ↦ λ e.
          put_first new (without_row path (row ∷ rows)) (still_past new.path path (row ∷ rows) (e, all_past new.path row.path rows e past))
          ∙ ap (λ b. cond b (row ∷ rows) (new ∷ without_row path (row ∷ rows))) (sym apart)
      | Equal ↦ λ e.
          let other : is_eq (path_cmp path row.path) ≡ false = ap (λ p. is_eq (path_cmp path p)) (sym (paths_exact new.path row.path e)) ∙ apart in
          ap (λ b. put_row new (cond b rows (row ∷ less))) other
          ∙ ap (λ o. match_ordering o (new ∷ row ∷ less) (record row { value = new.value } ∷ less) (row ∷ put_row new less)) e
          ∙ ap (λ b. cond b rows (record row { value = new.value } ∷ less)) (sym other)
      | Greater ↦ λ e. elim (is_eq (path_cmp path row.path)) as (λ b. put_row new (cond b rows (row ∷ less)) ≡ cond b (put_row new rows) (row ∷ without_row path (put_row new rows))) [
        | true ↦ refl
        | false ↦
            ap (λ o. match_ordering o (new ∷ row ∷ less) (record row { value = new.value } ∷ less) (row ∷ put_row new less)) e
            ∙ ap (λ (rest : List Row). row ∷ rest) (put_apart new path rows (rest_order row rows order) apart)
      ]
    ] refl

-- ---- rows that get new ones

-- without a row whose path gets a new one
pub puts_over : (news : List Row) (path : List Seg) (rows : List Row) → AreInOrder rows → is_some (value_at path news) ≡ true → put_rows news (without_row path rows) ≡ put_rows news rows
puts_over [] path rows order there = cc
puts_over (new ∷ news) path rows order there =
    elim (is_eq (path_cmp path new.path)) as (λ b. is_eq (path_cmp path new.path) ≡ b → is_some (cond b (Some new.value) (value_at path news)) ≡ true → put_rows news (put_row new (without_row path rows)) ≡ put_rows news (put_row new rows)) [
      | true ↦ λ same h. ap (put_rows news) (ap (λ p. put_row new (without_row p rows)) (tells_apart paths_exact path new.path same) ∙ put_over new rows order)
      | false ↦ λ apart h. ap (put_rows news) (put_apart new path rows order apart) ∙ puts_over news path (put_row new rows) (put_keeps_order new rows order) h
    ] refl there

-- without a row whose path gets none
pub puts_apart : (news : List Row) (path : List Seg) (rows : List Row) → AreInOrder rows → is_some (value_at path news) ≡ false → put_rows news (without_row path rows) ≡ without_row path (put_rows news rows)
puts_apart [] path rows order missing = refl
puts_apart (new ∷ news) path rows order missing =
    elim (is_eq (path_cmp path new.path)) as (λ b. is_eq (path_cmp path new.path) ≡ b → is_some (cond b (Some new.value) (value_at path news)) ≡ false → put_rows news (put_row new (without_row path rows)) ≡ without_row path (put_rows news (put_row new rows))) [
      | true ↦ λ same h. cc
      | false ↦ λ apart h. ap (put_rows news) (put_apart new path rows order apart) ∙ puts_apart news path (put_row new rows) (put_keeps_order new rows order) h
    ] refl missing
