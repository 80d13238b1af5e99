-- What follows of rows in order: each is found at its path, and what is left without one of them.
use Rattle.std.proofs.Common.{◌≡◌, List, [], ◌∷◌, map, refl, sym, ap, subst, ◌∙◌, cond, true, false, true≢false, Some, None}
use Rattle.std.specs.Prelude.{is_some}
use Rattle.std.specs.List.{AllByRecursion}
use Rattle.std.specs.Ordering.{is_eq}
use Rattle.std.specs.List.Sorted.{IsStrictlySortedBy}
use Rattle.yp_base.specs.declared.path.Seg.{Seg}
use Rattle.yp_base.specs.declared.row.Row.{Row}
use Rattle.yp_base.specs.Order.{path_cmp}
use Rattle.yp_base.specs.Rows.{path_of, value_at, AreInOrder}
use Rattle.yp_tree.specs.Listed.{without_row}
use Rattle.yp_base.specs.PathLaws.{are_one, tie_turned, ties_itself, IsBefore}
use Rattle.yp_base.specs.RowLaws.{none_past}

-- ---- rows that are there

first_apart : (first : Row) (all rows : List Row) → IsBefore first.path (map path_of rows) → AllByRecursion (λ (row : Row). is_some (value_at row.path all) ≡ true) rows → AllByRecursion (λ (row : Row). is_some (value_at row.path (first ∷ all)) ≡ true) rows
first_apart first all [] before each = tt
first_apart first all (row ∷ rows) before each =
    (ap (λ b. is_some (cond b (Some first.value) (value_at row.path all))) (tie_turned row.path first.path ∙ ap is_eq before.0) ∙ each.0, first_apart first all rows before.1 each.1)

-- each row in order is found at its path
pub each_there : (rows : List Row) → AreInOrder rows → AllByRecursion (λ (row : Row). is_some (value_at row.path rows) ≡ true) rows
unfolding IsStrictlySortedBy
each_there [] order = tt
each_there (row ∷ rows) order =
    (ap (λ b. is_some (cond b (Some row.value) (value_at row.path rows))) (ties_itself row.path), first_apart row rows rows order.0 (each_there rows order.1))

-- ---- rows without one of them

before_without : (path other : List Seg) (rows : List Row) → IsBefore path (map path_of rows) → IsBefore path (map path_of (without_row other rows))
before_without path other [] all = tt
before_without path other (row ∷ rows) all =
    elim (is_eq (path_cmp other row.path)) as (λ b. IsBefore path (map path_of (cond b rows (row ∷ without_row other rows)))) [
      | true ↦ all.1
      | false ↦ (all.0, before_without path other rows all.1)
    ]

pub without_row_order : (path : List Seg) (rows : List Row) → AreInOrder rows → AreInOrder (without_row path rows)
unfolding IsStrictlySortedBy
without_row_order path [] order = tt
without_row_order path (row ∷ rows) order =
    elim (is_eq (path_cmp path row.path)) as (λ b. IsStrictlySortedBy path_cmp (map path_of (cond b rows (row ∷ without_row path rows)))) [
      | true ↦ order.1
      | false ↦ (before_without row.path path rows order.0, without_row_order path rows order.1)
    ]

-- the value at a path once a row is gone
pub value_at_without_row : (q path : List Seg) (rows : List Row) → AreInOrder rows → value_at q (without_row path rows) ≡ cond (is_eq (path_cmp q path)) None (value_at q rows)
unfolding IsStrictlySortedBy
value_at_without_row q path [] order = elim (is_eq (path_cmp q path)) as (λ b. value_at q [] ≡ cond b None (value_at q [])) [ true ↦ refl | false ↦ refl ]
value_at_without_row q path (row ∷ rows) order =
    elim (is_eq (path_cmp path row.path)) as (λ b. is_eq (path_cmp path row.path) ≡ b → value_at q (cond b rows (row ∷ without_row path rows)) ≡ cond (is_eq (path_cmp q path)) None (cond (is_eq (path_cmp q row.path)) (Some row.value) (value_at q rows))) [
      | true ↦ λ h.
          let same : path ≡ row.path = are_one path row.path h in
          elim (is_eq (path_cmp q row.path)) as (λ b. is_eq (path_cmp q row.path) ≡ b → value_at q rows ≡ cond (is_eq (path_cmp q path)) None (cond b (Some row.value) (value_at q rows))) [
            | true ↦ λ k.
                let at_q : is_eq (path_cmp q path) ≡ true = ap (λ p. is_eq (path_cmp q p)) same ∙ k in
                rw at_q (none_past q rows (subst (λ (p : List Seg). IsBefore p (map path_of rows)) (sym (are_one q row.path k)) order.0))
            | false ↦ λ k.
                let at_q : is_eq (path_cmp q path) ≡ false = ap (λ p. is_eq (path_cmp q p)) same ∙ k in
                rw at_q refl
          ] refl
      | false ↦ λ h.
          elim (is_eq (path_cmp q row.path)) as (λ b. is_eq (path_cmp q row.path) ≡ b → cond b (Some row.value) (value_at q (without_row path rows)) ≡ cond (is_eq (path_cmp q path)) None (cond b (Some row.value) (value_at q rows))) [
            | true ↦ λ k.
                let at_q : is_eq (path_cmp q path) ≡ false = ap (λ p. is_eq (path_cmp p path)) (are_one q row.path k) ∙ tie_turned row.path path ∙ h in
                rw at_q refl
            | false ↦ λ k. value_at_without_row q path rows order.1
          ] refl
    ] refl

-- where none is there, none is taken
pub none_taken : (path : List Seg) (rows : List Row) → is_some (value_at path rows) ≡ false → without_row path rows ≡ rows
none_taken path [] missing = refl
none_taken path (row ∷ rows) missing =
    elim (is_eq (path_cmp path row.path)) as (λ b. is_some (cond b (Some row.value) (value_at path rows)) ≡ false → cond b rows (row ∷ without_row path rows) ≡ row ∷ rows) [
      | true ↦ λ h. absurd (true≢false h)
      | false ↦ λ h. ap (λ (more : List Row). row ∷ more) (none_taken path rows h)
    ] missing
