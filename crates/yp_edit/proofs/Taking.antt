-- Rows in order without one of them.
use Rattle.std.proofs.Common.{◌≡◌, suc, List, [], ◌∷◌, length, refl, sym, ap, ◌∙◌, cond, true, false, true≢false, not, ◌||◌, Some}
use Rattle.std.specs.Prelude.{is_some}
use Rattle.std.specs.Ordering.{is_eq}
use Rattle.std.proofs.lemmas.Bool.{or_parts}
use Rattle.yp_base.specs.declared.path.Seg.{Seg}
use Rattle.yp_base.specs.declared.row.Row.{Row}
use Rattle.yp_base.specs.Order.{path_cmp, is_within}
use Rattle.yp_base.specs.Rows.{value_at, has_within, rows_without}
use Rattle.yp_tree.specs.Listed.{without_row}

-- where a row is there, one row fewer is left
pub one_taken : (path : List Seg) (rows : List Row) → is_some (value_at path rows) ≡ true → suc (length (without_row path rows)) ≡ length rows
one_taken path [] there = absurd (true≢false (sym there))
one_taken path (row ∷ rows) there =
    elim (is_eq (path_cmp path row.path)) as (λ b. is_some (cond b (Some row.value) (value_at path rows)) ≡ true → suc (length (cond b rows (row ∷ without_row path rows))) ≡ suc (length rows)) [
      | true ↦ λ h. refl
      | false ↦ λ h. ap suc (one_taken path rows h)
    ] there

-- where no row is at or below a target, none is once a row is gone
pub still_none : (target path : List Seg) (rows : List Row) → has_within target rows ≡ false → has_within target (without_row path rows) ≡ false
still_none target path [] none = refl
still_none target path (row ∷ rows) none =
    let parts = or_parts (is_within target row.path) (has_within target rows) none in
    elim (is_eq (path_cmp path row.path)) as (λ b. has_within target (cond b rows (row ∷ without_row path rows)) ≡ false) [
      | true ↦ parts.1
      | false ↦ ap (λ w. w || has_within target (without_row path rows)) parts.0 ∙ still_none target path rows parts.1
    ]

-- none is at or below a target once those are gone
pub none_within : (target : List Seg) (rows : List Row) → has_within target (rows_without target rows) ≡ false
none_within target [] = refl
none_within target (row ∷ rows) =
    elim (is_within target row.path) as (λ w. is_within target row.path ≡ w → has_within target (cond (not w) (row ∷ rows_without target rows) (rows_without target rows)) ≡ false) [
      | true ↦ λ h. none_within target rows
      | false ↦ λ h. ap (λ w. w || has_within target (rows_without target rows)) h ∙ none_within target rows
    ] refl

-- where none is, all are left
pub all_left : (target : List Seg) (rows : List Row) → has_within target rows ≡ false → rows_without target rows ≡ rows
all_left target [] none = refl
all_left target (row ∷ rows) none =
    let parts = or_parts (is_within target row.path) (has_within target rows) none in
    ap (λ w. cond (not w) (row ∷ rows_without target rows) (rows_without target rows)) parts.0 ∙ ap (λ (more : List Row). row ∷ more) (all_left target rows parts.1)
