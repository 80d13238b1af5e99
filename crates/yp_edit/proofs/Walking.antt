-- Rows at or below a target, found one after another.
use Rattle.std.proofs.Common.{◌≡◌, ◌<◌, List, [], ◌∷◌, length, map, refl, sym, ap, subst, ◌∙◌, cond, Bool, true, false, not, ◌&&◌, Option, Some, None, arith}
use Rattle.std.specs.Prelude.{filter, is_some, option_map}
use Rattle.std.specs.List.Sorted.{IsStrictlySortedBy}
use Rattle.std.specs.Ordering.{is_lt, ordering_reverse}
use Rattle.std.proofs.lemmas.Cmp.{tied_itself}
use Rattle.std.specs.declared.cmp.Ordering.{Ordering}
use Rattle.std.specs.declared.cmp.Ordering.TheVariants.{Less, Equal, Greater}
use Rattle.yp_base.specs.declared.path.Seg.{Seg}
use Rattle.yp_base.specs.declared.row.Row.{Row}
use Rattle.yp_base.specs.Order.{path_cmp, is_within}
use Rattle.yp_base.specs.OrderLaws.{paths_total}
use Rattle.yp_base.specs.Rows.{path_of, next_row, AreInOrder}
use Rattle.std.proofs.lemmas.Bool.{and_parts}
use Rattle.yp_base.specs.PathLaws.{IsBefore}
use Rattle.yp_base.specs.PathLaws.{less_told}

-- the rows past a path that are at or below a target
abbrev pub later : List Seg → List Seg → List Row → List Row
later after target rows = filter (λ row. is_lt (path_cmp after row.path) && is_within target row.path) rows

abbrev pub is_later : List Seg → List Seg → List Seg → Bool
is_later after target path = is_lt (path_cmp after path) && is_within target path

-- past a row that is first, the others are as past what it is past
later_all : (after row target : List Seg) (rows : List Row) → path_cmp after row ≡ Less → IsBefore row (map path_of rows) → later after target rows ≡ later row target rows
later_all after row target [] less all = refl
later_all after row target (next ∷ rows) less all =
    let one : is_later after target next.path ≡ is_later row target next.path = ap (λ o. is_lt o && is_within target next.path) (paths_total.trans after row next.path less all.0 ∙ sym all.0) in
    (λ i. cond (one i) (next ∷ later_all after row target rows less all.1 i) (later_all after row target rows less all.1 i))

found_behind : (after target path : List Seg) (rows : List Row) (row : Row) → next_row after target rows ≡ Some row → IsBefore path (map path_of rows) → path_cmp path row.path ≡ Less
found_behind after target path [] row next all = cc
found_behind after target path (first ∷ rows) row next all =
    elim (is_later after target first.path) as (λ b. cond b (Some first) (next_row after target rows) ≡ Some row → path_cmp path row.path ≡ Less) [
      | true ↦ λ h. let same : first ≡ row = cc in ap (λ (r : Row). path_cmp path r.path) (sym same) ∙ all.0
      | false ↦ λ h. found_behind after target path rows row h all.1
    ] next

-- a row isn't past a row that it is before
not_later : (row target : List Seg) (first : Row) (rows : List Row) (o : Ordering) → path_cmp row first.path ≡ o → is_lt o ≡ false → later row target (first ∷ rows) ≡ later row target rows
not_later row target first rows o is not =
    ap (λ b. cond (b && is_within target first.path) (first ∷ later row target rows) (later row target rows)) (ap is_lt is ∙ not)

-- the next row is the first of the later ones
pub next_first : (after target : List Seg) (rows : List Row) (row : Row) → AreInOrder rows → next_row after target rows ≡ Some row → later after target rows ≡ row ∷ later row.path target rows
unfolding IsStrictlySortedBy
next_first after target [] row order next = cc
next_first after target (first ∷ rows) row order next =
    elim (is_later after target first.path) as (λ b. is_later after target first.path ≡ b → cond b (Some first) (next_row after target rows) ≡ Some row → cond b (first ∷ later after target rows) (later after target rows) ≡ row ∷ later row.path target (first ∷ rows)) [
      | true ↦ λ past h.
          let same : first ≡ row = cc in
          let whole : first ∷ later after target rows ≡ first ∷ later first.path target (first ∷ rows) =
          ap (λ (more : List Row). first ∷ more) (later_all after first.path target rows (less_told _ (and_parts _ _ past).0) order.0 ∙ sym (not_later first.path target first rows Equal (tied_itself paths_total first.path) refl)) in
          subst (λ (r : Row). first ∷ later after target rows ≡ r ∷ later r.path target (first ∷ rows)) same whole
      | false ↦ λ past h.
          next_first after target rows row order.1 h
          ∙ ap (λ (more : List Row). row ∷ more) (sym (not_later row.path target first rows Greater (paths_total.antisymm row.path first.path ∙ ap ordering_reverse (found_behind after target first.path rows row h order.0)) refl))
    ] refl next

pub next_none : (after target : List Seg) (rows : List Row) → next_row after target rows ≡ None → later after target rows ≡ []
next_none after target [] none = refl
next_none after target (row ∷ rows) none =
    elim (is_later after target row.path) as (λ b. cond b (Some row) (next_row after target rows) ≡ None → cond b (row ∷ later after target rows) (later after target rows) ≡ []) [
      | true ↦ λ h. cc
      | false ↦ λ h. next_none after target rows h
    ] none

pub fewer_left : (row : Row) (rows rest : List Row) → rows ≡ row ∷ rest → length rest < length rows
fewer_left row rows rest split = let more : length rows ≡ length (row ∷ rest) = ap length split in omega arith

-- ---- rows that are picked by their paths

past_same : (after row under : List Seg) (rows : List Row) → path_cmp after row ≡ Less → IsBefore row (map path_of rows) → next_row after under rows ≡ next_row row under rows
past_same after row under [] less all = refl
past_same after row under (next ∷ rows) less all =
    let one : is_later after under next.path ≡ is_later row under next.path = ap (λ o. is_lt o && is_within under next.path) (paths_total.trans after row next.path less all.0 ∙ sym all.0) in
    (λ i. cond (one i) (Some next) (past_same after row under rows less all.1 i))

module _ (p : List Seg → Bool) where
  abbrev picked : List Row → List Row
  picked rows = filter (λ row. p row.path) rows

  pub before_picked : (path : List Seg) (rows : List Row) → IsBefore path (map path_of rows) → IsBefore path (map path_of (picked rows))
  before_picked path [] all = tt
  before_picked path (row ∷ rows) all =
      elim (p row.path) as (λ b. IsBefore path (map path_of (cond b (row ∷ picked rows) (picked rows)))) [
        | true ↦ (all.0, before_picked path rows all.1)
        | false ↦ before_picked path rows all.1
      ]

  -- where the next row is picked, it is the next of those that are
  pub next_picked : (after under : List Seg) (rows : List Row) (row : Row) → next_row after under rows ≡ Some row → p row.path ≡ true → next_row after under (picked rows) ≡ Some row
  next_picked after under [] row next is = cc
  next_picked after under (first ∷ rows) row next is =
      elim (is_later after under first.path) as (λ b. is_later after under first.path ≡ b → cond b (Some first) (next_row after under rows) ≡ Some row → next_row after under (picked (first ∷ rows)) ≡ Some row) [
        | true ↦ λ past h.
            let same : first ≡ row = cc in
            ap (λ b. next_row after under (cond b (first ∷ picked rows) (picked rows))) (ap (λ (r : Row). p r.path) same ∙ is)
            ∙ ap (λ b. cond b (Some first) (next_row after under (picked rows))) past
            ∙ ap (λ (r : Row). Some r) same
        | false ↦ λ past h. elim (p first.path) as (λ b. next_row after under (cond b (first ∷ picked rows) (picked rows)) ≡ Some row) [
          | true ↦ ap (λ b. cond b (Some first) (next_row after under (picked rows))) past ∙ next_picked after under rows row h is
          | false ↦ next_picked after under rows row h is
        ]
      ] refl next

  -- where it isn't, the next of those comes after it
  pub next_skipped : (after under : List Seg) (rows : List Row) (row : Row) → AreInOrder rows → next_row after under rows ≡ Some row → p row.path ≡ false → next_row row.path under (picked rows) ≡ next_row after under (picked rows)
  unfolding IsStrictlySortedBy
  next_skipped after under [] row order next isnt = cc
  next_skipped after under (first ∷ rows) row order next isnt =
      elim (is_later after under first.path) as (λ b. is_later after under first.path ≡ b → cond b (Some first) (next_row after under rows) ≡ Some row → next_row row.path under (picked (first ∷ rows)) ≡ next_row after under (picked (first ∷ rows))) [
        | true ↦ λ past h.
            let same : first ≡ row = cc in
            let out : p first.path ≡ false = ap (λ (r : Row). p r.path) same ∙ isnt in
            ap (λ b. next_row row.path under (cond b (first ∷ picked rows) (picked rows))) out
            ∙ ap (λ (r : Row). next_row r.path under (picked rows)) (sym same)
            ∙ sym (past_same after first.path under (picked rows) (less_told _ (and_parts _ _ past).0) (before_picked first.path rows order.0))
            ∙ ap (λ b. next_row after under (cond b (first ∷ picked rows) (picked rows))) (sym out)
        | false ↦ λ past h.
            let behind : path_cmp row.path first.path ≡ Greater = paths_total.antisymm row.path first.path ∙ ap ordering_reverse (found_behind after under first.path rows row h order.0) in
            let more = next_skipped after under rows row order.1 h isnt in
            elim (p first.path) as (λ b. next_row row.path under (cond b (first ∷ picked rows) (picked rows)) ≡ next_row after under (cond b (first ∷ picked rows) (picked rows))) [
              | true ↦
                  ap (λ o. cond (is_lt o && is_within under first.path) (Some first) (next_row row.path under (picked rows))) behind
                  ∙ more
                  ∙ ap (λ b. cond b (Some first) (next_row after under (picked rows))) (sym past)
              | false ↦ more
            ]
      ] refl next

  -- where there is none, none of those is next
  pub none_picked : (after under : List Seg) (rows : List Row) → next_row after under rows ≡ None → next_row after under (picked rows) ≡ None
  none_picked after under [] none = refl
  none_picked after under (first ∷ rows) none =
      elim (is_later after under first.path) as (λ b. is_later after under first.path ≡ b → cond b (Some first) (next_row after under rows) ≡ None → next_row after under (picked (first ∷ rows)) ≡ None) [
        | true ↦ λ past h. cc
        | false ↦ λ past h. elim (p first.path) as (λ b. next_row after under (cond b (first ∷ picked rows) (picked rows)) ≡ None) [
          | true ↦ ap (λ b. cond b (Some first) (next_row after under (picked rows))) past ∙ none_picked after under rows h
          | false ↦ none_picked after under rows h
        ]
      ] refl none

-- whether one is found is whether there is one
pub next_told : {X : Type 0} (f : X → Row) (found : Option X) (next : Option Row) → option_map f found ≡ next → is_some found ≡ is_some next
next_told f None next is = ap is_some is
next_told f (Some x) next is = ap is_some is
