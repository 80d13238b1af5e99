-- Paths of rows that go, and the rows without them.
use Rattle.std.proofs.Common.{◌≡◌, ℕ, ◌+◌, ◌<◌, List, [], ◌∷◌, ◌++◌, length, take, get_or, map, refl, sym, ap, subst, ◌∙◌, cond, Bool, true, false, not, ◌||◌, ◌&&◌, Option, Some, None, Bor}
use Rattle.std.specs.BTreeMap.{is_at}
use Rattle.std.specs.List.{list_any}
use Rattle.std.specs.Ordering.{is_eq}
use Rattle.std.specs.Prelude.{is_some}
use Rattle.std.proofs.Math.Bool.{or-true, and-or_distrib_right}
use Rattle.std.proofs.lemmas.List.Folds.{list_any-append, list_any_more}
use Rattle.yp_base.specs.declared.path.Seg.{Seg}
use Rattle.yp_base.specs.declared.row.Row.{Row}
use Rattle.yp_base.specs.declared.row.Value.{Value}
use Rattle.yp_base.specs.Order.{path_cmp, is_within}
use Rattle.yp_base.specs.PathLaws.{are_one, tie_turned, covered_below}
use Rattle.yp_base.specs.Rows.{path_of, value_at, rows_within, AreInOrder}
use Rattle.yp_base.specs.RowLaws.{AllPast, first_order, rest_order, picked, some_keep_order}
use Rattle.yp_base.specs.Paths.{is_covered}
use Rattle.yp_tree.specs.Listed.{without_row}
use Rattle.yp_receiver.specs.Gone.{is_below_one, is_lost, lost_paths, without_paths}

-- the value at a path, of rows that are picked by their paths
value_at_picked : (p : List Seg → Bool) (path : List Seg) (rows : List Row) → value_at path (picked p rows) ≡ cond (p path) (value_at path rows) None
value_at_picked p path [] = elim (p path) as (λ b. value_at path [] ≡ cond b (value_at path []) None) [ true ↦ refl | false ↦ refl ]
value_at_picked p path (row ∷ rows) =
    elim (is_eq (path_cmp path row.path)) as (λ e. is_eq (path_cmp path row.path) ≡ e → value_at path (picked p (row ∷ rows)) ≡ cond (p path) (cond e (Some row.value) (value_at path rows)) None) [
      | true ↦ λ here.
          elim (p row.path) as (λ b. p row.path ≡ b → value_at path (cond b (row ∷ picked p rows) (picked p rows)) ≡ cond (p path) (Some row.value) None) [
            | true ↦ λ h. ap (λ b. cond b (Some row.value) (value_at path (picked p rows))) here ∙ ap (λ b. cond b (Some row.value) None) (sym (ap p (are_one path row.path here) ∙ h))
            | false ↦ λ h.
                let out : p path ≡ false = ap p (are_one path row.path here) ∙ h in
                value_at_picked p path rows ∙ ap (λ b. cond b (value_at path rows) None) out ∙ ap (λ b. cond b (Some row.value) None) (sym out)
          ] refl
      | false ↦ λ apart.
          elim (p row.path) as (λ b. value_at path (cond b (row ∷ picked p rows) (picked p rows)) ≡ cond (p path) (value_at path rows) None) [
            | true ↦ ap (λ b. cond b (Some row.value) (value_at path (picked p rows))) apart ∙ value_at_picked p path rows
            | false ↦ value_at_picked p path rows
          ]
    ] refl

-- ---- rows without some paths

-- whether a path is another one
abbrev is_other : List Seg → List Seg → Bool
is_other one two = not (is_eq (path_cmp one two))

-- all rows past a path have other ones
all_others : (path : List Seg) (rows : List Row) → AllPast path rows → picked (is_other path) rows ≡ rows
all_others path [] past = refl
all_others path (row ∷ rows) past =
    ap (λ o. cond (not (is_eq o)) (row ∷ picked (is_other path) rows) (picked (is_other path) rows)) past.0 ∙ ap (λ (more : List Row). row ∷ more) (all_others path rows past.1)

-- a row that is taken out of rows in order leaves those of other paths
left_others : (path : List Seg) (rows : List Row) → AreInOrder rows → without_row path rows ≡ picked (is_other path) rows
left_others path [] order = refl
left_others path (row ∷ rows) order =
    elim (is_eq (path_cmp path row.path)) as (λ b. is_eq (path_cmp path row.path) ≡ b → cond b rows (row ∷ without_row path rows) ≡ cond (not b) (row ∷ picked (is_other path) rows) (picked (is_other path) rows)) [
      | true ↦ λ here. sym (all_others path rows (subst (λ (p : List Seg). AllPast p rows) (sym (are_one path row.path here)) (first_order row rows order)))
      | false ↦ λ apart. ap (λ (more : List Row). row ∷ more) (left_others path rows (rest_order row rows order))
    ] refl

others_order : (path : List Seg) (rows : List Row) → AreInOrder rows → AreInOrder (picked (is_other path) rows)
others_order path rows order = some_keep_order (is_other path) rows order

pub gone_order : (paths : List (List Seg)) (rows : List Row) → AreInOrder rows → AreInOrder (without_paths paths rows)
gone_order [] rows order = order
gone_order (path ∷ paths) rows order =
    subst (λ (left : List Row). AreInOrder (without_paths paths left)) (sym (left_others path rows order)) (gone_order paths (picked (is_other path) rows) (others_order path rows order))

either_gone : (one two : Bool) (value : Option Value) → cond two None (cond (not one) value None) ≡ cond (one || two) None value
either_gone true true value = refl
either_gone true false value = refl
either_gone false two value = refl

-- the value at a path once the rows of some are gone
pub value_at_gone : (path : List Seg) (paths : List (List Seg)) (rows : List Row) → AreInOrder rows → value_at path (without_paths paths rows) ≡ cond (list_any (is_at (path_cmp path)) paths) None (value_at path rows)
value_at_gone path [] rows order = refl
value_at_gone path (other ∷ paths) rows order =
    let listed = list_any (is_at (path_cmp path)) paths in
    ap (λ (left : List Row). value_at path (without_paths paths left)) (left_others other rows order)
    ∙ value_at_gone path paths (picked (is_other other) rows) (others_order other rows order)
    ∙ ap (cond listed None) (value_at_picked (is_other other) path rows ∙ ap (λ b. cond (not b) (value_at path rows) None) (tie_turned other path))
    ∙ either_gone (is_eq (path_cmp path other)) listed (value_at path rows)

-- ---- rows that have no new one

-- a path is among those of rows where it has one
listed_rows : (path : List Seg) (rows : List Row) → list_any (is_at (path_cmp path)) (map path_of rows) ≡ is_some (value_at path rows)
listed_rows path [] = refl
listed_rows path (row ∷ rows) =
    elim (is_eq (path_cmp path row.path)) as (λ b. (b || list_any (is_at (path_cmp path)) (map path_of rows)) ≡ is_some (cond b (Some row.value) (value_at path rows))) [ true ↦ refl | false ↦ listed_rows path rows ]

all_three : (within free : Bool) (value : Option Value) → is_some (cond free (cond within value None) None) ≡ (within && (is_some value && free))
all_three true true None = refl
all_three true true (Some value) = refl
all_three true false None = refl
all_three true false (Some value) = refl
all_three false true value = refl
all_three false false value = refl

-- a path is among those of the rows below a target that have no new one
lost_within : (path target : List Seg) (news rows : List Row) → list_any (is_at (path_cmp path)) (lost_paths news (rows_within target rows)) ≡ (is_within target path && is_lost news rows path)
lost_within path target news rows =
    let free = λ (other : List Seg). not (is_some (value_at other news)) in
    listed_rows path (picked free (rows_within target rows))
    ∙ ap is_some (value_at_picked free path (rows_within target rows) ∙ ap (λ (v : Option Value). cond (free path) v None) (value_at_picked (is_within target) path rows))
    ∙ all_three (is_within target path) (free path) (value_at path rows)

-- ---- targets

-- what is at or below the target that was swept last is at or below one of the targets
abbrev pub AreSwept : List (Bor (List Seg)) → Option (List Seg) → Type 0
AreSwept targets swept = (path : List Seg) → is_covered swept path ≡ true → is_below_one targets path ≡ true

-- these are the paths of the rows at or below a target that have no new one
abbrev pub AreLost : List (Bor (List Seg)) → List Row → List Row → List (List Seg) → Type 0
AreLost targets news rows gone = (path : List Seg) → list_any (is_at (path_cmp path)) gone ≡ (is_below_one targets path && is_lost news rows path)

-- what is true where the other is, is so with the other
or_same : (one two : Bool) → (two ≡ true → one ≡ true) → one ≡ (one || two)
or_same true two is = refl
or_same false true is = is refl
or_same false false is = refl

module _ (targets : List (Bor (List Seg))) (i : ℕ) (target : Bor (List Seg)) (here : i < length targets) (at : target ≡ get_or targets i target) where
  below_more : (path : List Seg) → is_below_one (take (i + 1) targets) path ≡ (is_below_one (take i targets) path || is_within target.now path)
  below_more path =
      list_any_more (λ (t : Bor (List Seg)). is_within t.now path) targets i target here ∙ ap (λ (t : Bor (List Seg)). is_below_one (take i targets) path || is_within t.now path) (sym at)

  -- the target is swept
  pub swept_more : AreSwept (take (i + 1) targets) (Some target.now)
  swept_more path within = below_more path ∙ ap (λ b. is_below_one (take i targets) path || b) within ∙ or-true (is_below_one (take i targets) path)

  pub lost_more : (news rows : List Row) (gone more : List (List Seg)) → more ≡ gone ++ lost_paths news (rows_within target.now rows) → AreLost (take i targets) news rows gone → AreLost (take (i + 1) targets) news rows more
  lost_more news rows gone more grown are path =
      let lost = is_lost news rows path in
      let test = is_at (path_cmp path) in
      ap (list_any test) grown
      ∙ list_any-append test gone (lost_paths news (rows_within target.now rows))
      ∙ (λ j. are path j || lost_within path target.now news rows j)
      ∙ sym (and-or_distrib_right (is_below_one (take i targets) path) (is_within target.now path) lost)
      ∙ ap (λ b. b && lost) (sym (below_more path))

  -- a target at or below the one that was swept last brings nothing
  module _ (swept : Option (List Seg)) (below : is_covered swept target.now ≡ true) (are : AreSwept (take i targets) swept) where
    nothing_more : (path : List Seg) → is_below_one (take i targets) path ≡ is_below_one (take (i + 1) targets) path
    nothing_more path = or_same (is_below_one (take i targets) path) (is_within target.now path) (λ within. are path (covered_below swept target.now path below within)) ∙ sym (below_more path)

    pub swept_same : AreSwept (take (i + 1) targets) swept
    swept_same path h = sym (nothing_more path) ∙ are path h

    pub lost_same : (news rows : List Row) (gone : List (List Seg)) → AreLost (take i targets) news rows gone → AreLost (take (i + 1) targets) news rows gone
    lost_same news rows gone lost path = lost path ∙ ap (λ b. b && is_lost news rows path) (nothing_more path)
