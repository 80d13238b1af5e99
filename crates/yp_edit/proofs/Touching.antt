-- Rows of a tree that are touched one after another.
use Rattle.std.proofs.Common.{◌≡◌, ◌≤◌, ◌-◌, ℕ, List, [], ◌∷◌, length, map, refl, sym, ap, subst, ◌∙◌, cond, Bool, true, false, true≢false, not, ◌&&◌, ◌||◌, Option, Some, None, Bor, slice_get, arith}
use Rattle.std.specs.Prelude.{filter, is_some, option_map}
use Rattle.std.specs.List.{AllByRecursion}
use Rattle.std.specs.List.Sorted.{IsStrictlySortedBy}
use Rattle.std.specs.Ordering.{is_eq, is_lt, is_gt}
use Rattle.std.specs.declared.cmp.Ordering.{Ordering}
use Rattle.std.specs.declared.cmp.Ordering.TheVariants.{Less, Equal, Greater}
use Rattle.std.proofs.lemmas.Bool.{or_parts}
use Rattle.std.proofs.Math.Bool.{or-true, or-false, and-false}
use Rattle.yp_base.specs.declared.path.Seg.{Seg}
use Rattle.yp_base.specs.declared.row.Value.{Value}
use Rattle.yp_base.specs.declared.row.Row.{Row}
use Rattle.yp_base.specs.Order.{path_cmp, is_within}
use Rattle.yp_base.specs.Rows.{path_of, value_at, put_row, next_row, has_within, rows_within, rows_without, AreInOrder}
use Rattle.yp_base.specs.RowLaws.{all_past as rows_past, none_past, first_order, rest_order, value_at_put, value_at_without, without_keeps_order}
use Rattle.yp_tree.specs.Listed.{row_of, without_row}
use Rattle.yp_edit.specs.declared.base.Gap.{Gap}
use Rattle.yp_edit.specs.Bases.{Touched, IsBase, IsSwept, LeaveGap, KeepsValues, left, Touches, StaysGone, TouchesWithin}
use Rattle.yp_changes.specs.Among.{is_listed}
use Rattle.yp_base.specs.PathLaws.{are_one, tie_turned, ties_itself, within_itself, within_not_after, IsBefore}
use Rattle.yp_base.specs.Paths.{is_covered}
use Rattle.yp_tree.specs.Alike.{same_rows}
use Rattle.yp_edit.proofs.Taking.{one_taken, still_none}
use Rattle.yp_edit.proofs.Walking.{before_picked}
use Rattle.yp_edit.proofs.Bases.{value_at_picked, value_at_left, left_order, other_there, touched_left, one_fewer, still_gone}

-- ---- rows that are touched

-- a path is among those of rows where a row has it
pub listed_there : (q : List Seg) (rows : List Row) → is_listed q (map path_of rows) ≡ is_some (value_at q rows)
listed_there q [] = refl
listed_there q (row ∷ rows) =
    elim (is_eq (path_cmp q row.path)) as (λ b. (b || is_listed q (map path_of rows)) ≡ is_some (cond b (Some row.value) (value_at q rows))) [
      | true ↦ refl
      | false ↦ listed_there q rows
    ]

some_or : {X : Type 0} → (b : Bool) (x : X) (other : Option X) → is_some (cond b (Some x) other) ≡ (b || is_some other)
some_or true x other = refl
some_or false x other = refl

-- with one more row, its path is one more
pub one_more_path : (row : Row) (taken : List Row) (q : List Seg) → is_listed q (map path_of (put_row row taken)) ≡ (is_eq (path_cmp row.path q) || is_listed q (map path_of taken))
one_more_path row taken q =
    listed_there q (put_row row taken)
    ∙ ap is_some (value_at_put q row taken)
    ∙ some_or (is_eq (path_cmp q row.path)) row.value (value_at q taken)
    ∙ (λ i. tie_turned q row.path i || sym (listed_there q taken) i)

one_more_value : (row : Row) (rows taken : List Row) → value_at row.path rows ≡ Some row.value → KeepsValues rows taken → KeepsValues rows (put_row row taken)
one_more_value row rows taken there kept q h =
    value_at_put q row taken
    ∙ elim (is_eq (path_cmp q row.path)) as (λ b. is_eq (path_cmp q row.path) ≡ b → is_some (cond b (Some row.value) (value_at q taken)) ≡ true → cond b (Some row.value) (value_at q taken) ≡ value_at q rows) [
      | true ↦ λ here k. sym there ∙ ap (λ p. value_at p rows) (sym (are_one q row.path here))
      | false ↦ λ here k. kept q k
    ] refl (ap is_some (sym (value_at_put q row taken)) ∙ h)

still_swept : (swept : Option (List Seg)) (path : List Seg) (rows : List Row) → IsSwept swept rows → IsSwept swept (without_row path rows)
still_swept None path rows none = tt
still_swept (Some above) path rows none = still_none above path rows none

pub none_there : (above path : List Seg) (rows : List Row) → has_within above rows ≡ false → is_within above path ≡ true → value_at path rows ≡ None
none_there above path [] none within = refl
none_there above path (row ∷ rows) none within =
    let parts = or_parts (is_within above row.path) (has_within above rows) none in
    elim (is_eq (path_cmp path row.path)) as (λ b. is_eq (path_cmp path row.path) ≡ b → cond b (Some row.value) (value_at path rows) ≡ None) [
      | true ↦ λ here. absurd (true≢false (sym (ap (is_within above) (sym (are_one path row.path here)) ∙ within) ∙ parts.0))
      | false ↦ λ here. none_there above path rows parts.1 within
    ] refl

-- a path that another isn't at or below is another
apart_outside : (path other : List Seg) → is_within path other ≡ false → is_eq (path_cmp path other) ≡ false
apart_outside path other outside =
    elim (is_eq (path_cmp path other)) as (λ b. is_eq (path_cmp path other) ≡ b → b ≡ false) [
      | true ↦ λ here. absurd (true≢false (sym (within_itself path) ∙ ap (is_within path) (are_one path other here) ∙ outside))
      | false ↦ λ here. refl
    ] refl

neither_less : (o : Ordering) → is_gt o ≡ false → is_eq o ≡ false → o ≡ Less
neither_less Less after apart = refl
neither_less Equal after apart = absurd (true≢false apart)
neither_less Greater after apart = absurd (true≢false after)

-- a path that is swept has no row
pub none_swept : (swept : Option (List Seg)) (path : List Seg) (rows : List Row) → IsSwept swept rows → is_covered swept path ≡ true → value_at path rows ≡ None
none_swept None path rows none covered = absurd (true≢false (sym covered))
none_swept (Some above) path rows none covered = none_there above path rows none covered

-- a base with one more row touched
abbrev pub Holds : List Row → List Row → List (List Seg) → ℕ → Option (List Seg) → Option Gap → Type 0
Holds rows taken bare count swept gap = IsBase rows (map path_of taken) bare count × KeepsValues rows taken × IsSwept swept (left (map path_of taken) rows) × LeaveGap gap rows

pub one_more_row : (row : Row) (rows taken : List Row) (bare : List (List Seg)) (count : ℕ) (swept : Option (List Seg)) (gap : Option Gap) → is_listed row.path (map path_of taken) ≡ false → value_at row.path rows ≡ Some row.value → Holds rows taken bare count swept gap → Holds rows (put_row row taken) bare (count - 1) swept gap
one_more_row row rows taken bare count swept gap unlisted there base =
    let less : left (map path_of (put_row row taken)) rows ≡ without_row row.path (left (map path_of taken) rows) = touched_left row.path (map path_of taken) (map path_of (put_row row taken)) rows base.0.in_order (one_more_path row taken) in (
      one_fewer row.path rows (map path_of taken) (map path_of (put_row row taken)) bare count base.0 (one_more_path row taken) (ap is_some (other_there row.path (map path_of taken) rows unlisted ∙ there)),
      one_more_value row rows taken there base.1,
      subst (IsSwept swept) (sym less) (still_swept swept row.path (left (map path_of taken) rows) base.2),
      base.3,
    )

-- where a row is there, it is counted
pub one_counted : (path : List Seg) (rows : List Row) (count : ℕ) → count ≡ length rows → is_some (value_at path rows) ≡ true → 1 ≤ count
one_counted path rows count counted there = let taken = one_taken path rows there in omega (arith, counted, taken)

-- a touched path that is touched again
pub touched_already : (path : List Seg) (base : Touched) → is_listed path base.paths ≡ true → Touches path base base
touched_already path base listed = record {
  rows = refl;
  paths = λ q. elim (is_eq (path_cmp path q)) as (λ b. is_eq (path_cmp path q) ≡ b → is_listed q base.paths ≡ (b || is_listed q base.paths)) [
    | true ↦ λ here. ap (λ p. is_listed p base.paths) (sym (are_one path q here)) ∙ listed
    | false ↦ λ here. refl
  ] refl;
}

-- ---- the first row at or below a target

-- where it has the path of the target, it is found there
pub first_found : (path : List Seg) (rows : List Row) (first : Row) → slice_get (rows_within path rows) 0 ≡ Some first → is_eq (path_cmp path first.path) ≡ true → value_at path rows ≡ Some first.value
first_found path [] first is here = cc
first_found path (row ∷ rows) first is here =
    elim (is_within path row.path) as (λ w. is_within path row.path ≡ w → slice_get (cond w (row ∷ rows_within path rows) (rows_within path rows)) 0 ≡ Some first → value_at path (row ∷ rows) ≡ Some first.value) [
      | true ↦ λ within h.
          let same : row ≡ first = cc in
          ap (λ b. cond b (Some row.value) (value_at path rows)) (ap (λ (r : Row). is_eq (path_cmp path r.path)) same ∙ here) ∙ ap (λ (r : Row). Some r.value) same
      | false ↦ λ within h. ap (λ b. cond b (Some row.value) (value_at path rows)) (apart_outside path row.path within) ∙ first_found path rows first h here
    ] refl is

-- where it lies below the target, none is
pub first_below : (path : List Seg) (rows : List Row) (first : Row) → AreInOrder rows → slice_get (rows_within path rows) 0 ≡ Some first → is_eq (path_cmp path first.path) ≡ false → value_at path rows ≡ None
first_below path [] first order is apart = refl
first_below path (row ∷ rows) first order is apart =
    elim (is_within path row.path) as (λ w. is_within path row.path ≡ w → slice_get (cond w (row ∷ rows_within path rows) (rows_within path rows)) 0 ≡ Some first → value_at path (row ∷ rows) ≡ None) [
      | true ↦ λ within h.
          let same : row ≡ first = cc in
          let before : path_cmp path row.path ≡ Less = neither_less _ (within_not_after path row.path within) (ap (λ (r : Row). is_eq (path_cmp path r.path)) same ∙ apart) in
          none_past path (row ∷ rows) (before, rows_past path row.path rows before (first_order row rows order))
      | false ↦ λ within h. ap (λ b. cond b (Some row.value) (value_at path rows)) (apart_outside path row.path within) ∙ first_below path rows first (rest_order row rows order) h apart
    ] refl is

pub none_left : (target : List Seg) (paths : List (List Seg)) (rows : List Row) → has_within target rows ≡ false → has_within target (left paths rows) ≡ false
none_left target paths [] none = refl
none_left target paths (row ∷ rows) none =
    let parts = or_parts (is_within target row.path) (has_within target rows) none in
    elim (not (is_listed row.path paths)) as (λ b. has_within target (cond b (row ∷ left paths rows) (left paths rows)) ≡ false) [
      | true ↦ ap (λ w. w || has_within target (left paths rows)) parts.0 ∙ none_left target paths rows parts.1
      | false ↦ none_left target paths rows parts.1
    ]

-- where it isn't touched, there are untouched rows
pub first_left : (target path : List Seg) (paths : List (List Seg)) (rows : List Row) → option_map path_of (slice_get (rows_within target rows) 0) ≡ Some path → is_listed path paths ≡ false → has_within target (left paths rows) ≡ true
first_left target path paths [] first unlisted = cc
first_left target path paths (row ∷ rows) first unlisted =
    elim (is_within target row.path) as (λ w. is_within target row.path ≡ w → option_map path_of (slice_get (cond w (row ∷ rows_within target rows) (rows_within target rows)) 0) ≡ Some path → has_within target (left paths (row ∷ rows)) ≡ true) [
      | true ↦ λ within h.
          let same : row.path ≡ path = cc in
          let kept : is_listed row.path paths ≡ false = ap (λ p. is_listed p paths) same ∙ unlisted in
          ap (λ b. has_within target (cond (not b) (row ∷ left paths rows) (left paths rows))) kept ∙ ap (λ w. w || has_within target (left paths rows)) within
      | false ↦ λ within h. elim (not (is_listed row.path paths)) as (λ b. has_within target (cond b (row ∷ left paths rows) (left paths rows)) ≡ true) [
        | true ↦ ap (λ b. is_within target row.path || b) (first_left target path paths rows h unlisted) ∙ or-true (is_within target row.path)
        | false ↦ first_left target path paths rows h unlisted
      ]
    ] refl first

all_past : (target path : List Seg) (rows : List Row) → IsBefore path (map path_of rows) → has_within target rows ≡ is_some (next_row path target rows)
all_past target path [] all = refl
all_past target path (row ∷ rows) all =
    elim (is_within target row.path) as (λ w. (w || has_within target rows) ≡ is_some (cond (true && w) (Some row) (next_row path target rows))) [
      | true ↦ refl
      | false ↦ all_past target path rows all.1
    ]
    ∙ ap (λ o. is_some (cond (is_lt o && is_within target row.path) (Some row) (next_row path target rows))) (sym all.0)

-- where it is, they come past it
pub first_gone : (target path : List Seg) (paths : List (List Seg)) (rows : List Row) → AreInOrder rows → option_map path_of (slice_get (rows_within target rows) 0) ≡ Some path → is_listed path paths ≡ true → has_within target (left paths rows) ≡ is_some (next_row path target (left paths rows))
unfolding IsStrictlySortedBy
first_gone target path paths [] order first listed = cc
first_gone target path paths (row ∷ rows) order first listed =
    elim (is_within target row.path) as (λ w. is_within target row.path ≡ w → option_map path_of (slice_get (cond w (row ∷ rows_within target rows) (rows_within target rows)) 0) ≡ Some path → has_within target (left paths (row ∷ rows)) ≡ is_some (next_row path target (left paths (row ∷ rows)))) [
      | true ↦ λ within h.
          let same : row.path ≡ path = cc in
          let gone : left paths (row ∷ rows) ≡ left paths rows = ap (λ b. cond (not b) (row ∷ left paths rows) (left paths rows)) (ap (λ p. is_listed p paths) same ∙ listed) in
          ap (has_within target) gone
          ∙ all_past target path (left paths rows) (before_picked (λ p. not (is_listed p paths)) path rows (subst (λ (p : List Seg). IsBefore p (map path_of rows)) same order.0))
          ∙ ap (λ some. is_some (next_row path target some)) (sym gone)
      | false ↦ λ within h.
          let more = first_gone target path paths rows order.1 h listed in
          elim (not (is_listed row.path paths)) as (λ b. has_within target (cond b (row ∷ left paths rows) (left paths rows)) ≡ is_some (next_row path target (cond b (row ∷ left paths rows) (left paths rows)))) [
            | true ↦
                ap (λ w. w || has_within target (left paths rows)) within
                ∙ more
                ∙ ap (λ b. is_some (cond b (Some row) (next_row path target (left paths rows)))) (sym (ap (λ w. is_lt (path_cmp path row.path) && w) within ∙ and-false (is_lt (path_cmp path row.path))))
            | false ↦ more
          ]
    ] refl first

-- ---- rows that are lent

abbrev pub Lent : Type 0
Lent = Bor (List Seg) × Bor Value

abbrev pub lent_path : Lent → List Seg
lent_path e = e.0.now

abbrev pub lent_row : Lent → Row
lent_row e = row_of (e.0.now, e.1.now)

abbrev pub HasValue : List Row → Row → Type 0
HasValue rows row = value_at row.path rows ≡ Some row.value

first_same : (first : Row) (all rows : List Row) → IsBefore first.path (map path_of rows) → AllByRecursion (HasValue all) rows → AllByRecursion (HasValue (first ∷ all)) rows
first_same first all [] before each = tt
first_same first all (row ∷ rows) before each =
    (ap (λ b. cond b (Some first.value) (value_at row.path all)) (tie_turned row.path first.path ∙ ap is_eq before.0) ∙ each.0, first_same first all rows before.1 each.1)

each_value : (rows : List Row) → AreInOrder rows → AllByRecursion (HasValue rows) rows
unfolding IsStrictlySortedBy
each_value [] order = tt
each_value (row ∷ rows) order = (ap (λ b. cond b (Some row.value) (value_at row.path rows)) (ties_itself row.path), first_same row rows rows order.0 (each_value rows order.1))

some_have : (P : Row → Type 0) (p : List Seg → Bool) (rows : List Row) → AllByRecursion P rows → AllByRecursion P (filter (λ (row : Row). p row.path) rows)
some_have P p [] each = tt
some_have P p (row ∷ rows) each =
    elim (p row.path) as (λ b. AllByRecursion P (cond b (row ∷ filter (λ (r : Row). p r.path) rows) (filter (λ (r : Row). p r.path) rows))) [
      | true ↦ (each.0, some_have P p rows each.1)
      | false ↦ some_have P p rows each.1
    ]

lent_have : (rows : List Row) (lent : List Lent) → AllByRecursion (HasValue rows) (map lent_row lent) → AllByRecursion (λ e. HasValue rows (lent_row e)) lent
lent_have rows [] each = tt
lent_have rows (e ∷ lent) each = (each.0, lent_have rows lent each.1)

lent_paths : (lent : List Lent) → map lent_path lent ≡ map path_of (map lent_row lent)
lent_paths [] = refl
lent_paths (e ∷ lent) = ap (λ (paths : List (List Seg)). e.0.now ∷ paths) (lent_paths lent)

-- of some lent rows, all but the rest were touched
pub record Touching (first now : Touched) (all rest : List Lent) : Type 0 where
  pub rows : now.rows ≡ first.rows
  pub there : AllByRecursion (λ e. HasValue first.rows (lent_row e)) rest
  pub stay : StaysGone first now
  pub so_far : (q : List Seg) → (is_listed q now.paths || is_listed q (map lent_path rest)) ≡ (is_listed q first.paths || is_listed q (map lent_path all))

pub none_touched : (target : List Seg) (first : Touched) (all : List Lent) → AreInOrder first.rows → map lent_row all ≡ rows_within target first.rows → Touching first first all all
none_touched target first all order is = record {
  rows = refl;
  there = lent_have first.rows all (subst (AllByRecursion (HasValue first.rows)) (sym is) (some_have (HasValue first.rows) (is_within target) first.rows (each_value first.rows order)));
  stay = λ q h. h;
  so_far = λ q. refl;
}

moved : (a b c : Bool) → ((a || b) || c) ≡ (b || (a || c))
moved true true c = refl
moved true false c = refl
moved false b c = refl

pub one_touched : (first now new : Touched) (all : List Lent) (e : Lent) (rest : List Lent) → Touching first now all (e ∷ rest) → Touches e.0.now now new → Touching first new all rest
one_touched first now new all e rest touching touches = record {
  rows = touches.rows ∙ touching.rows;
  there = touching.there.1;
  stay = λ q h. still_gone e.0.now now new touches q (touching.stay q h);
  so_far = λ q.
      ap (λ b. b || is_listed q (map lent_path rest)) (touches.paths q ∙ ap (λ b. b || is_listed q now.paths) (tie_turned e.0.now q))
      ∙ moved (is_eq (path_cmp q e.0.now)) (is_listed q now.paths) (is_listed q (map lent_path rest))
      ∙ touching.so_far q;
}

either_gone : (listed within : Bool) (value : Option Value) → cond (not (listed || is_some (cond within value None))) value None ≡ cond within None (cond (not listed) value None)
either_gone true true value = refl
either_gone true false value = refl
either_gone false true None = refl
either_gone false true (Some value) = refl
either_gone false false value = refl

-- when all are, the rows at or below the target are touched
pub all_touched : (target : List Seg) (first now : Touched) (all : List Lent) → AreInOrder first.rows → map lent_row all ≡ rows_within target first.rows → Touching first now all [] → TouchesWithin target first now
all_touched target first now all order is touching =
    let rows = first.rows in
    let listed : (q : List Seg) → is_listed q now.paths ≡ (is_listed q first.paths || is_some (cond (is_within target q) (value_at q rows) None)) = λ q.
    sym (or-false (is_listed q now.paths))
    ∙ touching.so_far q
    ∙ ap (λ b. is_listed q first.paths || b) (ap (is_listed q) (lent_paths all ∙ ap (map path_of) is) ∙ listed_there q (rows_within target rows) ∙ ap is_some (value_at_picked (is_within target) q rows)) in
    record {
      rows = touching.rows;
      others = ap (left now.paths) touching.rows ∙ same_rows (left now.paths rows) (rows_without target (left first.paths rows)) (left_order now.paths rows order) (without_keeps_order target (left first.paths rows) (left_order first.paths rows order)) (λ q.
          value_at_left q now.paths rows
          ∙ ap (λ b. cond (not b) (value_at q rows) None) (listed q)
          ∙ either_gone (is_listed q first.paths) (is_within target q) (value_at q rows)
          ∙ ap (cond (is_within target q) None) (sym (value_at_left q first.paths rows))
          ∙ sym (value_at_without q target (left first.paths rows)));
    }
