-- Of paths in order, those that none before stands above.
use Rattle.std.proofs.Common.{◌≡◌, ◌<◌, ◌≤◌, ◌+◌, ◌-◌, ℕ, suc, List, [], ◌∷◌, ◌++◌, length, drop, drop-cons, get_or, length-append, append_assoc, append-nil, refl, sym, ap, subst, ◌∙◌, Bool, true, false, true≢false, ◌||◌, cond, Option, Some, None, arith, Less, Equal, Greater}
use Rattle.std.specs.Prelude.{if◌then◌else◌, option_map, unwrap_or, slice_get}
use Rattle.std.specs.List.{AllByRecursion}
use Rattle.std.specs.List.Sorted.{IsSorted}
use Rattle.std.specs.Ordering.{is_gt, is_lt, ordering_reverse}
use Rattle.std.specs.declared.cmp.Ordering.{Ordering}
use Rattle.std.proofs.lemmas.Cmp.{upto}
use Rattle.std.proofs.lemmas.List.{drop_all}
use Rattle.yp_base.specs.declared.path.Seg.{Seg}
use Rattle.yp_base.specs.Order.{path_cmp, is_within}
use Rattle.yp_base.specs.OrderLaws.{paths_total}
use Rattle.yp_base.specs.Exact.{paths_exact}
use Rattle.yp_base.specs.PathLaws.{less_turned, within_itself, within_through, within_not_after, within_together}
use Rattle.yp_select.specs.Reaches.{is_below, StandApart}

-- whether a path is at or below the last one, where there is one
abbrev pub is_covered : Option (List Seg) → List Seg → Bool
is_covered last path = unwrap_or (option_map (λ above. is_within above path) last) false

-- each path that isn't at or below the one taken last
abbrev pub tops_after : Option (List Seg) → List (List Seg) → List (List Seg)
tops_after last [] = []
tops_after last (path ∷ paths) = if is_covered last path then tops_after last paths else path ∷ tops_after (Some path) paths

next_left : (items : List (List Seg)) (k : ℕ) (path : List Seg) → k < length items → path ≡ get_or items k path → drop k items ≡ path ∷ drop (k + 1) items
next_left items k path less is =
    let next : suc k ≡ k + 1 = omega arith in
    drop-cons items k path less ∙ (λ i. sym is i ∷ drop (next i) items)

-- a path that is pushed is the last
last_pushed : (paths : List (List Seg)) (path : List Seg) → slice_get (paths ++ path ∷ []) (length (paths ++ path ∷ []) - 1) ≡ Some path
last_pushed paths path =
    let ends : length (paths ++ path ∷ []) - 1 ≡ length paths = omega (arith, length-append paths (path ∷ [])) in
    ap (slice_get (paths ++ path ∷ [])) ends ∙ at_end paths
  where
    at_end : (paths : List (List Seg)) → slice_get (paths ++ path ∷ []) (length paths) ≡ Some path
    at_end [] = refl
    at_end (first ∷ paths) = at_end paths

-- what is taken after it is told by it
pub pushed : (tops items all : List (List Seg)) (k : ℕ) (path : List Seg) → k < length items → path ≡ get_or items k path → tops ++ tops_after (slice_get tops (length tops - 1)) (drop k items) ≡ all → false ≡ is_covered (slice_get tops (length tops - 1)) path
    → (tops ++ path ∷ []) ++ tops_after (slice_get (tops ++ path ∷ []) (length (tops ++ path ∷ []) - 1)) (drop (k + 1) items) ≡ all
pushed tops items all k path less is whole apart =
    ap (λ last. (tops ++ path ∷ []) ++ tops_after last (drop (k + 1) items)) (last_pushed tops path)
    ∙ append_assoc tops (path ∷ []) (tops_after (Some path) (drop (k + 1) items))
    ∙ ap (λ b. tops ++ cond b (tops_after (slice_get tops (length tops - 1)) (drop (k + 1) items)) (path ∷ tops_after (Some path) (drop (k + 1) items))) apart
    ∙ ap (λ xs. tops ++ tops_after (slice_get tops (length tops - 1)) xs) (sym (next_left items k path less is))
    ∙ whole

-- a path that the last one stands above changes nothing
pub passed_by : (tops items all : List (List Seg)) (k : ℕ) (path : List Seg) → k < length items → path ≡ get_or items k path → tops ++ tops_after (slice_get tops (length tops - 1)) (drop k items) ≡ all → true ≡ is_covered (slice_get tops (length tops - 1)) path
    → tops ++ tops_after (slice_get tops (length tops - 1)) (drop (k + 1) items) ≡ all
passed_by tops items all k path less is whole covered =
    ap (λ b. tops ++ cond b (tops_after (slice_get tops (length tops - 1)) (drop (k + 1) items)) (path ∷ tops_after (Some path) (drop (k + 1) items))) covered
    ∙ ap (λ xs. tops ++ tops_after (slice_get tops (length tops - 1)) xs) (sym (next_left items k path less is))
    ∙ whole

-- in the end all are taken
pub all_taken : (tops items sorted : List (List Seg)) (k : ℕ) → tops ++ tops_after (slice_get tops (length tops - 1)) (drop k items) ≡ tops_after None items → length items ≤ k → items ≡ sorted → tops ≡ tops_after None sorted
all_taken tops items sorted k whole end is =
    sym (append-nil tops) ∙ ap (λ xs. tops ++ tops_after (slice_get tops (length tops - 1)) xs) (sym (drop_all k items end)) ∙ whole ∙ ap (tops_after None) is

-- each path comes no earlier than the one before it
abbrev pub Rises : List Seg → List (List Seg) → Type 0
Rises last [] = Unit {0}
Rises last (path ∷ paths) = (is_gt (path_cmp last path) ≡ false) × Rises path paths

abbrev pub Rise : List (List Seg) → Type 0
Rise [] = Unit {0}
Rise (path ∷ paths) = Rises path paths

not_less : (one two : List Seg) → is_lt (path_cmp two one) ≡ false → is_gt (path_cmp one two) ≡ false
not_less one two h = ap is_gt (paths_total.antisymm one two) ∙ turned (path_cmp two one) h
  where
    turned : (o : Ordering) → is_lt o ≡ false → is_gt (ordering_reverse o) ≡ false
    turned Less h = absurd (true≢false h)
    turned Equal h = refl
    turned Greater h = refl

later : (path : List Seg) (paths : List (List Seg)) → IsSorted path_cmp (path ∷ paths) → IsSorted path_cmp paths
later path paths sorted = λ k d low high.
    let next : suc k + 1 ≡ suc (k + 1) = omega arith in
    subst (λ n. is_lt (path_cmp (get_or (path ∷ paths) n d) (get_or paths k d)) ≡ false) next (sorted (suc k) d (omega arith) (omega (arith, high)))

-- paths that are sorted rise
sorted_after : (last : List Seg) (paths : List (List Seg)) → IsSorted path_cmp (last ∷ paths) → Rises last paths
sorted_after last [] sorted = tt
sorted_after last (path ∷ paths) sorted =
    (not_less last path (sorted 0 path (omega arith) (omega arith)), sorted_after path paths (later last (path ∷ paths) sorted))

pub sorted_rise : (paths : List (List Seg)) → IsSorted path_cmp paths → Rise paths
sorted_rise [] sorted = tt
sorted_rise (path ∷ paths) sorted = sorted_after path paths sorted

-- what isn't above the last path is above none that comes after it
past : (above last : List Seg) (paths : List (List Seg)) → is_gt (path_cmp above last) ≡ false → is_within above last ≡ false → Rises last paths → (taken : Option (List Seg)) → AllByRecursion (λ other. is_within above other ≡ false) (tops_after taken paths)
past above last [] from apart rises taken = tt
past above last (path ∷ paths) from apart rises taken =
    let here : is_within above path ≡ false = within_together above last path from apart rises.0 in
    let further : is_gt (path_cmp above path) ≡ false = upto paths_total above last path from rises.0 in
    elim (is_covered taken path) as (λ b. AllByRecursion (λ other. is_within above other ≡ false) (cond b (tops_after taken paths) (path ∷ tops_after (Some path) paths))) [
      | true ↦ past above path paths further here rises.1 taken
      | false ↦ (here, past above path paths further here rises.1 (Some path))
    ]

-- the last path is above none that is taken after it
not_above : (last mark : List Seg) (paths : List (List Seg)) → is_within last mark ≡ true → Rises mark paths → AllByRecursion (λ other. is_within last other ≡ false) (tops_after (Some last) paths)
not_above last mark [] within rises = tt
not_above last mark (path ∷ paths) within rises =
    elim (is_within last path) as (λ b. is_within last path ≡ b → AllByRecursion (λ other. is_within last other ≡ false) (cond b (tops_after (Some last) paths) (path ∷ tops_after (Some path) paths))) [
      | true ↦ λ is. not_above last path paths is rises.1
      | false ↦ λ is. (is, past last path paths (upto paths_total last mark path (within_not_after last mark within) rises.0) is rises.1 (Some path))
    ] refl

-- what comes no later than a path, and isn't at or below it, isn't above it
not_below : (path other : List Seg) → is_gt (path_cmp path other) ≡ false → is_within path other ≡ false → is_within other path ≡ false
not_below path other from apart =
    elim (is_within other path) as (λ b. is_within other path ≡ b → b ≡ false) [
      | true ↦ λ is.
          elim (path_cmp path other) as (λ o. path_cmp path other ≡ o → true ≡ false) [
            | Less ↦ λ e. ap is_gt (sym (less_turned path other e)) ∙ within_not_after other path is
            | Equal ↦ λ e. sym (ap (is_within path) (sym (paths_exact path other e)) ∙ within_itself path) ∙ apart
            | Greater ↦ λ e. ap is_gt (sym e) ∙ from
          ] refl
      | false ↦ λ is. refl
    ] refl

-- the paths that are taken come no earlier than the last
no_earlier : (last mark : List Seg) (paths : List (List Seg)) → is_gt (path_cmp last mark) ≡ false → Rises mark paths → (taken : Option (List Seg)) → AllByRecursion (λ other. is_gt (path_cmp last other) ≡ false) (tops_after taken paths)
no_earlier last mark [] from rises taken = tt
no_earlier last mark (path ∷ paths) from rises taken =
    let further : is_gt (path_cmp last path) ≡ false = upto paths_total last mark path from rises.0 in
    elim (is_covered taken path) as (λ b. AllByRecursion (λ other. is_gt (path_cmp last other) ≡ false) (cond b (tops_after taken paths) (path ∷ tops_after (Some path) paths))) [
      | true ↦ no_earlier last path paths further rises.1 taken
      | false ↦ (further, no_earlier last path paths further rises.1 (Some path))
    ]

none_below : (last : List Seg) (paths : List (List Seg)) → AllByRecursion (λ other. is_gt (path_cmp last other) ≡ false) paths → AllByRecursion (λ other. is_within last other ≡ false) paths → AllByRecursion (λ other. is_within other last ≡ false) paths
none_below last [] from apart = tt
none_below last (path ∷ paths) from apart = (not_below last path from.0 apart.0, none_below last paths from.1 apart.1)

apart_at : (path mark : List Seg) (paths : List (List Seg)) → is_within path mark ≡ true → Rises mark paths → StandApart (tops_after (Some path) paths) → StandApart (path ∷ tops_after (Some path) paths)
apart_at path mark paths within rises rest =
    let above = not_above path mark paths within rises in
    (above, none_below path (tops_after (Some path) paths) (no_earlier path mark paths (within_not_after path mark within) rises (Some path)) above, rest)

-- the paths that are taken are apart
apart_after : (last mark : List Seg) (paths : List (List Seg)) → Rises mark paths → StandApart (tops_after (Some last) paths)
apart_after last mark [] rises = tt
apart_after last mark (path ∷ paths) rises =
    elim (is_within last path) as (λ b. StandApart (cond b (tops_after (Some last) paths) (path ∷ tops_after (Some path) paths))) [
      | true ↦ apart_after last path paths rises.1
      | false ↦ apart_at path path paths (within_itself path) rises.1 (apart_after path path paths rises.1)
    ]

pub tops_apart : (paths : List (List Seg)) → Rise paths → StandApart (tops_after None paths)
tops_apart [] rise = tt
tops_apart (path ∷ paths) rise = apart_at path path paths (within_itself path) rise (apart_after path path paths rise)

-- they are above the same
below_last : (last path : List Seg) (rest : Bool) (other : List Seg) → is_within last path ≡ true → (is_within last other || (is_within path other || rest)) ≡ (is_within last other || rest)
below_last last path rest other within =
    elim (is_within last other) as (λ b. is_within last other ≡ b → (b || (is_within path other || rest)) ≡ (b || rest)) [
      | true ↦ λ is. refl
      | false ↦ λ is. ap (λ b. b || rest) (outside is)
    ] refl
  where
    outside : is_within last other ≡ false → is_within path other ≡ false
    outside is = elim (is_within path other) as (λ b. is_within path other ≡ b → b ≡ false) [
      | true ↦ λ deeper. sym (within_through last path other within deeper) ∙ is
      | false ↦ λ deeper. refl
    ] refl

same_after : (last : List Seg) (paths : List (List Seg)) (other : List Seg) → (is_within last other || is_below (tops_after (Some last) paths) other) ≡ (is_within last other || is_below paths other)
same_after last [] other = refl
same_after last (path ∷ paths) other =
    elim (is_within last path) as (λ b. is_within last path ≡ b → (is_within last other || is_below (cond b (tops_after (Some last) paths) (path ∷ tops_after (Some path) paths)) other) ≡ (is_within last other || (is_within path other || is_below paths other))) [
      | true ↦ λ is. same_after last paths other ∙ sym (below_last last path (is_below paths other) other is)
      | false ↦ λ is. ap (λ b. is_within last other || b) (same_after path paths other)
    ] refl

pub tops_same : (paths : List (List Seg)) (other : List Seg) → is_below (tops_after None paths) other ≡ is_below paths other
tops_same [] other = refl
tops_same (path ∷ paths) other = same_after path paths other

-- and no more
pub tops_few : (taken : Option (List Seg)) (paths : List (List Seg)) → length (tops_after taken paths) ≤ length paths
tops_few taken [] = omega arith
tops_few taken (path ∷ paths) = at (is_covered taken path) (tops_few taken paths) (tops_few (Some path) paths)
  where
    at : (b : Bool) → length (tops_after taken paths) ≤ length paths → length (tops_after (Some path) paths) ≤ length paths → length (cond b (tops_after taken paths) (path ∷ tops_after (Some path) paths)) ≤ length (path ∷ paths)
    at true few more = omega (arith, few)
    at false few more = omega (arith, more)
