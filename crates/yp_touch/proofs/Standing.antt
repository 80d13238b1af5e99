-- Where a path stands among topmost paths in order, and what it takes the place of.
use Rattle.std.proofs.Common.{◌≡◌, ℕ, zero, suc, ◌+◌, ◌<◌, ◌≤◌, length, take, drop, get_or, drop-cons, arith, List, [], ◌∷◌, ◌++◌, map, refl, sym, ap, subst, ◌∙◌, cond, Bool, true, false, true≢false, not, ◌||◌, Less, Equal, Greater}
use Rattle.std.specs.Prelude.{filter}
use Rattle.std.specs.List.{AllWithin, AllAdjacentBelow, HoldsAt, AllByRecursion}
use Rattle.std.specs.List.Sorted.{IsStrictlySortedBy, IsNonDecreasingBy, IsPartitionPoint}
use Rattle.std.specs.Ordering.{is_eq, is_gt, ordering_index, match_ordering}
use Rattle.std.proofs.lemmas.Bool.{and_parts, and_from, or_left, or_right, or_from, false_from_ne_true}
use Rattle.std.proofs.lemmas.List.{map-append, take-append-drop, take-map, drop-map}
use Rattle.std.proofs.lemmas.List.Elements.{filter-append}
use Rattle.std.proofs.lemmas.List.Folds.{list_any-append}
use Rattle.std.proofs.lemmas.List.Sorted.{IsNonDecreasingBy-from_all_adjacent}
use Rattle.yp_base.specs.declared.path.Seg.{Seg}
use Rattle.yp_base.specs.Order.{path_cmp, is_within}
use Rattle.yp_base.specs.OrderLaws.{paths_total}
use Rattle.yp_base.specs.Paths.{is_above, topmost}
use Rattle.yp_base.specs.PathLaws.{are_one, ties_itself, less_turned, greater_turned, within_itself, within_together}
use Rattle.yp_changes.specs.Among.{is_listed}
use Rattle.yp_changes.specs.Records.{put_path}
use Rattle.yp_changes.specs.WindowLaws.{PathsRise}
use Rattle.yp_touch.specs.Looked.{with_path, StandsAt}
use Rattle.yp_touch.specs.RootLaws.{has_root, some_paths}
use Rattle.yp_touch.proofs.Topped.{has_above, any_listed, topmost_listed}
use Rattle.yp_touch.proofs.Topmost.{apart, outside}

-- ---- what a binary search tells

less_index : (path x y : List Seg) → path_cmp x y ≡ Less → ordering_index (path_cmp x path) ≤ ordering_index (path_cmp y path)
less_index path x y less =
    elim (path_cmp y path) as (λ o. path_cmp y path ≡ o → ordering_index (path_cmp x path) ≤ ordering_index o) [
      | Less ↦ λ e. subst (λ o. ordering_index o ≤ ordering_index Less) (sym (paths_total.trans x y path less e)) (omega arith)
      | Equal ↦ λ e. subst (λ o. ordering_index o ≤ ordering_index Equal) (sym (ap (path_cmp x) (sym (are_one y path (ap is_eq e))) ∙ less)) (omega arith)
      | Greater ↦ λ e. elim (path_cmp x path) as (λ o. ordering_index o ≤ ordering_index Greater) [
        | Less ↦ omega arith
        | Equal ↦ omega arith
        | Greater ↦ omega arith
      ]
    ] refl

adjacent : (path : List Seg) (paths : List (List Seg)) → PathsRise paths → AllAdjacentBelow (λ x y. ordering_index (path_cmp x path) ≤ ordering_index (path_cmp y path)) paths (length paths)
unfolding IsStrictlySortedBy
adjacent path [] rise k d less = absurd (omega (arith, less))
adjacent path (x ∷ []) rise k d less = absurd (omega (arith, less))
adjacent path (x ∷ y ∷ paths) rise zero d less = less_index path x y rise.0.0
adjacent path (x ∷ y ∷ paths) rise (suc k) d less =
    let e : suc (k + 1) ≡ suc k + 1 = omega arith in
    subst (λ n. ordering_index (path_cmp (get_or (y ∷ paths) k d) path) ≤ ordering_index (path_cmp (get_or (x ∷ y ∷ paths) n d) path)) e (adjacent path (y ∷ paths) rise.1 k d (omega (arith, less)))

-- paths in order rise as a binary search asks
pub paths_searched : (path : List Seg) (paths : List (List Seg)) → PathsRise paths → IsNonDecreasingBy (λ other. ordering_index (path_cmp other path)) paths
paths_searched path paths rise = IsNonDecreasingBy-from_all_adjacent (λ other. ordering_index (path_cmp other path)) paths (adjacent path paths rise)

module _ (P : List Seg → Type 0) where
  all_front : (paths : List (List Seg)) (at : ℕ) → AllWithin P paths 0 at → AllByRecursion P (take at paths)
  all_front paths zero all = tt
  all_front [] (suc at) all = tt
  all_front (path ∷ paths) (suc at) all = (all 0 path (omega arith) (omega arith), all_front paths at (λ k d low high. all (suc k) d (omega arith) (omega (arith, high))))

  all_back : (paths : List (List Seg)) (at : ℕ) → AllWithin P paths at (length paths) → AllByRecursion P (drop at paths)
  all_back [] zero all = tt
  all_back (path ∷ paths) zero all = (all 0 path (omega arith) (omega arith), all_back paths zero (λ k d low high. all (suc k) d (omega arith) (omega (arith, high))))
  all_back [] (suc at) all = tt
  all_back (path ∷ paths) (suc at) all = all_back paths at (λ k d low high. all (suc k) d (omega (arith, low)) (omega (arith, high)))

pub stands_at : (path : List Seg) (paths : List (List Seg)) (at : ℕ) → at ≤ length paths → IsPartitionPoint (λ other. path_cmp other path ≡ Less) (λ other. path_cmp other path ≡ Greater) paths at → StandsAt path paths at
stands_at path paths at within point = record {
  within = within;
  before = all_front (λ other. path_cmp other path ≡ Less) paths at point.0;
  after = all_back (λ other. path_cmp other path ≡ Greater) paths at point.1;
}

-- an element of a list is among it
item_listed : (paths : List (List Seg)) (at : ℕ) (d : List Seg) → at < length paths → is_listed (get_or paths at d) paths ≡ true
item_listed [] at d less = absurd (omega (arith, less))
item_listed (path ∷ paths) zero d less = or_left (is_eq (path_cmp path path)) (is_listed path paths) (ties_itself path)
item_listed (path ∷ paths) (suc at) d less = or_right (is_eq (path_cmp (get_or paths at d) path)) (is_listed (get_or paths at d) paths) (item_listed paths at d (omega (arith, less)))

-- a path at which one of the paths stands, or that one of them is above, is covered
pub item_covers : (path : List Seg) (paths : List (List Seg)) (at : ℕ) (item : List Seg) → at < length paths → item ≡ get_or paths at item → is_within item path ≡ true → has_root path paths ≡ true
item_covers path paths at item less is within =
    any_listed (λ root. is_within root path) item paths (ap (λ (p : List Seg). is_listed p paths) is ∙ item_listed paths at item less) within

pub item_same : (path : List Seg) (paths : List (List Seg)) (at : ℕ) → at < length paths → HoldsAt (λ other. path_cmp other path ≡ Equal) paths at → has_root path paths ≡ true
item_same path paths at less equal =
    let item = get_or paths at path in
    let same : item ≡ path = are_one item path (ap is_eq (equal path)) in
    any_listed (λ root. is_within root path) item paths (item_listed paths at path less) (ap (λ (p : List Seg). is_within p path) same ∙ within_itself path)

-- ---- paths that cover none

none_covers : (path : List Seg) (paths : List (List Seg)) → AllByRecursion (λ other. path_cmp other path ≡ Greater) paths → has_root path paths ≡ false
none_covers path [] all = refl
none_covers path (other ∷ paths) all = or_from (is_within other path) (has_root path paths) (outside other path all.0) (none_covers path paths all.1)

-- of paths before the last one before a path, none is above it, where the last isn't and none is above that
free_front : (path last : List Seg) (paths : List (List Seg)) → AllByRecursion (λ other. path_cmp other last ≡ Less) paths → path_cmp last path ≡ Less → has_above last paths ≡ false → is_within last path ≡ false → has_root path paths ≡ false
free_front path last [] all less top off = refl
free_front path last (other ∷ paths) all less top off =
    or_from (is_within other path) (has_root path paths) (false_from_ne_true (is_within other path) (λ within.
    elim (is_within other last) as (λ b. is_within other last ≡ b → ⊥) [
      | true ↦ λ e. true≢false (sym (or_left (is_above other last) (has_above last paths) (and_from (is_within other last) (not (is_within last other)) e (ap not (apart other last all.0)))) ∙ top)
      | false ↦ λ e. true≢false (sym within ∙ within_together other last path (ap is_gt all.0) e (ap is_gt less))
    ] refl))
    (free_front path last paths all.1 less (rest_free (is_above other last) (has_above last paths) top) off)
  where
    rest_free : (a b : Bool) → (a || b) ≡ false → b ≡ false
    rest_free true b h = absurd (true≢false h)
    rest_free false b h = h

-- paths in order before one of them
rise_before : (front back : List (List Seg)) (last : List Seg) → PathsRise (front ++ last ∷ back) → AllByRecursion (λ other. path_cmp other last ≡ Less) front
unfolding IsStrictlySortedBy
rise_before [] back last rise = tt
rise_before (path ∷ front) back last rise = (in_front path front back last rise.0, rise_before front back last rise.1)
  where
    in_front : (path : List Seg) (front back : List (List Seg)) (last : List Seg) → AllByRecursion (λ other. path_cmp path other ≡ Less) (front ++ last ∷ back) → path_cmp path last ≡ Less
    in_front path [] back last all = all.0
    in_front path (other ∷ front) back last all = in_front path front back last all.1

front_of : (P : List Seg → Type 0) (front back : List (List Seg)) → AllByRecursion P (front ++ back) → AllByRecursion P front
front_of P [] back all = tt
front_of P (path ∷ front) back all = (all.0, front_of P front back all.1)

last_of_front : (P : List Seg → Type 0) (front back : List (List Seg)) (last : List Seg) → AllByRecursion P (front ++ last ∷ back) → P last
last_of_front P [] back last all = all.0
last_of_front P (path ∷ front) back last all = last_of_front P front back last all.1

-- one of the topmost paths has none above it
none_above_item : (paths : List (List Seg)) (item : List Seg) → topmost paths ≡ paths → is_listed item paths ≡ true → has_above item paths ≡ false
none_above_item paths item top listed =
    unlisted (has_above item paths) (and_parts (is_listed item paths) (not (has_above item paths)) (sym (topmost_listed item paths) ∙ ap (is_listed item) top ∙ listed)).1
  where
    unlisted : (b : Bool) → not b ≡ true → b ≡ false
    unlisted true h = absurd (true≢false (sym h))
    unlisted false h = refl

-- by the paths before and after: none of them covers a path where the last before doesn't
split_free : (path : List Seg) (front back : List (List Seg)) (last : List Seg) → PathsRise (front ++ last ∷ back) → topmost (front ++ last ∷ back) ≡ front ++ last ∷ back → path_cmp last path ≡ Less → is_within last path ≡ false
    → AllByRecursion (λ other. path_cmp other path ≡ Greater) back → has_root path (front ++ last ∷ back) ≡ false
split_free path front back last rise top less off after =
    let here : is_listed last (front ++ last ∷ back) ≡ true =
    list_any-append (λ (other : List Seg). is_eq (path_cmp last other)) front (last ∷ back) ∙ or_right (is_listed last front) (is_listed last (last ∷ back)) (or_left (is_eq (path_cmp last last)) (is_listed last back) (ties_itself last)) in
    let free = none_above_item (front ++ last ∷ back) last top here in
    list_any-append (λ (root : List Seg). is_within root path) front (last ∷ back)
    ∙ or_from (has_root path front) (has_root path (last ∷ back))
    (free_front path last front (rise_before front back last rise) less (front_free (has_above last front) (has_above last (last ∷ back)) (sym (list_any-append (λ (above : List Seg). is_above above last) front (last ∷ back)) ∙ free)) off)
    (or_from (is_within last path) (has_root path back) off (none_covers path back after))
  where
    front_free : (a b : Bool) → (a || b) ≡ false → a ≡ false
    front_free true b h = absurd (true≢false h)
    front_free false b h = refl

cut : (at : ℕ) (paths : List (List Seg)) (item : List Seg) → at < length paths → item ≡ get_or paths at item → drop at paths ≡ item ∷ drop (suc at) paths
cut at paths item less is = drop-cons paths at item less ∙ (λ k. sym is k ∷ drop (suc at) paths)

item_before : (P : List Seg → Type 0) (paths : List (List Seg)) (at : ℕ) (d : List Seg) → at < length paths → AllByRecursion P (take (suc at) paths) → P (get_or paths at d)
item_before P [] at d less all = absurd (omega (arith, less))
item_before P (path ∷ paths) zero d less all = all.0
item_before P (path ∷ paths) (suc at) d less all = item_before P paths at d (omega (arith, less)) all.1

-- a path before which no path stands isn't covered
pub first_free : (path : List Seg) (paths : List (List Seg)) → StandsAt path paths 0 → has_root path paths ≡ false
first_free path paths stands = none_covers path paths stands.after

-- a path that the last one before it doesn't cover isn't covered
pub later_free : (path : List Seg) (paths : List (List Seg)) (at : ℕ) (item : List Seg) → PathsRise paths → topmost paths ≡ paths → StandsAt path paths (suc at) → item ≡ get_or paths at item → is_within item path ≡ false → has_root path paths ≡ false
later_free path paths at item rise top stands is off =
    let less : at < length paths = omega (arith, stands.within) in
    let split : paths ≡ take at paths ++ item ∷ drop (suc at) paths = sym (take-append-drop at paths) ∙ ap (λ (back : List (List Seg)). take at paths ++ back) (cut at paths item less is) in
    let before : path_cmp item path ≡ Less = ap (λ (p : List Seg). path_cmp p path) is ∙ item_before (λ other. path_cmp other path ≡ Less) paths at item less stands.before in
    ap (has_root path) split
    ∙ split_free path (take at paths) (drop (suc at) paths) item (subst PathsRise split rise) (subst (λ (all : List (List Seg)). topmost all ≡ all) split top) before off stands.after

-- ---- what a path takes the place of

-- whether a path isn't at or below another
abbrev is_outside : List Seg → List Seg → Bool
is_outside path other = not (is_within path other)

front_kept : (path : List Seg) (paths : List (List Seg)) → AllByRecursion (λ other. path_cmp other path ≡ Less) paths → filter (is_outside path) paths ≡ paths
front_kept path [] all = refl
front_kept path (other ∷ paths) all =
    ap (λ b. cond (not b) (other ∷ filter (is_outside path) paths) (filter (is_outside path) paths)) (apart other path all.0)
    ∙ ap (λ (more : List (List Seg)). other ∷ more) (front_kept path paths all.1)

front_put : (path : List Seg) (front back : List (List Seg)) → AllByRecursion (λ other. path_cmp other path ≡ Less) front → put_path path (front ++ back) ≡ front ++ put_path path back
front_put path [] back all = refl
front_put path (other ∷ front) back all =
    ap (λ o. match_ordering o (path ∷ other ∷ (front ++ back)) (other ∷ (front ++ back)) (other ∷ put_path path (front ++ back))) (less_turned other path all.0)
    ∙ ap (λ (more : List (List Seg)). other ∷ more) (front_put path front back all.1)

back_put : (path : List Seg) (paths : List (List Seg)) → AllByRecursion (λ other. path_cmp other path ≡ Greater) paths → put_path path paths ≡ path ∷ paths
back_put path [] all = refl
back_put path (other ∷ paths) all = ap (λ o. match_ordering o (path ∷ other ∷ paths) (other ∷ paths) (other ∷ put_path path paths)) (greater_turned other path all.0)

-- a path that isn't covered, among topmost ones, takes the place of those that are at or below it
pub placed : (path : List Seg) (paths : List (List Seg)) (at end : ℕ) → StandsAt path paths at → has_root path paths ≡ false → filter (λ other. not (is_within path other)) (drop at paths) ≡ drop end paths → with_path paths path ≡ take at paths ++ path ∷ drop end paths
placed path paths at end stands free left =
    let later : AllByRecursion (λ other. path_cmp other path ≡ Greater) (drop end paths) =
    subst (AllByRecursion (λ other. path_cmp other path ≡ Greater)) left (some_paths (is_outside path) (λ other. path_cmp other path ≡ Greater) (drop at paths) stands.after) in
    ap (λ b. cond b paths (put_path path (filter (is_outside path) paths))) free
    ∙ ap (λ (all : List (List Seg)). put_path path (filter (is_outside path) all)) (sym (take-append-drop at paths))
    ∙ ap (put_path path) (filter-append (is_outside path) (take at paths) (drop at paths) ∙ (λ i. front_kept path (take at paths) stands.before i ++ left i))
    ∙ front_put path (take at paths) (drop end paths) stands.before
    ∙ ap (λ (back : List (List Seg)). take at paths ++ back) (back_put path (drop end paths) later)

drop_rise : (n : ℕ) (paths : List (List Seg)) → PathsRise paths → PathsRise (drop n paths)
unfolding IsStrictlySortedBy
drop_rise zero paths rise = rise
drop_rise (suc n) [] rise = rise
drop_rise (suc n) (path ∷ paths) rise = drop_rise n paths rise.1

-- past the first path that isn't at or below another, none is
past_first : (path first : List Seg) (paths : List (List Seg)) → path_cmp first path ≡ Greater → is_within path first ≡ false → AllByRecursion (λ other. path_cmp first other ≡ Less) paths → filter (is_outside path) paths ≡ paths
past_first path first [] greater off all = refl
past_first path first (other ∷ paths) greater off all =
    ap (λ b. cond (not b) (other ∷ filter (is_outside path) paths) (filter (is_outside path) paths)) (within_together path first other (ap is_gt (greater_turned first path greater)) off (ap is_gt all.0))
    ∙ ap (λ (more : List (List Seg)). other ∷ more) (past_first path first paths greater off all.1)

first_stays : (path first : List Seg) (paths : List (List Seg)) → PathsRise (first ∷ paths) → path_cmp first path ≡ Greater → is_within path first ≡ false → filter (is_outside path) (first ∷ paths) ≡ first ∷ paths
unfolding IsStrictlySortedBy
first_stays path first paths rise greater off =
    ap (λ b. cond (not b) (first ∷ filter (is_outside path) paths) (filter (is_outside path) paths)) off
    ∙ ap (λ (more : List (List Seg)). first ∷ more) (past_first path first paths greater off rise.0)

-- what is left past the first that isn't at or below a path stays
pub left_stays : (path : List Seg) (paths : List (List Seg)) (end : ℕ) (item : List Seg) → PathsRise paths → AllByRecursion (λ other. path_cmp other path ≡ Greater) (drop end paths) → end < length paths → item ≡ get_or paths end item → is_within path item ≡ false
    → filter (λ other. not (is_within path other)) (drop end paths) ≡ drop end paths
left_stays path paths end item rise after less is off =
    let split = cut end paths item less is in
    ap (filter (is_outside path)) split
    ∙ first_stays path item (drop (suc end) paths) (subst PathsRise split (drop_rise end paths rise)) (subst (AllByRecursion (λ other. path_cmp other path ≡ Greater)) split after).0 off
    ∙ sym split

-- and one that is at or below it goes
pub one_goes : (path : List Seg) (paths : List (List Seg)) (end : ℕ) (item : List Seg) → end < length paths → item ≡ get_or paths end item → is_within path item ≡ true
    → filter (λ other. not (is_within path other)) (drop end paths) ≡ filter (λ other. not (is_within path other)) (drop (end + 1) paths)
one_goes path paths end item less is within =
    let e : suc end ≡ end + 1 = omega arith in
    ap (filter (is_outside path)) (cut end paths item less is)
    ∙ ap (λ b. cond (not b) (item ∷ filter (is_outside path) (drop (suc end) paths)) (filter (is_outside path) (drop (suc end) paths))) within
    ∙ ap (λ n. filter (is_outside path) (drop n paths)) e

pub after_next : (path : List Seg) (paths : List (List Seg)) (end : ℕ) (item : List Seg) → end < length paths → item ≡ get_or paths end item → AllByRecursion (λ other. path_cmp other path ≡ Greater) (drop end paths) → AllByRecursion (λ other. path_cmp other path ≡ Greater) (drop (end + 1) paths)
after_next path paths end item less is after =
    let e : suc end ≡ end + 1 = omega arith in
    subst (λ n. AllByRecursion (λ other. path_cmp other path ≡ Greater) (drop n paths)) e (subst (AllByRecursion (λ other. path_cmp other path ≡ Greater)) (cut end paths item less is) after).1

-- flags go with their paths
pub flags_placed : (was : List Seg → Bool) (path : List Seg) (paths : List (List Seg)) (flags : List Bool) (flag : Bool) (at end : ℕ) → flags ≡ map was paths → flag ≡ was path → take at flags ++ flag ∷ drop end flags ≡ map was (take at paths ++ path ∷ drop end paths)
flags_placed was path paths flags flag at end told is =
    (λ i. take at (told i) ++ is i ∷ drop end (told i))
    ∙ (λ i. take-map was at paths i ++ was path ∷ drop-map was end paths i)
    ∙ sym (map-append was (take at paths) (path ∷ drop end paths))
