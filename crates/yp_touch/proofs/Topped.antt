-- The topmost of paths, by which paths are among them.
use Rattle.std.proofs.Common.{◌≡◌, Bool, true, false, true≢false, not, ◌&&◌, ◌||◌, List, [], ◌∷◌, refl, sym, ap, subst, ◌∙◌, cond, ⊎_elim}
use Rattle.std.specs.Cmp.{both_ways}
use Rattle.std.specs.Prelude.{filter}
use Rattle.std.specs.List.{list_any, AllByRecursion}
use Rattle.std.specs.Ordering.{is_eq}
use Rattle.std.proofs.lemmas.Bool.{and_parts, and_from, and_right, or_cases, or_left, or_parts, or_right, false_from_ne_true}
use Rattle.std.proofs.lemmas.List.Kept.{IsStrictlySortedBy-filter}
use Rattle.yp_base.specs.declared.path.Seg.{Seg}
use Rattle.yp_base.specs.Order.{segment_cmp, path_cmp, is_within}
use Rattle.yp_base.specs.Exact.{segments_decide}
use Rattle.yp_base.specs.Paths.{is_above, topmost}
use Rattle.yp_base.specs.PathLaws.{are_one, ties_itself, within_itself, within_through}
use Rattle.yp_changes.specs.Among.{is_listed}
use Rattle.yp_changes.specs.Records.{put_path, put_paths}
use Rattle.yp_changes.specs.WindowLaws.{PathsRise, put_rises, puts_rise, put_listed, puts_listed, same_paths}
use Rattle.yp_touch.specs.Absorbed.{AreTopmost}
use Rattle.yp_touch.specs.Looked.{with_path, with_paths}
use Rattle.yp_touch.specs.RootLaws.{has_root, listed_rooted, found_one}

-- whether one of some paths stands above a path
abbrev pub has_above : List Seg → List (List Seg) → Bool
has_above path paths = list_any (λ above. is_above above path) paths

-- one of two that are told by "or"
pub by_either : {A : Type 0} (a b : Bool) → (a || b) ≡ true → (a ≡ true → A) → (b ≡ true → A) → A
by_either a b h f g = ⊎_elim f g (or_cases a b h)

-- a test that holds at a path that is among some holds of one of them
pub any_listed : (t : List Seg → Bool) (path : List Seg) (paths : List (List Seg)) → is_listed path paths ≡ true → t path ≡ true → list_any t paths ≡ true
any_listed t path [] listed is = absurd (true≢false (sym listed))
any_listed t path (first ∷ paths) listed is =
    elim (is_eq (path_cmp path first)) as (λ b. is_eq (path_cmp path first) ≡ b → (b || is_listed path paths) ≡ true → (t first || list_any t paths) ≡ true) [
      | true ↦ λ e k. ap (λ b. b || list_any t paths) (ap t (sym (are_one path first e)) ∙ is)
      | false ↦ λ e k. or_right (t first) (list_any t paths) (any_listed t path paths k is)
    ] refl listed

-- a test that no path of a list passes
pub none_true : (t : List Seg → Bool) (paths : List (List Seg)) (path : List Seg) → list_any t paths ≡ false → is_listed path paths ≡ true → t path ≡ false
none_true t paths path none listed = false_from_ne_true (t path) (λ e. true≢false (sym (any_listed t path paths listed e) ∙ none))

-- tests of any are one where the same paths are among two lists
pub any_same : (t : List Seg → Bool) (xs ys : List (List Seg)) → ((path : List Seg) → is_listed path xs ≡ true → is_listed path ys ≡ true) → list_any t xs ≡ true → list_any t ys ≡ true
any_same t xs ys on h = let one = found_one t xs h in any_listed t one.0 ys (on one.0 one.1) one.2

-- what holds of all paths of a list holds of one that is among them
pub listed_of : (P : List Seg → Type 0) (paths : List (List Seg)) (path : List Seg) → AllByRecursion P paths → is_listed path paths ≡ true → P path
listed_of P [] path all h = absurd (true≢false (sym h))
listed_of P (one ∷ paths) path all h =
    elim (is_eq (path_cmp path one)) as (λ b. is_eq (path_cmp path one) ≡ b → (b || is_listed path paths) ≡ true → P path) [
      | true ↦ λ e k. subst P (sym (are_one path one e)) all.0
      | false ↦ λ e k. listed_of P paths path all.1 k
    ] refl h

-- what is kept of a list by a test
pub kept_listed : (t : List Seg → Bool) (path : List Seg) (paths : List (List Seg)) → is_listed path (filter t paths) ≡ (is_listed path paths && t path)
kept_listed t path [] = refl
kept_listed t path (first ∷ paths) =
    elim (is_eq (path_cmp path first)) as (λ b. is_eq (path_cmp path first) ≡ b → is_listed path (filter t (first ∷ paths)) ≡ ((b || is_listed path paths) && t path)) [
      | true ↦ λ e. ap (λ x. is_listed path (cond x (first ∷ filter t paths) (filter t paths))) (ap t (sym (are_one path first e))) ∙ here (kept_listed t path paths) (t path) refl e
      | false ↦ λ e. there (kept_listed t path paths) (t first) e
    ] refl
  where
    here : is_listed path (filter t paths) ≡ (is_listed path paths && t path) → (b : Bool) → t path ≡ b → is_eq (path_cmp path first) ≡ true → is_listed path (cond b (first ∷ filter t paths) (filter t paths)) ≡ t path
    here later true is e = ap (λ x. x || is_listed path (filter t paths)) e ∙ sym is
    here later false is e = later ∙ and_right (is_listed path paths) (t path) is ∙ sym is

    there : is_listed path (filter t paths) ≡ (is_listed path paths && t path) → (b : Bool) → is_eq (path_cmp path first) ≡ false → is_listed path (cond b (first ∷ filter t paths) (filter t paths)) ≡ (is_listed path paths && t path)
    there later true e = ap (λ x. x || is_listed path (filter t paths)) e ∙ later
    there later false e = later

-- a topmost path is one of the paths, and none of them stands above it
pub topmost_listed : (path : List Seg) (paths : List (List Seg)) → is_listed path (topmost paths) ≡ (is_listed path paths && not (has_above path paths))
topmost_listed path paths = kept_listed (λ p. not (has_above p paths)) path paths

not_both : (b : Bool) → not b ≡ true → b ≡ true → ⊥
not_both true n h = true≢false (sym n)
not_both false n h = true≢false (sym h)

-- what a path that stands above another is at or below stands above it too
pub above_on : (root one path : List Seg) → is_within root one ≡ true → is_above one path ≡ true → is_above root path ≡ true
above_on root one path within above =
    let parts = and_parts (is_within one path) (not (is_within path one)) above in
    and_from (is_within root path) (not (is_within path root)) (within_through root one path within parts.0)
    (ap not (false_from_ne_true (is_within path root) (λ e. not_both (is_within path one) parts.1 (within_through path root one e within))))

pub still_listed : (path : List Seg) (paths : List (List Seg)) → is_listed path (topmost paths) ≡ true → is_listed path paths ≡ true
still_listed path paths h = (and_parts (is_listed path paths) (not (has_above path paths)) (sym (topmost_listed path paths) ∙ h)).0

-- what stands above a path among the topmost of paths is as among the paths
pub above_topmost : (path : List Seg) (paths : List (List Seg)) → has_above path (topmost paths) ≡ has_above path paths
above_topmost path paths =
    both_ways (has_above path (topmost paths)) (has_above path paths)
    (any_same (λ above. is_above above path) (topmost paths) paths (λ p h. still_listed p paths h))
    (λ h.
    let one = found_one (λ above. is_above above path) paths h in
    let root = found_one (λ root. is_within root one.0) (topmost paths) (listed_rooted paths one.0 one.1) in
    any_listed (λ above. is_above above path) root.0 (topmost paths) root.1 (above_on root.0 one.0 path root.2 one.2))

-- a path is at or below one of the topmost of paths exactly where it is at or below one of these
pub rooted_same : (path : List Seg) (paths : List (List Seg)) → has_root path (topmost paths) ≡ has_root path paths
rooted_same path paths =
    both_ways (has_root path (topmost paths)) (has_root path paths)
    (any_same (λ root. is_within root path) (topmost paths) paths (λ p h. still_listed p paths h))
    (λ h.
    let one = found_one (λ root. is_within root path) paths h in
    let root = found_one (λ root. is_within root one.0) (topmost paths) (listed_rooted paths one.0 one.1) in
    any_listed (λ root. is_within root path) root.0 (topmost paths) root.1 (within_through root.0 one.0 path root.2 one.2))

pub any_puts : (t : List Seg → Bool) (news paths : List (List Seg)) → list_any t (put_paths news paths) ≡ (list_any t news || list_any t paths)
any_puts t news paths =
    both_ways (list_any t (put_paths news paths)) (list_any t news || list_any t paths)
    (λ h.
    let one = found_one t (put_paths news paths) h in
    by_either (is_listed one.0 news) (is_listed one.0 paths) (sym (puts_listed one.0 news paths) ∙ one.1)
    (λ l. or_left (list_any t news) (list_any t paths) (any_listed t one.0 news l one.2))
    (λ l. or_right (list_any t news) (list_any t paths) (any_listed t one.0 paths l one.2)))
    (λ h.
    by_either (list_any t news) (list_any t paths) h
    (any_same t news (put_paths news paths) (λ p l. puts_listed p news paths ∙ or_left (is_listed p news) (is_listed p paths) l))
    (any_same t paths (put_paths news paths) (λ p l. puts_listed p news paths ∙ or_right (is_listed p news) (is_listed p paths) l)))

pub topmost_rise : (paths : List (List Seg)) → PathsRise paths → PathsRise (topmost paths)
topmost_rise paths rise = IsStrictlySortedBy-filter path_cmp (λ p. not (has_above p paths)) paths rise

and_twice : (l u : Bool) → ((l && not u) && not u) ≡ (l && not u)
and_twice true true = refl
and_twice true false = refl
and_twice false u = refl

-- the topmost of paths are topmost among themselves
pub topmost_twice : (paths : List (List Seg)) → PathsRise paths → topmost (topmost paths) ≡ topmost paths
topmost_twice paths rise =
    same_paths (topmost (topmost paths)) (topmost paths) (topmost_rise (topmost paths) (topmost_rise paths rise)) (topmost_rise paths rise) (λ path.
    topmost_listed path (topmost paths)
    ∙ (λ i. topmost_listed path paths i && not (above_topmost path paths i))
    ∙ and_twice (is_listed path paths) (has_above path paths)
    ∙ sym (topmost_listed path paths))

-- a path and one that it is covered by stand so that the one is the other, or above it
pub within_same : (a b : List Seg) → is_within a b ≡ true → is_within b a ≡ true → a ≡ b
within_same [] [] h k = refl
within_same [] (y ∷ b) h k = absurd (true≢false (sym k))
within_same (x ∷ a) [] h k = absurd (true≢false (sym h))
within_same (x ∷ a) (y ∷ b) h k =
    let one = and_parts (is_eq (segment_cmp x y)) (is_within a b) h in
    let two = and_parts (is_eq (segment_cmp y x)) (is_within b a) k in
    λ i. (segments_decide x y).0 one.0 i ∷ within_same a b one.1 two.1 i

-- a path that others cover and that is none of them has one of them above it
pub covered_above : (path : List Seg) (paths : List (List Seg)) → has_root path paths ≡ true → is_listed path paths ≡ false → has_above path paths ≡ true
covered_above path paths covered out =
    let root = found_one (λ root. is_within root path) paths covered in
    any_listed (λ above. is_above above path) root.0 paths root.1
    (and_from (is_within root.0 path) (not (is_within path root.0)) root.2 (ap not (false_from_ne_true (is_within path root.0) (λ back.
    true≢false (sym root.1 ∙ ap (λ (p : List Seg). is_listed p paths) (within_same root.0 path root.2 back) ∙ out)))))

-- the topmost of two lists of paths are one where the other's paths are among the one's, and the one's are at or below the other's
module _ (few all : List (List Seg)) (grows : (path : List Seg) → is_listed path few ≡ true → is_listed path all ≡ true) (rest : (path : List Seg) → is_listed path all ≡ true → is_listed path few ≡ false → has_root path few ≡ true) where
  above_same : (path : List Seg) → has_above path few ≡ has_above path all
  above_same path =
      both_ways (has_above path few) (has_above path all) (any_same (λ above. is_above above path) few all grows) (λ h.
      let one = found_one (λ above. is_above above path) all h in
      elim (is_listed one.0 few) as (λ b. is_listed one.0 few ≡ b → has_above path few ≡ true) [
        | true ↦ λ e. any_listed (λ above. is_above above path) one.0 few e one.2
        | false ↦ λ e.
            let root = found_one (λ root. is_within root one.0) few (rest one.0 one.1 e) in
            any_listed (λ above. is_above above path) root.0 few root.1 (above_on root.0 one.0 path root.2 one.2)
      ] refl)

  listed_back : (path : List Seg) → has_above path few ≡ false → is_listed path all ≡ true → is_listed path few ≡ true
  listed_back path free l =
      elim (is_listed path few) as (λ b. is_listed path few ≡ b → b ≡ true) [
        | true ↦ λ e. refl
        | false ↦ λ e. absurd (true≢false (sym (covered_above path few (rest path l e) e) ∙ free))
      ] refl

  members_same : (l k u : Bool) → (l ≡ true → k ≡ true) → (u ≡ false → k ≡ true → l ≡ true) → (l && not u) ≡ (k && not u)
  members_same l k true on back = and_right l (not true) refl ∙ sym (and_right k (not true) refl)
  members_same l k false on back = ap (λ b. b && true) (both_ways l k on (back refl))

  pub same_topmost : PathsRise few → PathsRise all → topmost few ≡ topmost all
  same_topmost few_rise all_rise =
      same_paths (topmost few) (topmost all) (topmost_rise few few_rise) (topmost_rise all all_rise) (λ path.
      topmost_listed path few
      ∙ members_same (is_listed path few) (is_listed path all) (has_above path few) (grows path) (λ free. listed_back path free)
      ∙ ap (λ b. is_listed path all && not b) (above_same path)
      ∙ sym (topmost_listed path all))

-- the topmost of paths and some more are those of the topmost and these
pub topmost_join : (news paths : List (List Seg)) → PathsRise paths → topmost (put_paths news (topmost paths)) ≡ topmost (put_paths news paths)
topmost_join news paths rise =
    same_topmost (put_paths news (topmost paths)) (put_paths news paths)
    (λ path l.
    by_either (is_listed path news) (is_listed path (topmost paths)) (sym (puts_listed path news (topmost paths)) ∙ l)
    (λ h. puts_listed path news paths ∙ or_left (is_listed path news) (is_listed path paths) h)
    (λ h. puts_listed path news paths ∙ or_right (is_listed path news) (is_listed path paths) (still_listed path paths h)))
    (λ path l out.
    by_either (is_listed path news) (is_listed path paths) (sym (puts_listed path news paths) ∙ l)
    (λ h. absurd (true≢false (sym (puts_listed path news (topmost paths) ∙ or_left (is_listed path news) (is_listed path (topmost paths)) h) ∙ out)))
    (λ h.
    any_puts (λ root. is_within root path) news (topmost paths)
    ∙ or_right (has_root path news) (has_root path (topmost paths)) (listed_rooted paths path h)))
    (puts_rise news (topmost paths) (topmost_rise paths rise)) (puts_rise news paths rise)

-- more paths make no other topmost ones where they are at or below paths that are there
pub topmost_enough : (few all paths : List (List Seg)) → PathsRise paths → ((path : List Seg) → is_listed path few ≡ true → is_listed path all ≡ true) → ((path : List Seg) → is_listed path all ≡ true → is_listed path few ≡ false → has_root path paths ≡ true)
    → topmost (put_paths few paths) ≡ topmost (put_paths all paths)
topmost_enough few all paths rise grows more =
    same_topmost (put_paths few paths) (put_paths all paths)
    (λ path l.
    by_either (is_listed path few) (is_listed path paths) (sym (puts_listed path few paths) ∙ l)
    (λ h. puts_listed path all paths ∙ or_left (is_listed path all) (is_listed path paths) (grows path h))
    (λ h. puts_listed path all paths ∙ or_right (is_listed path all) (is_listed path paths) h))
    (λ path l out.
    let gone = or_parts (is_listed path few) (is_listed path paths) (sym (puts_listed path few paths) ∙ out) in
    by_either (is_listed path all) (is_listed path paths) (sym (puts_listed path all paths) ∙ l)
    (λ h. any_puts (λ root. is_within root path) few paths ∙ or_right (has_root path few) (has_root path paths) (more path h gone.0))
    (λ h. absurd (true≢false (sym h ∙ gone.1))))
    (puts_rise few paths rise) (puts_rise all paths rise)

-- ---- one more path

module _ (paths : List (List Seg)) (new : List Seg) (rise : PathsRise paths) where
  covered_one : has_root new paths ≡ true → topmost paths ≡ topmost (put_path new paths)
  covered_one covered =
      same_topmost paths (put_path new paths)
      (λ path l. put_listed path new paths ∙ or_right (is_eq (path_cmp path new)) (is_listed path paths) l)
      (λ path l out.
      by_either (is_eq (path_cmp path new)) (is_listed path paths) (sym (put_listed path new paths) ∙ l)
      (λ same. ap (λ (p : List Seg). has_root p paths) (are_one path new same) ∙ covered)
      (λ h. absurd (true≢false (sym h ∙ out))))
      rise (put_rises new paths rise)

  -- the paths that are left where the new one takes the place of those below it
  abbrev left : List (List Seg)
  left = filter (λ path. not (is_within new path)) paths

  left_rise : PathsRise left
  left_rise = IsStrictlySortedBy-filter path_cmp (λ path. not (is_within new path)) paths rise

  fresh_one : topmost (put_path new left) ≡ topmost (put_path new paths)
  fresh_one =
      same_topmost (put_path new left) (put_path new paths)
      (λ path l.
      by_either (is_eq (path_cmp path new)) (is_listed path left) (sym (put_listed path new left) ∙ l)
      (λ same. put_listed path new paths ∙ or_left (is_eq (path_cmp path new)) (is_listed path paths) same)
      (λ h. put_listed path new paths ∙ or_right (is_eq (path_cmp path new)) (is_listed path paths) (and_parts (is_listed path paths) (not (is_within new path)) (sym (kept_listed (λ p. not (is_within new p)) path paths) ∙ h)).0))
      (λ path l out.
      let gone = or_parts (is_eq (path_cmp path new)) (is_listed path left) (sym (put_listed path new left) ∙ out) in
      any_listed (λ root. is_within root path) new (put_path new left) (put_listed new new left ∙ or_left (is_eq (path_cmp new new)) (is_listed new left) (ties_itself new))
      (by_either (is_eq (path_cmp path new)) (is_listed path paths) (sym (put_listed path new paths) ∙ l)
      (λ same. absurd (true≢false (sym same ∙ gone.0)))
      (λ h. elim (is_within new path) as (λ b. is_within new path ≡ b → b ≡ true) [
        | true ↦ λ e. refl
        | false ↦ λ e. absurd (true≢false (sym (kept_listed (λ p. not (is_within new p)) path paths ∙ and_from (is_listed path paths) (not (is_within new path)) h (ap not e)) ∙ gone.1))
      ] refl)))
      (put_rises new left left_rise) (put_rises new paths rise)

  none_above_left : (above path : List Seg) → topmost paths ≡ paths → has_root new paths ≡ false → is_listed above (put_path new left) ≡ true → is_listed path (put_path new left) ≡ true → is_above above path ≡ true → ⊥
  none_above_left above path apart free up low is =
      let parts = and_parts (is_within above path) (not (is_within path above)) is in
      by_either (is_eq (path_cmp above new)) (is_listed above left) (sym (put_listed above new left) ∙ up)
      (λ here.
      by_either (is_eq (path_cmp path new)) (is_listed path left) (sym (put_listed path new left) ∙ low)
      (λ same. not_both (is_within path above) parts.1 ((λ i. is_within (are_one path new same i) (are_one above new here i)) ∙ within_itself new))
      (λ l. not_both (is_within new path) (and_parts (is_listed path paths) (not (is_within new path)) (sym (kept_listed (λ p. not (is_within new p)) path paths) ∙ l)).1 (ap (λ (p : List Seg). is_within p path) (sym (are_one above new here)) ∙ parts.0)))
      (λ l.
      let there = (and_parts (is_listed above paths) (not (is_within new above)) (sym (kept_listed (λ p. not (is_within new p)) above paths) ∙ l)).0 in
      by_either (is_eq (path_cmp path new)) (is_listed path left) (sym (put_listed path new left) ∙ low)
      (λ same. true≢false (sym (any_listed (λ root. is_within root new) above paths there (ap (is_within above) (sym (are_one path new same)) ∙ parts.0)) ∙ free))
      (λ k.
      let lower = (and_parts (is_listed path paths) (not (is_within new path)) (sym (kept_listed (λ p. not (is_within new p)) path paths) ∙ k)).0 in
      pair_apart above path apart there lower is))
    where
      pair_apart : (above path : List Seg) → topmost paths ≡ paths → is_listed above paths ≡ true → is_listed path paths ≡ true → is_above above path ≡ true → ⊥
      pair_apart above path apart there lower is =
          not_both (has_above path paths) (and_parts (is_listed path paths) (not (has_above path paths)) (sym (topmost_listed path paths) ∙ ap (is_listed path) apart ∙ lower)).1 (any_listed (λ one. is_above one path) above paths there is)

  -- the new one among them stands topmost as they do
  fresh_stands : topmost paths ≡ paths → has_root new paths ≡ false → topmost (put_path new left) ≡ put_path new left
  fresh_stands apart free =
      same_paths (topmost (put_path new left)) (put_path new left) (topmost_rise (put_path new left) (put_rises new left left_rise)) (put_rises new left left_rise) (λ path.
      topmost_listed path (put_path new left)
      ∙ both_ways (is_listed path (put_path new left) && not (has_above path (put_path new left))) (is_listed path (put_path new left))
      (λ h. (and_parts (is_listed path (put_path new left)) (not (has_above path (put_path new left))) h).0)
      (λ h. and_from (is_listed path (put_path new left)) (not (has_above path (put_path new left))) h (ap not (false_from_ne_true (has_above path (put_path new left)) (λ above.
      let one = found_one (λ above. is_above above path) (put_path new left) above in
      none_above_left one.0 path apart free one.1 h one.2)))))

  -- one more path among topmost ones
  pub join_one : topmost paths ≡ paths → with_path paths new ≡ topmost (put_path new paths)
  join_one apart =
      elim (has_root new paths) as (λ b. has_root new paths ≡ b → cond b paths (put_path new left) ≡ topmost (put_path new paths)) [
        | true ↦ λ e. sym apart ∙ covered_one e
        | false ↦ λ e. sym (fresh_stands apart e) ∙ fresh_one
      ] refl

-- it stands topmost among them
pub with_path_stands : (paths : List (List Seg)) (new : List Seg) → AreTopmost paths → AreTopmost (with_path paths new)
with_path_stands paths new stand =
    let all = put_path new paths in
    let rise = put_rises new paths stand.in_order in
    subst AreTopmost (sym (join_one paths new stand.in_order stand.topmost)) (record { in_order = topmost_rise all rise; topmost = topmost_twice all rise })

-- more of them among topmost ones, one after another, are the topmost of all
pub join_all : (paths news : List (List Seg)) → PathsRise paths → topmost paths ≡ paths → with_paths paths news ≡ topmost (put_paths news paths)
join_all paths [] rise apart = sym apart
join_all paths (new ∷ news) rise apart =
    let all = put_path new paths in
    let all_rise = put_rises new paths rise in
    ap (λ (now : List (List Seg)). with_paths now news) (join_one paths new rise apart)
    ∙ join_all (topmost all) news (topmost_rise all all_rise) (topmost_twice all all_rise)
    ∙ topmost_join news all all_rise
