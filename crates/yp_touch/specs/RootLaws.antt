-- What follows of the topmost of some paths: each of the paths is at or below one of them.
use Rattle.std.proofs.Common.{◌≡◌, ℕ, zero, suc, ◌+◌, ◌<◌, List, [], ◌∷◌, ◌++◌, length, refl, sym, ap, subst, ◌∙◌, cond, Bool, true, false, true≢false, not, ◌||◌, arith, append-nil, length-append}
use Rattle.std.specs.Prelude.{filter}
use Rattle.std.specs.List.{list_any, AllByRecursion}
use Rattle.std.specs.Ordering.{is_eq}
use Rattle.std.proofs.lemmas.Bool.{and_parts, not-true, or_right}
use Rattle.yp_base.specs.declared.path.Seg.{Seg}
use Rattle.yp_base.specs.Order.{path_cmp, is_within}
use Rattle.yp_changes.specs.Among.{is_listed}
use Rattle.yp_base.specs.Paths.{is_above, topmost as roots_of}
use Rattle.yp_base.specs.PathLaws.{are_one, ties_itself, within_itself, within_rest, within_through}

-- whether a path is at or below one of these
abbrev pub has_root : List Seg → List (List Seg) → Bool
has_root path roots = list_any (λ root. is_within root path) roots

-- what is below a covered path is covered
rooted_on : (above path : List Seg) (roots : List (List Seg)) → is_within above path ≡ true → has_root above roots ≡ true → has_root path roots ≡ true
rooted_on above path [] lower h = absurd (true≢false (sym h))
rooted_on above path (root ∷ roots) lower h =
    elim (is_within root above) as (λ b. is_within root above ≡ b → (b || has_root above roots) ≡ true → (is_within root path || has_root path roots) ≡ true) [
      | true ↦ λ e k. ap (λ b. b || has_root path roots) (within_through root above path e lower)
      | false ↦ λ e k. or_right (is_within root path) (has_root path roots) (rooted_on above path roots lower k)
    ] refl h

-- one that passes a test is found
pub found_one : (t : List Seg → Bool) (paths : List (List Seg)) → list_any t paths ≡ true → (path : List Seg) × (is_listed path paths ≡ true) × (t path ≡ true)
found_one t [] h = absurd (true≢false (sym h))
found_one t (path ∷ paths) h =
    elim (t path) as (λ b. t path ≡ b → (b || list_any t paths) ≡ true → (one : List Seg) × (is_listed one (path ∷ paths) ≡ true) × (t one ≡ true)) [
      | true ↦ λ e k. (path, ap (λ b. b || is_listed path paths) (ties_itself path), e)
      | false ↦ λ e k. let more = found_one t paths k in (more.0, or_right (is_eq (path_cmp more.0 path)) (is_listed more.0 paths) more.1, more.2)
    ] refl h

-- a path that is kept is covered
kept_at : (b : Bool) (t : List Seg → Bool) (path one : List Seg) (paths : List (List Seg)) → t one ≡ b → is_within one path ≡ true → (path ≡ one → b ≡ true) → is_eq (path_cmp path one) ≡ true → has_root path (cond b (one ∷ filter t paths) (filter t paths)) ≡ true
kept_at true t path one paths is within passes same = ap (λ b. b || has_root path (filter t paths)) within
kept_at false t path one paths is within passes same = absurd (true≢false (sym (passes (are_one path one same))))

kept_later : (b : Bool) (t : List Seg → Bool) (path one : List Seg) (paths : List (List Seg)) → has_root path (filter t paths) ≡ true → has_root path (cond b (one ∷ filter t paths) (filter t paths)) ≡ true
kept_later true t path one paths h = or_right (is_within one path) (has_root path (filter t paths)) h
kept_later false t path one paths h = h

kept_rooted : (t : List Seg → Bool) (path : List Seg) (paths : List (List Seg)) → is_listed path paths ≡ true → t path ≡ true → has_root path (filter t paths) ≡ true
kept_rooted t path [] listed passes = absurd (true≢false (sym listed))
kept_rooted t path (one ∷ paths) listed passes =
    elim (is_eq (path_cmp path one)) as (λ b. is_eq (path_cmp path one) ≡ b → (b || is_listed path paths) ≡ true → has_root path (filter t (one ∷ paths)) ≡ true) [
      | true ↦ λ e k. kept_at (t one) t path one paths refl (subst (λ (p : List Seg). is_within p path ≡ true) (are_one path one e) (within_itself path)) (λ same. sym (ap t same) ∙ passes) e
      | false ↦ λ e k. kept_later (t one) t path one paths (kept_rooted t path paths k passes)
    ] refl listed

longer_by : (above rest path : List Seg) → path ≡ above ++ rest → is_within path above ≡ false → length above < length path
longer_by above [] path is apart = absurd (true≢false (sym (subst (λ (p : List Seg). is_within p above ≡ true) (sym (is ∙ append-nil above)) (within_itself above)) ∙ apart))
longer_by above (seg ∷ rest) path is apart =
    let long : length path ≡ length above + suc (length rest) = ap (λ (p : List Seg). length p) is ∙ length-append above (seg ∷ rest) in omega (arith, long)

-- a path that stands above another is shorter
above_shorter : (above path : List Seg) → is_above above path ≡ true → length above < length path
above_shorter above path h =
    let parts = and_parts (is_within above path) (not (is_within path above)) h in
    let found = within_rest above path parts.0 in
    longer_by above found.0 path found.1 (not-true (is_within path above) parts.1)

rooted_within : (n : ℕ) (paths : List (List Seg)) (path : List Seg) → length path < n → is_listed path paths ≡ true → has_root path (roots_of paths) ≡ true
rooted_within zero paths path short listed = absurd (omega (arith, short))
rooted_within (suc n) paths path short listed =
    elim (list_any (λ above. is_above above path) paths) as (λ b. list_any (λ above. is_above above path) paths ≡ b → has_root path (roots_of paths) ≡ true) [
      | true ↦ λ e.
          let one = found_one (λ above. is_above above path) paths e in
          let less = above_shorter one.0 path one.2 in
          rooted_on one.0 path (roots_of paths) (and_parts (is_within one.0 path) (not (is_within path one.0)) one.2).0
          (rooted_within n paths one.0 (omega (arith, less, short)) one.1)
      | false ↦ λ e. kept_rooted (λ path. not (list_any (λ above. is_above above path) paths)) path paths listed (ap not e)
    ] refl

-- each of the paths is at or below a topmost one
pub listed_rooted : (paths : List (List Seg)) (path : List Seg) → is_listed path paths ≡ true → has_root path (roots_of paths) ≡ true
listed_rooted paths path listed = rooted_within (suc (length path)) paths path (omega arith) listed

some_at : (b : Bool) (P : List Seg → Type 0) (path : List Seg) (paths : List (List Seg)) → P path → AllByRecursion P paths → AllByRecursion P (cond b (path ∷ paths) paths)
some_at true P path paths here all = (here, all)
some_at false P path paths here all = all

-- what holds of all paths holds of those that a test keeps
pub some_paths : (t : List Seg → Bool) (P : List Seg → Type 0) (paths : List (List Seg)) → AllByRecursion P paths → AllByRecursion P (filter t paths)
some_paths t P [] all = tt
some_paths t P (path ∷ paths) all = some_at (t path) P path (filter t paths) all.0 (some_paths t P paths all.1)
