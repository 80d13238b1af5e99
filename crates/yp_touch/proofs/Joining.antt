-- Roots of a step that are known from nothing, joined to kept ones: these absorb the step.
use Rattle.std.proofs.Common.{◌≡◌, List, [], ◌∷◌, length, arith, map, refl, sym, ap, subst, ◌∙◌, cond, Bool, true, false, true≢false, not, ◌||◌}
use Rattle.std.specs.Prelude.{filter}
use Rattle.std.specs.List.{AllByRecursion}
use Rattle.std.proofs.lemmas.Bool.{and_parts, and_from, or_left, or_right}
use Rattle.yp_base.specs.declared.path.Seg.{Seg}
use Rattle.yp_base.specs.declared.row.Row.{Row}
use Rattle.yp_base.specs.Order.{is_within}
use Rattle.yp_base.specs.Paths.{topmost}
use Rattle.yp_base.specs.PathLaws.{within_itself, within_through}
use Rattle.yp_schema.specs.Datastore.{has_row}
use Rattle.yp_changes.specs.Among.{is_listed}
use Rattle.yp_changes.specs.Records.{changed_paths, put_paths}
use Rattle.yp_changes.specs.WindowLaws.{PathsRise, puts_rise, puts_listed}
use Rattle.yp_touch.specs.declared.root.Root.{Root}
use Rattle.yp_touch.specs.Absorbed.{AreTopmost, flagged, paths_of, root_at, was_in, absorbed, all_absorbed}
use Rattle.yp_touch.specs.Looked.{uncovered, with_paths}
use Rattle.yp_touch.specs.RootLaws.{has_root, found_one, listed_rooted}
use Rattle.yp_touch.proofs.Absorbing.{paths_back, flags_told, flagged_map, flagged_paths, was_before, absorbed_are, none_are}
use Rattle.yp_touch.proofs.Enough.{not_listed}
use Rattle.yp_touch.proofs.Topped.{any_listed, any_puts, by_either, kept_listed, still_listed, topmost_rise, topmost_twice, same_topmost, join_all}

-- whether no path covers a path
abbrev is_free : List (List Seg) → List Seg → Bool
is_free paths path = not (has_root path paths)

-- ---- the roots that no path covers

uncovered_paths : (paths : List (List Seg)) (roots : List Root) → paths_of (uncovered paths roots) ≡ filter (is_free paths) (paths_of roots)
uncovered_paths paths [] = refl
uncovered_paths paths (root ∷ roots) =
    elim (has_root root.path paths) as (λ b. paths_of (cond (not b) (root ∷ uncovered paths roots) (uncovered paths roots)) ≡ cond (not b) (root.path ∷ filter (is_free paths) (paths_of roots)) (filter (is_free paths) (paths_of roots))) [
      | true ↦ uncovered_paths paths roots
      | false ↦ ap (λ (more : List (List Seg)). root.path ∷ more) (uncovered_paths paths roots)
    ]

uncovered_told : (paths : List (List Seg)) (old was : List Seg → Bool) → ((path : List Seg) → has_root path paths ≡ false → old path ≡ was path) → (tops : List (List Seg))
    → AllByRecursion (λ (root : Root). root.was ≡ was root.path) (uncovered paths (map (root_at old) tops))
uncovered_told paths old was same [] = tt
uncovered_told paths old was same (top ∷ tops) =
    elim (has_root top paths) as (λ b. has_root top paths ≡ b → AllByRecursion (λ (root : Root). root.was ≡ was root.path) (cond (not b) (root_at old top ∷ uncovered paths (map (root_at old) tops)) (uncovered paths (map (root_at old) tops)))) [
      | true ↦ λ e. uncovered_told paths old was same tops
      | false ↦ λ e. (same top e, uncovered_told paths old was same tops)
    ] refl

-- ---- what they make of kept paths

module _ (paths changed : List (List Seg)) (rise : PathsRise paths) where
  -- the topmost of the changed paths
  abbrev tops : List (List Seg)
  tops = topmost (put_paths changed [])

  -- those of them that no kept path covers
  abbrev fresh : List (List Seg)
  fresh = filter (is_free paths) tops

  fresh_changed : (path : List Seg) → is_listed path fresh ≡ true → is_listed path changed ≡ true
  fresh_changed path l =
      let top = (and_parts (is_listed path tops) (is_free paths path) (sym (kept_listed (is_free paths) path tops) ∙ l)).0 in
      by_either (is_listed path changed) false (sym (puts_listed path changed []) ∙ still_listed path (put_paths changed []) top) (λ h. h) (λ none. absurd (true≢false (sym none)))

  -- each changed path is at or below one of these, or of the kept ones
  changed_covered : (path : List Seg) → is_listed path changed ≡ true → (has_root path fresh || has_root path paths) ≡ true
  changed_covered path l =
      let top = found_one (λ root. is_within root path) tops (listed_rooted (put_paths changed []) path (puts_listed path changed [] ∙ or_left (is_listed path changed) false l)) in
      elim (has_root top.0 paths) as (λ b. has_root top.0 paths ≡ b → (has_root path fresh || has_root path paths) ≡ true) [
        | true ↦ λ e.
            let root = found_one (λ root. is_within root top.0) paths e in
            or_right (has_root path fresh) (has_root path paths) (any_listed (λ root. is_within root path) root.0 paths root.1 (within_through root.0 top.0 path root.2 top.2))
        | false ↦ λ e.
            or_left (has_root path fresh) (has_root path paths)
            (any_listed (λ root. is_within root path) top.0 fresh (kept_listed (is_free paths) top.0 tops ∙ and_from (is_listed top.0 tops) (is_free paths top.0) top.1 (ap not e)) top.2)
      ] refl

  -- so they make of the kept paths what all changed paths make
  pub joined_topmost : topmost (put_paths fresh paths) ≡ topmost (put_paths changed paths)
  joined_topmost =
      same_topmost (put_paths fresh paths) (put_paths changed paths)
      (λ path l.
      by_either (is_listed path fresh) (is_listed path paths) (sym (puts_listed path fresh paths) ∙ l)
      (λ h. puts_listed path changed paths ∙ or_left (is_listed path changed) (is_listed path paths) (fresh_changed path h))
      (λ h. puts_listed path changed paths ∙ or_right (is_listed path changed) (is_listed path paths) h))
      (λ path l out.
      any_puts (λ root. is_within root path) fresh paths
      ∙ by_either (is_listed path changed) (is_listed path paths) (sym (puts_listed path changed paths) ∙ l)
      (λ h. changed_covered path h)
      (λ h. or_right (has_root path fresh) (has_root path paths) (any_listed (λ root. is_within root path) path paths h (within_itself path))))
      (puts_rise fresh paths rise) (puts_rise changed paths rise)

-- ---- kept roots that are joined

module _ (paths : List (List Seg)) (flags : List Bool) (same : length paths ≡ length flags) (stand : AreTopmost paths) (step found : List Root) (told : found ≡ uncovered paths step) (all : List (List Seg)) (put : all ≡ with_paths paths (paths_of found)) where
  -- their paths stand topmost
  pub joined_stand : AreTopmost all
  joined_stand =
      let every = put_paths (paths_of found) paths in
      let rise = puts_rise (paths_of found) paths stand.in_order in
      subst AreTopmost (sym (put ∙ join_all paths (paths_of found) stand.in_order stand.topmost)) (record { in_order = topmost_rise every rise; topmost = topmost_twice every rise })

  -- and with the flags they absorb the step
  pub joined_absorb : (before after : List Row) (marks : List Bool) → step ≡ absorbed [] before after
      → ((was : List Seg → Bool) → flags ≡ map was paths → AllByRecursion (λ (root : Root). root.was ≡ was root.path) found → marks ≡ map was all)
      → flagged all marks ≡ absorbed (flagged paths flags) before after
  joined_absorb before after marks is marked =
      let roots = flagged paths flags in
      let was : List Seg → Bool = was_in roots before in
      let old : List Seg → Bool = λ path. has_row path before in
      let changed = changed_paths before after in
      let news = topmost (put_paths changed []) in
      let back : paths_of roots ≡ paths = flagged_paths paths flags same in
      let from : found ≡ uncovered paths (map (root_at old) news) = told ∙ ap (uncovered paths) is in
      let each : AllByRecursion (λ (root : Root). root.was ≡ was root.path) found =
      subst (AllByRecursion (λ (root : Root). root.was ≡ was root.path)) (sym from)
      (uncovered_told paths old was (λ path free. sym (was_before roots before path (ap (is_listed path) back ∙ not_listed path paths free))) news) in
      let found_paths : paths_of found ≡ filter (is_free paths) news = ap paths_of from ∙ uncovered_paths paths (map (root_at old) news) ∙ ap (filter (is_free paths)) (paths_back old news) in
      let whole : all ≡ topmost (put_paths changed paths) =
      put ∙ join_all paths (paths_of found) stand.in_order stand.topmost
      ∙ ap (λ (ps : List (List Seg)). topmost (put_paths ps paths)) found_paths
      ∙ joined_topmost paths changed stand.in_order in
      ap (flagged all) (marked was (flags_told paths flags before same stand.in_order) each)
      ∙ flagged_map was all
      ∙ ap (map (root_at was)) (whole ∙ ap (λ (ps : List (List Seg)). topmost (put_paths changed ps)) (sym back))

-- ---- a step without roots

-- a flag of each root
abbrev flags_of : List Root → List Bool
flags_of roots = map (λ root. root.was) roots

same_count : (roots : List Root) → length (paths_of roots) ≡ length (flags_of roots)
same_count [] = refl
same_count (root ∷ roots) = let more = same_count roots in omega (arith, more)

flagged_back : (roots : List Root) → flagged (paths_of roots) (flags_of roots) ≡ roots
flagged_back [] = refl
flagged_back (root ∷ roots) = ap (λ (more : List Root). root ∷ more) (flagged_back roots)

-- roots in order tell what they are
told_back : (roots : List Root) (before : List Row) → PathsRise (paths_of roots) → map (root_at (was_in roots before)) (paths_of roots) ≡ roots
told_back roots before rise =
    ap (λ (all : List Root). map (root_at (was_in all before)) (paths_of roots)) (sym (flagged_back roots))
    ∙ sym (flagged_map (was_in (flagged (paths_of roots) (flags_of roots)) before) (paths_of roots))
    ∙ ap (flagged (paths_of roots)) (sym (flags_told (paths_of roots) (flags_of roots) before (same_count roots) rise))
    ∙ flagged_back roots

-- a step that touches nothing from nothing leaves them
pub no_roots_leave : (roots : List Root) (before after : List Row) → AreTopmost (paths_of roots) → absorbed [] before after ≡ [] → absorbed roots before after ≡ roots
no_roots_leave roots before after stand none =
    let changed = changed_paths before after in
    let old : List Seg → Bool = λ path. has_row path before in
    let no_tops : topmost (put_paths changed []) ≡ [] = sym (paths_back old (topmost (put_paths changed []))) ∙ ap paths_of none in
    ap (map (root_at (was_in roots before)))
    (sym (joined_topmost (paths_of roots) changed stand.in_order)
    ∙ ap (λ (ps : List (List Seg)). topmost (put_paths (filter (is_free (paths_of roots)) ps) (paths_of roots))) no_tops
    ∙ stand.topmost)
    ∙ told_back roots before stand.in_order

-- ---- the roots of a window

all_stand : (roots : List Root) (selected : List Row) (later : List (List Row)) → AreTopmost (paths_of roots) → AreTopmost (paths_of (all_absorbed roots selected later))
all_stand roots selected [] stand = stand
all_stand roots selected (next ∷ later) stand = all_stand (absorbed roots selected next) next later (absorbed_are roots selected next stand.in_order)

-- stand topmost
pub window_stands : (first : List Row) (later : List (List Row)) → AreTopmost (paths_of (all_absorbed [] first later))
window_stands first later = all_stand [] first later none_are
