-- Roots that are absorbed from one selection to the next are the topmost of all touched paths, as they were in the first selection.
use Rattle.std.proofs.Common.{◌≡◌, Bool, true, false, true≢false, not, ◌&&◌, ◌||◌, List, [], ◌∷◌, ◌++◌, length, arith, map, refl, sym, ap, subst, ◌∙◌, cond}
use Rattle.std.specs.Prelude.{filter, is_some}
use Rattle.std.specs.List.{AllByRecursion}
use Rattle.std.specs.List.Sorted.{IsStrictlySortedBy}
use Rattle.std.specs.Ordering.{is_eq}
use Rattle.std.proofs.lemmas.Bool.{or_parts}
use Rattle.yp_base.specs.declared.path.Seg.{Seg}
use Rattle.yp_base.specs.declared.row.Row.{Row}
use Rattle.yp_base.specs.declared.notice.Change.{Change}
use Rattle.yp_base.specs.declared.notice.Kinds.{Kinds}
use Rattle.yp_base.specs.Order.{path_cmp}
use Rattle.yp_base.specs.Paths.{is_above, topmost}
use Rattle.yp_base.specs.PathLaws.{are_one, ties_itself, tie_turned, IsBefore}
use Rattle.yp_base.specs.Rows.{last_of, value_at}
use Rattle.yp_schema.specs.Datastore.{has_row}
use Rattle.yp_changes.specs.Among.{is_listed}
use Rattle.yp_changes.specs.Records.{changed_paths, put_paths, touched_paths, change_at, told, window_record}
use Rattle.yp_changes.specs.WindowLaws.{PathsRise, puts_rise, puts_listed, none_rise}
use Rattle.yp_touch.specs.declared.root.Root.{Root}
use Rattle.yp_touch.specs.Absorbed.{flagged, paths_of, root_at, AreTopmost, was_in, absorbed, all_absorbed, roots_since, root_change, recorded}
use Rattle.yp_touch.specs.RecordLaws.{unchanged}
use Rattle.yp_touch.proofs.Topped.{has_above, topmost_listed, any_puts, topmost_rise, topmost_twice, topmost_join}

pub paths_back : (was : List Seg → Bool) (paths : List (List Seg)) → paths_of (map (root_at was) paths) ≡ paths
paths_back was [] = refl
paths_back was (path ∷ paths) = ap (λ (more : List (List Seg)). path ∷ more) (paths_back was paths)

was_told : (was : List Seg → Bool) (paths : List (List Seg)) (before : List Row) (path : List Seg) → was_in (map (root_at was) paths) before path ≡ cond (is_listed path paths) (was path) (has_row path before)
was_told was [] before path = refl
was_told was (first ∷ paths) before path =
    elim (is_eq (path_cmp path first)) as (λ b. is_eq (path_cmp path first) ≡ b → cond b (was first) (was_in (map (root_at was) paths) before path) ≡ cond (b || is_listed path paths) (was path) (has_row path before)) [
      | true ↦ λ e. ap was (sym (are_one path first e))
      | false ↦ λ e. was_told was paths before path
    ] refl

all_pass : (t : List Seg → Bool) (paths : List (List Seg)) → AllByRecursion (λ path. t path ≡ true) (filter t paths)
all_pass t [] = tt
all_pass t (path ∷ paths) = at_first (all_pass t paths) (t path) refl
  where
    at_first : AllByRecursion (λ path. t path ≡ true) (filter t paths) → (b : Bool) → t path ≡ b → AllByRecursion (λ path. t path ≡ true) (cond b (path ∷ filter t paths) (filter t paths))
    at_first later true is = (is, later)
    at_first later false is = later

map_same : (f g : List Seg → Root) (t : List Seg → Bool) (paths : List (List Seg)) → AllByRecursion (λ path. t path ≡ true) paths → ((path : List Seg) → t path ≡ true → f path ≡ g path) → map f paths ≡ map g paths
map_same f g t [] all same = refl
map_same f g t (path ∷ paths) all same = λ i. same path all.0 i ∷ map_same f g t paths all.1 same i

-- paths that aren't touched have one value from the first selection on
abbrev pub StaysElsewhere : List (List Seg) → List Row → List Row → Type 0
StaysElsewhere touched first selected = (path : List Seg) → is_listed path touched ≡ false → value_at path first ≡ value_at path selected

right_false : (a b : Bool) → not (a || b) ≡ true → b ≡ false
right_false true b h = absurd (true≢false (sym h))
right_false false true h = absurd (true≢false (sym h))
right_false false false h = refl

module _ (first : List Row) where
  abbrev was : List Seg → Bool
  was path = has_row path first

  was_first : (touched : List (List Seg)) (selected : List Row) (news : List (List Seg)) → StaysElsewhere touched first selected → (path : List Seg) → not (has_above path (put_paths news touched)) ≡ true
      → was_in (roots_since first touched) selected path ≡ has_row path first
  was_first touched selected news stays path top =
      let free : has_above path touched ≡ false = right_false (has_above path news) (has_above path touched) (ap not (sym (any_puts (λ above. is_above above path) news touched)) ∙ top) in
      was_told was (topmost touched) selected path
      ∙ ap (λ b. cond b (was path) (has_row path selected)) (topmost_listed path touched ∙ ap (λ b. is_listed path touched && not b) free)
      ∙ elim (is_listed path touched) as (λ b. is_listed path touched ≡ b → cond (b && true) (was path) (has_row path selected) ≡ has_row path first) [
        | true ↦ λ e. refl
        | false ↦ λ e. ap is_some (sym (stays path e))
      ] refl

  -- one step
  pub step : (touched : List (List Seg)) (selected next : List Row) → PathsRise touched → StaysElsewhere touched first selected
      → absorbed (roots_since first touched) selected next ≡ roots_since first (put_paths (changed_paths selected next) touched)
  step touched selected next rise stays =
      let roots = roots_since first touched in
      let news = changed_paths selected next in
      let all = put_paths news touched in
      ap (λ (paths : List (List Seg)). map (root_at (was_in roots selected)) (topmost (put_paths news paths))) (paths_back was (topmost touched))
      ∙ ap (map (root_at (was_in roots selected))) (topmost_join news touched rise)
      ∙ map_same (root_at (was_in roots selected)) (root_at was) (λ path. not (has_above path all)) (topmost all) (all_pass (λ path. not (has_above path all)) all)
      (λ path top. ap (λ (b : Bool). root_at (λ p. b) path) (was_first touched selected news stays path top))

  pub stays_on : (touched : List (List Seg)) (selected next : List Row) → StaysElsewhere touched first selected → StaysElsewhere (put_paths (changed_paths selected next) touched) first next
  stays_on touched selected next stays path out =
      let parts = or_parts (is_listed path (changed_paths selected next)) (is_listed path touched) (sym (puts_listed path (changed_paths selected next) touched) ∙ out) in
      stays path parts.1 ∙ unchanged selected next path parts.0

  -- all steps
  absorbs_from : (touched : List (List Seg)) (selected : List Row) (later : List (List Row)) → PathsRise touched → StaysElsewhere touched first selected
      → all_absorbed (roots_since first touched) selected later ≡ roots_since first (touched_paths touched selected later)
  absorbs_from touched selected [] rise stays = refl
  absorbs_from touched selected (next ∷ later) rise stays =
      ap (λ (roots : List Root). all_absorbed roots next later) (step touched selected next rise stays)
      ∙ absorbs_from (put_paths (changed_paths selected next) touched) next later (puts_rise (changed_paths selected next) touched rise) (stays_on touched selected next stays)

-- after a window of selections the roots are the topmost of all that was touched in it, as they were in its first selection
pub absorbs : (first : List Row) (later : List (List Row)) → all_absorbed [] first later ≡ roots_since first (touched_paths [] first later)
absorbs first later = absorbs_from first [] first later none_rise (λ path out. refl)

record_map : (first new : List Row) (paths : List (List Seg)) → map (root_change new) (map (root_at (λ path. has_row path first)) paths) ≡ map (change_at first new) paths
record_map first new [] = refl
record_map first new (path ∷ paths) = ap (λ (more : List Change). change_at first new path ∷ more) (record_map first new paths)

-- and their record is the record of the window
pub records : (excluded : Kinds) (first : List Row) (later : List (List Row)) → recorded excluded (all_absorbed [] first later) (last_of first later) ≡ window_record excluded first later
records excluded first later =
    ap (λ (roots : List Root). recorded excluded roots (last_of first later)) (absorbs first later)
    ∙ ap (told excluded) (record_map first (last_of first later) (topmost (touched_paths [] first later)))

-- one more selection at the end is one more step
pub absorbed_last : (roots : List Root) (first : List Row) (later : List (List Row)) (next : List Row) → all_absorbed roots first (later ++ next ∷ []) ≡ absorbed (all_absorbed roots first later) (last_of first later) next
absorbed_last roots first [] next = refl
absorbed_last roots first (one ∷ later) next = absorbed_last (absorbed roots first one) one later next

-- ---- roots by their paths and flags

later_same : (root : Root) (roots : List Root) (before : List Row) (paths : List (List Seg)) → IsBefore root.path paths → map (was_in (root ∷ roots) before) paths ≡ map (was_in roots before) paths
later_same root roots before [] all = refl
later_same root roots before (path ∷ paths) all =
    let apart : is_eq (path_cmp path root.path) ≡ false = tie_turned path root.path ∙ ap is_eq all.0 in
    λ i. cond (apart i) root.was (was_in roots before path) ∷ later_same root roots before paths all.1 i

-- the flags of roots are told by their paths
pub flags_told : (paths : List (List Seg)) (flags : List Bool) (before : List Row) → length paths ≡ length flags → PathsRise paths → flags ≡ map (was_in (flagged paths flags) before) paths
unfolding IsStrictlySortedBy
flags_told [] [] before same rise = refl
flags_told [] (flag ∷ flags) before same rise = absurd (omega (arith, same))
flags_told (path ∷ paths) [] before same rise = absurd (omega (arith, same))
flags_told (path ∷ paths) (flag ∷ flags) before same rise =
    let here : flag ≡ cond (is_eq (path_cmp path path)) flag (was_in (flagged paths flags) before path) = sym (ap (λ b. cond b flag (was_in (flagged paths flags) before path)) (ties_itself path)) in
    let later = flags_told paths flags before (omega (arith, same)) rise.1 ∙ sym (later_same (record { path = path; was = flag }) (flagged paths flags) before paths rise.0) in
    λ i. here i ∷ later i

-- the paths of roots
pub flagged_paths : (paths : List (List Seg)) (flags : List Bool) → length paths ≡ length flags → paths_of (flagged paths flags) ≡ paths
flagged_paths [] flags same = refl
flagged_paths (path ∷ paths) [] same = absurd (omega (arith, same))
flagged_paths (path ∷ paths) (flag ∷ flags) same = ap (λ (more : List (List Seg)). path ∷ more) (flagged_paths paths flags (omega (arith, same)))

pub flagged_map : (was : List Seg → Bool) (paths : List (List Seg)) → flagged paths (map was paths) ≡ map (root_at was) paths
flagged_map was [] = refl
flagged_map was (path ∷ paths) = ap (λ (roots : List Root). root_at was path ∷ roots) (flagged_map was paths)

-- a path that is no root is told by the selection
pub was_before : (roots : List Root) (before : List Row) (path : List Seg) → is_listed path (paths_of roots) ≡ false → was_in roots before path ≡ has_row path before
was_before [] before path out = refl
was_before (root ∷ roots) before path out =
    elim (is_eq (path_cmp path root.path)) as (λ b. (b || is_listed path (paths_of roots)) ≡ false → cond b root.was (was_in roots before path) ≡ has_row path before) [
      | true ↦ λ h. absurd (true≢false h)
      | false ↦ λ h. was_before roots before path h
    ] out

-- what is absorbed stands topmost again
pub absorbed_are : (roots : List Root) (before after : List Row) → PathsRise (paths_of roots) → AreTopmost (paths_of (absorbed roots before after))
absorbed_are roots before after rise =
    let all = put_paths (changed_paths before after) (paths_of roots) in
    let all_rise = puts_rise (changed_paths before after) (paths_of roots) rise in
    subst AreTopmost (sym (paths_back (was_in roots before) (topmost all))) (record { in_order = topmost_rise all all_rise; topmost = topmost_twice all all_rise })

-- no paths do
pub none_are : AreTopmost []
none_are = record { in_order = none_rise; topmost = refl }
