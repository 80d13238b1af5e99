-- What follows of windows: of paths in order with more of them, and of the record of one step.
use Rattle.std.proofs.Common.{◌≡◌, Bool, true, false, not, ◌||◌, List, [], ◌∷◌, map, refl, sym, ap, subst, ◌∙◌, cond, Option, Some, None}
use Rattle.std.specs.List.Sorted.{IsStrictlySortedBy}
use Rattle.std.specs.Ordering.{is_eq, match_ordering}
use Rattle.std.specs.declared.cmp.Ordering.TheVariants.{Less, Equal, Greater}
use Rattle.std.proofs.lemmas.Cmp.{alike_right}
use Rattle.yp_base.specs.declared.path.Seg.{Seg}
use Rattle.yp_base.specs.declared.row.Row.{Row}
use Rattle.yp_base.specs.declared.notice.Change.{Change}
use Rattle.yp_base.specs.declared.notice.Kinds.{Kinds}
use Rattle.yp_base.specs.Order.{path_cmp}
use Rattle.yp_base.specs.OrderLaws.{paths_total}
use Rattle.yp_base.specs.Paths.{topmost}
use Rattle.yp_base.specs.PathLaws.{are_one, greater_turned, IsBefore, before_all, or_turned}
use Rattle.yp_base.specs.Rows.{AreInOrder}
use Rattle.yp_changes.specs.declared.changed.ChangedRow.{ChangedRow}
use Rattle.yp_changes.specs.Among.{is_listed}
use Rattle.yp_changes.specs.ChangeLaws.{paths_in, change_in, same_changes, changed_sorted}
use Rattle.yp_changes.specs.Records.{changed_paths, change_at, change_record, put_path, put_paths, is_excluded, HasNone, told, window_record}

-- ---- the statement of the law

-- where no kind is excluded, the record of a window of one step is the record of the step
abbrev pub OneStepIsAStep : Type 0
OneStepIsAStep = (excluded : Kinds) (first next : List Row) → HasNone excluded → AreInOrder first → window_record excluded first (next ∷ []) ≡ change_record first next

-- ---- paths in order

-- paths in order, each once
abbrev pub PathsRise : List (List Seg) → Type 0
PathsRise paths = IsStrictlySortedBy path_cmp paths

put_before : (path new : List Seg) (paths : List (List Seg)) → path_cmp path new ≡ Less → IsBefore path paths → IsBefore path (put_path new paths)
put_before path new [] less all = (less, tt)
put_before path new (first ∷ paths) less all =
    elim (path_cmp new first) as (λ o. IsBefore path (match_ordering o (new ∷ first ∷ paths) (first ∷ paths) (first ∷ put_path new paths))) [
      | Less ↦ (less, all)
      | Equal ↦ all
      | Greater ↦ (all.0, put_before path new paths less all.1)
    ]

pub put_rises : (new : List Seg) (paths : List (List Seg)) → PathsRise paths → PathsRise (put_path new paths)
unfolding IsStrictlySortedBy
put_rises new [] rise = (tt, tt)
put_rises new (first ∷ paths) rise =
    elim (path_cmp new first) as (λ o. path_cmp new first ≡ o → IsStrictlySortedBy path_cmp (match_ordering o (new ∷ first ∷ paths) (first ∷ paths) (first ∷ put_path new paths))) [
      | Less ↦ λ e. ((e, before_all new first paths e rise.0), rise)
      | Equal ↦ λ e. rise
      | Greater ↦ λ e. (put_before first new paths (greater_turned new first e) rise.0, put_rises new paths rise.1)
    ] refl

pub puts_rise : (news paths : List (List Seg)) → PathsRise paths → PathsRise (put_paths news paths)
puts_rise [] paths rise = rise
puts_rise (new ∷ news) paths rise = puts_rise news (put_path new paths) (put_rises new paths rise)

pub none_rise : PathsRise []
unfolding IsStrictlySortedBy
none_rise = tt

same_twice : (a b : Bool) → (a || b) ≡ (a || (a || b))
same_twice true b = refl
same_twice false b = refl

pub put_listed : (path new : List Seg) (paths : List (List Seg)) → is_listed path (put_path new paths) ≡ (is_eq (path_cmp path new) || is_listed path paths)
put_listed path new [] = refl
put_listed path new (first ∷ paths) =
    elim (path_cmp new first) as (λ o. path_cmp new first ≡ o → is_listed path (match_ordering o (new ∷ first ∷ paths) (first ∷ paths) (first ∷ put_path new paths)) ≡ (is_eq (path_cmp path new) || (is_eq (path_cmp path first) || is_listed path paths))) [
      | Less ↦ λ e. refl
      | Equal ↦ λ e.
          same_twice (is_eq (path_cmp path first)) (is_listed path paths)
          ∙ ap (λ o. is_eq o || (is_eq (path_cmp path first) || is_listed path paths)) (sym (alike_right paths_total new first path e))
      | Greater ↦ λ e.
          ap (λ b. is_eq (path_cmp path first) || b) (put_listed path new paths)
          ∙ or_turned (is_eq (path_cmp path first)) (is_eq (path_cmp path new)) (is_listed path paths)
    ] refl

or_grouped : (a b c : Bool) → (a || (b || c)) ≡ ((a || b) || c)
or_grouped true b c = refl
or_grouped false b c = refl

-- a path is among paths with more of them where it is one of these
pub puts_listed : (path : List Seg) (news paths : List (List Seg)) → is_listed path (put_paths news paths) ≡ (is_listed path news || is_listed path paths)
puts_listed path [] paths = refl
puts_listed path (new ∷ news) paths =
    puts_listed path news (put_path new paths)
    ∙ ap (λ b. is_listed path news || b) (put_listed path new paths)
    ∙ or_turned (is_listed path news) (is_eq (path_cmp path new)) (is_listed path paths)
    ∙ or_grouped (is_eq (path_cmp path new)) (is_listed path news) (is_listed path paths)

-- ---- lists of paths in order are one where they have the same paths

abbrev tag : List Seg → ChangedRow
tag path = record { path = path; old = None; new = None }

tagged : List (List Seg) → List ChangedRow
tagged paths = map tag paths

untagged : (paths : List (List Seg)) → paths_in (tagged paths) ≡ paths
unfolding tagged
untagged [] = refl
untagged (path ∷ paths) = ap (λ (more : List (List Seg)). path ∷ more) (untagged paths)

tag_at : (path : List Seg) (paths : List (List Seg)) → change_in path (tagged paths) ≡ cond (is_listed path paths) (Some (tag path)) None
unfolding tagged
tag_at path [] = refl
tag_at path (first ∷ paths) =
    elim (is_eq (path_cmp path first)) as (λ b. is_eq (path_cmp path first) ≡ b → cond b (Some (tag first)) (change_in path (tagged paths)) ≡ cond (b || is_listed path paths) (Some (tag path)) None) [
      | true ↦ λ e. ap (λ (p : List Seg). Some (tag p)) (sym (are_one path first e))
      | false ↦ λ e. tag_at path paths
    ] refl

pub same_paths : (xs ys : List (List Seg)) → PathsRise xs → PathsRise ys → ((path : List Seg) → is_listed path xs ≡ is_listed path ys) → xs ≡ ys
same_paths xs ys s t same =
    sym (untagged xs)
    ∙ ap paths_in
    (same_changes (tagged xs) (tagged ys) (subst PathsRise (sym (untagged xs)) s) (subst PathsRise (sym (untagged ys)) t)
    (λ path. tag_at path xs ∙ ap (λ b. cond b (Some (tag path)) None) (same path) ∙ sym (tag_at path ys)))
    ∙ untagged ys

-- changed paths are in order
pub changed_rise : (before after : List Row) → AreInOrder before → PathsRise (changed_paths before after)
changed_rise before after order = changed_sorted before after order

-- paths in order that are put into none stay as they are
pub puts_none : (paths : List (List Seg)) → PathsRise paths → put_paths paths [] ≡ paths
puts_none paths rise =
    same_paths (put_paths paths []) paths (puts_rise paths [] none_rise) rise (λ path. puts_listed path paths [] ∙ or_false (is_listed path paths))
  where
    or_false : (b : Bool) → (b || false) ≡ b
    or_false true = refl
    or_false false = refl

-- ---- the record of one step

-- where no kind is excluded, all edits are told
pub told_all : (excluded : Kinds) (changes : List Change) → HasNone excluded → told excluded changes ≡ changes
told_all excluded [] none = refl
told_all excluded (change ∷ changes) none =
    ap (λ b. cond (not b) (change ∷ told excluded changes) (told excluded changes)) (none change.kind)
    ∙ ap (λ (more : List Change). change ∷ more) (told_all excluded changes none)

pub one_step : OneStepIsAStep
one_step excluded first next none order =
    told_all excluded (map (change_at first next) (topmost (put_paths (changed_paths first next) []))) none
    ∙ ap (λ (paths : List (List Seg)). map (change_at first next) (topmost paths)) (puts_none (changed_paths first next) (changed_rise first next order))
