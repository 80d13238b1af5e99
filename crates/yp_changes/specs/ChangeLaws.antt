-- What follows of the rows that differ: at each path the change of its row, in the order of the paths, each once.
use Rattle.std.proofs.Common.{◌≡◌, List, [], ◌∷◌, map, refl, sym, ap, subst, ◌∙◌, cond, Bool, true, false, true≢false, ◌||◌, Option, Some, None}
use Rattle.std.specs.List.{filter_map, cons_option}
use Rattle.std.specs.List.Sorted.{IsStrictlySortedBy}
use Rattle.std.specs.Ordering.{is_eq}
use Rattle.std.specs.declared.cmp.Ordering.TheVariants.{Less, Equal, Greater}
use Rattle.std.proofs.lemmas.Cmp.{tied_itself}
use Rattle.std.proofs.lemmas.Map.Views.{tells_apart}
use Rattle.yp_base.specs.declared.atom.Atom.{Atom}
use Rattle.yp_base.specs.declared.path.Seg.{Seg}
use Rattle.yp_base.specs.declared.row.Value.{Value}
use Rattle.yp_base.specs.declared.row.Value.TheVariants.{Atom as Plain, Member, Empty, Present}
use Rattle.yp_base.specs.declared.row.Row.{Row}
use Rattle.yp_base.specs.Order.{path_cmp}
use Rattle.yp_base.specs.OrderLaws.{atoms_total, paths_total}
use Rattle.yp_base.specs.Exact.{atoms_exact}
use Rattle.yp_base.specs.PathLaws.{are_one, greater_turned, IsBefore, before_all}
use Rattle.yp_base.specs.Rows.{path_of, same_value, value_at, put_row, put_rows, AreInOrder}
use Rattle.yp_base.specs.RowLaws.{values_decide, value_at_put, puts_order}
use Rattle.yp_changes.specs.declared.changed.ChangedRow.{ChangedRow}
use Rattle.yp_changes.specs.Among.{is_listed}
use Rattle.yp_changes.specs.Changes.{are_alike, change_of, row_change, paths_of_both, changed_rows}

-- ---- values that are alike

pub alike_itself : (value : Option Value) → are_alike value value ≡ true
alike_itself None = refl
alike_itself (Some value) = (values_decide value value).1 refl

-- rows that are alike have one value
pub alike_is : (one other : Option Value) → are_alike one other ≡ true → one ≡ other
alike_is None None h = refl
alike_is None (Some new) h = absurd (true≢false (sym h))
alike_is (Some old) None h = absurd (true≢false (sym h))
alike_is (Some old) (Some new) h = ap (λ (v : Value). Some v) ((values_decide old new).0 h)

-- where two rows have one value there is no change
pub no_change : (path : List Seg) (one other : Option Value) → one ≡ other → change_of path one other ≡ None
no_change path one other same = ap (λ b. cond b None (Some (record { path = path; old = one; new = other }))) (ap (are_alike one) (sym same) ∙ alike_itself one)

-- the change of a path is of this path
pub change_path : (path : List Seg) (one other : Option Value) (change : ChangedRow) → change_of path one other ≡ Some change → change.path ≡ path
change_path path one other change is =
    elim (are_alike one other) as (λ b. cond b None (Some (record { path = path; old = one; new = other })) ≡ Some change → change.path ≡ path) [
      | true ↦ λ h. let no : None ≡ Some change = h in cc
      | false ↦ λ h. let made : ChangedRow = record { path = path; old = one; new = other } in let same : made ≡ change = cc in ap (λ (c : ChangedRow). c.path) (sym same)
    ] is

-- ---- changes in the order of their paths

-- the paths of changes
abbrev pub paths_in : List ChangedRow → List (List Seg)
paths_in changes = map (λ change. change.path) changes

-- the change of a path among others, where there is one
abbrev pub change_in : List Seg → List ChangedRow → Option ChangedRow
change_in path [] = None
change_in path (change ∷ changes) = cond (is_eq (path_cmp path change.path)) (Some change) (change_in path changes)

-- changes that are in the order of their paths, each path once
abbrev pub AreSorted : List ChangedRow → Type 0
AreSorted changes = IsStrictlySortedBy path_cmp (paths_in changes)

-- a path that is before all of them has no change
pub none_before : (path : List Seg) (changes : List ChangedRow) → IsBefore path (paths_in changes) → change_in path changes ≡ None
none_before path [] all = refl
none_before path (change ∷ changes) all = rw all.0 (none_before path changes all.1)

at_first : (change : ChangedRow) (changes : List ChangedRow) → change_in change.path (change ∷ changes) ≡ Some change
at_first change changes = rw (tied_itself paths_total change.path) refl

-- behind the first change
at_rest : (path : List Seg) (change : ChangedRow) (changes : List ChangedRow) (here : Bool) → is_eq (path_cmp path change.path) ≡ here → IsBefore change.path (paths_in changes) → change_in path changes ≡ cond here None (change_in path (change ∷ changes))
at_rest path change changes true h all = none_before path changes (subst (λ (p : List Seg). IsBefore p (paths_in changes)) (sym (are_one path change.path h)) all)
at_rest path change changes false h all = rw h refl

missed : (x y : ChangedRow) (xs ys : List ChangedRow) → path_cmp x.path y.path ≡ Less → IsBefore y.path (paths_in ys) → change_in x.path (x ∷ xs) ≡ change_in x.path (y ∷ ys) → ⊥
missed x y xs ys less all same =
    let both : Some x ≡ None = sym (at_first x xs) ∙ same ∙ none_before x.path (y ∷ ys) (less, before_all x.path y.path (paths_in ys) less all) in
    cc

-- changes in order are one where each path has in one what it has in the other
pub same_changes : (xs ys : List ChangedRow) → AreSorted xs → AreSorted ys → ((path : List Seg) → change_in path xs ≡ change_in path ys) → xs ≡ ys
unfolding IsStrictlySortedBy
same_changes [] [] s t same = refl
same_changes [] (y ∷ ys) s t same = let both : None ≡ Some y = same y.path ∙ at_first y ys in cc
same_changes (x ∷ xs) [] s t same = let both : Some x ≡ None = sym (at_first x xs) ∙ same x.path in cc
same_changes (x ∷ xs) (y ∷ ys) s t same =
    elim (path_cmp x.path y.path) as (λ o. path_cmp x.path y.path ≡ o → x ∷ xs ≡ y ∷ ys) [
      | Less ↦ λ o. absurd (missed x y xs ys o t.0 (same x.path))
      | Greater ↦ λ o. absurd (missed y x ys xs (greater_turned x.path y.path o) s.0 (sym (same y.path)))
      | Equal ↦ λ o.
          let found : Some x ≡ Some y = sym (at_first x xs) ∙ same x.path ∙ (rw o refl) in
          let first : x ≡ y = cc in
          let rest : xs ≡ ys = same_changes xs ys s.1 t.1 (λ path.
          at_rest path x xs (is_eq (path_cmp path x.path)) refl s.0
          ∙ ap (cond (is_eq (path_cmp path x.path)) None) (same path)
          ∙ sym (at_rest path y ys (is_eq (path_cmp path x.path)) (ap (λ (change : ChangedRow). is_eq (path_cmp path change.path)) (sym first)) t.0)) in
          λ i. first i ∷ rest i
    ] refl

-- ---- what is found at some paths

both_none : (b : Bool) (value : Option ChangedRow) → value ≡ None → cond b value None ≡ None
both_none true value none = none
both_none false value none = refl

module _ (f : List Seg → Option ChangedRow) (of_path : (path : List Seg) (change : ChangedRow) → f path ≡ Some change → change.path ≡ path) where
  found_at : (q : List Seg) (paths : List (List Seg)) → change_in q (filter_map f paths) ≡ cond (is_listed q paths) (f q) None
  found_at q [] = refl
  found_at q (path ∷ paths) =
      elim (f path) as (λ r. f path ≡ r → change_in q (cons_option r (filter_map f paths)) ≡ cond (is_eq (path_cmp q path) || is_listed q paths) (f q) None) [
        | None ↦ λ is. elim (is_eq (path_cmp q path)) as (λ b. is_eq (path_cmp q path) ≡ b → change_in q (filter_map f paths) ≡ cond (b || is_listed q paths) (f q) None) [
          | true ↦ λ here.
              let none : f q ≡ None = ap f (are_one q path here) ∙ is in
              found_at q paths ∙ both_none (is_listed q paths) (f q) none ∙ sym none
          | false ↦ λ here. found_at q paths
        ] refl
        | Some change ↦ λ is.
            let first : is_eq (path_cmp q change.path) ≡ is_eq (path_cmp q path) = ap (λ p. is_eq (path_cmp q p)) (of_path path change is) in
            ap (λ b. cond b (Some change) (change_in q (filter_map f paths))) first
            ∙ elim (is_eq (path_cmp q path)) as (λ b. is_eq (path_cmp q path) ≡ b → cond b (Some change) (change_in q (filter_map f paths)) ≡ cond (b || is_listed q paths) (f q) None) [
              | true ↦ λ here. sym is ∙ ap f (sym (are_one q path here))
              | false ↦ λ here. found_at q paths
            ] refl
      ] refl

  -- a path that is before some is before what is found there
  pub found_before : (p : List Seg) (paths : List (List Seg)) → IsBefore p paths → IsBefore p (paths_in (filter_map f paths))
  found_before p [] all = tt
  found_before p (path ∷ paths) all =
      elim (f path) as (λ r. f path ≡ r → IsBefore p (paths_in (cons_option r (filter_map f paths)))) [
        | None ↦ λ is. found_before p paths all.1
        | Some change ↦ λ is. (ap (path_cmp p) (of_path path change is) ∙ all.0, found_before p paths all.1)
      ] refl

  found_sorted : (paths : List (List Seg)) → IsStrictlySortedBy path_cmp paths → AreSorted (filter_map f paths)
  unfolding IsStrictlySortedBy
  found_sorted [] s = tt
  found_sorted (path ∷ paths) s =
      elim (f path) as (λ r. f path ≡ r → AreSorted (cons_option r (filter_map f paths))) [
        | None ↦ λ is. found_sorted paths s.1
        | Some change ↦ λ is. (subst (λ (p : List Seg). IsBefore p (paths_in (filter_map f paths))) (sym (of_path path change is)) (found_before path paths s.0), found_sorted paths s.1)
      ] refl

  -- what is found at two lists of paths in order is one where each path that has something is in both
  pub found_alike : (xs ys : List (List Seg)) → IsStrictlySortedBy path_cmp xs → IsStrictlySortedBy path_cmp ys → ((q : List Seg) → is_listed q xs ≡ false → f q ≡ None) → ((q : List Seg) → is_listed q ys ≡ false → f q ≡ None) → filter_map f xs ≡ filter_map f ys
  found_alike xs ys s t none_x none_y =
      same_changes (filter_map f xs) (filter_map f ys) (found_sorted xs s) (found_sorted ys t) (λ q.
      found_at q xs ∙ listed_or (is_listed q xs) (f q) (none_x q) ∙ sym (listed_or (is_listed q ys) (f q) (none_y q)) ∙ sym (found_at q ys))
    where
      listed_or : (b : Bool) (value : Option ChangedRow) → (b ≡ false → value ≡ None) → cond b value None ≡ value
      listed_or true value none = refl
      listed_or false value none = sym (none refl)

-- ---- the rows that differ

unlisted_row : (q : List Seg) (rows : List Row) → is_listed q (map path_of rows) ≡ false → value_at q rows ≡ None
unlisted_row q [] h = refl
unlisted_row q (row ∷ rows) h =
    elim (is_eq (path_cmp q row.path)) as (λ b. (b || is_listed q (map path_of rows)) ≡ false → cond b (Some row.value) (value_at q rows) ≡ None) [
      | true ↦ λ k. absurd (true≢false k)
      | false ↦ λ k. unlisted_row q rows k
    ] h

pub neither : (b : Bool) (value : Value) (other : Option Value) → cond b (Some value) other ≡ None → (b ≡ false) × (other ≡ None)
neither true value other h = let no : Some value ≡ None = h in cc
neither false value other h = (refl, h)

in_neither : (q : List Seg) (news rows : List Row) → value_at q (put_rows news rows) ≡ None → (value_at q news ≡ None) × (value_at q rows ≡ None)
in_neither q [] rows h = (refl, h)
in_neither q (new ∷ news) rows h =
    let rest = in_neither q news (put_row new rows) h in
    let one = neither (is_eq (path_cmp q new.path)) new.value (value_at q rows) (sym (value_at_put q new rows) ∙ rest.1) in
    (ap (λ b. cond b (Some new.value) (value_at q news)) one.0 ∙ rest.0, one.1)

-- where neither list has a row, none differs
pub unlisted_same : (rows after : List Row) (q : List Seg) → is_listed q (map path_of (put_rows after rows)) ≡ false → row_change rows after q ≡ None
unlisted_same rows after q h =
    let none = in_neither q after rows (unlisted_row q (put_rows after rows) h) in
    no_change q (value_at q rows) (value_at q after) (none.1 ∙ sym none.0)

-- the change of a path's row is of this path
pub of_path : (rows after : List Row) (path : List Seg) (change : ChangedRow) → row_change rows after path ≡ Some change → change.path ≡ path
of_path rows after path change is = change_path path (value_at path rows) (value_at path after) change is

-- each path has the change of its row
pub changed_at : (rows after : List Row) (q : List Seg) → change_in q (changed_rows rows after) ≡ row_change rows after q
changed_at rows after q =
    let paths = map path_of (put_rows after rows) in
    found_at (row_change rows after) (of_path rows after) q paths
    ∙ elim (is_listed q paths) as (λ b. is_listed q paths ≡ b → cond b (row_change rows after q) None ≡ row_change rows after q) [
      | true ↦ λ h. refl
      | false ↦ λ h. sym (unlisted_same rows after q h)
    ] refl

-- they are in the order of their paths, each once
pub changed_sorted : (rows after : List Row) → AreInOrder rows → AreSorted (changed_rows rows after)
changed_sorted rows after order = found_sorted (row_change rows after) (of_path rows after) (map path_of (put_rows after rows)) (puts_order after rows order)

none_changed : (rows : List Row) (paths : List (List Seg)) → filter_map (row_change rows rows) paths ≡ []
none_changed rows [] = refl
none_changed rows (path ∷ paths) = rw (alike_itself (value_at path rows)) (none_changed rows paths)

-- rows that stay as they were differ in nothing
pub none_differ : (before after : List Row) → after ≡ before → changed_rows before after ≡ []
none_differ before after same = rw same (none_changed before (paths_of_both before before))
